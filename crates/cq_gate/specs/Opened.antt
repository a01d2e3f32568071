-- A gate that is open, or none.
use Rattle.std.specs.Prelude.{ℕ, Option, Some, None}
use Rattle.cq_gate.specs.declared.gate.Gate.{Gate}

-- the length of the file of a gate, and none where no gate is open
abbrev pub gate_len : Option Gate → ℕ
gate_len None = 0
gate_len (Some gate) = gate.len

-- where the content of a gate ends, and where one would begin where no gate is open
abbrev pub gate_end : Option Gate → ℕ
gate_end None = 128
gate_end (Some gate) = gate.end

-- a fact of a gate that is open
abbrev pub IsThereGate : Option Gate → (Gate → Type 0) → Type 0
IsThereGate None P = ⊥
IsThereGate (Some gate) P = P gate
