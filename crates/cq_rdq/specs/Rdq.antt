-- A shared file that is open.
use Rattle.std.specs.Prelude.{ℕ, List}
use Rattle.cq_disk.specs.declared.name.Name.{Name}
use Rattle.cq_disk.specs.File.{File}
use Rattle.cq_gate.specs.declared.gate.Gate.{Gate}
use Rattle.cq_gate.specs.Gate.{IsGate, name_of as gate_name, end_of as gate_end, len_of as gate_len}
use Rattle.cq_block.specs.declared.layout.Block.{Block}
use Rattle.cq_rdq.specs.declared.rdq.Rdq.{Rdq}
use Rattle.cq_rdq.specs.Records.{Records}

-- its gate, and the name of its file
abbrev pub gate_of : Rdq → Gate
gate_of rdq = rdq.gate

abbrev pub name_of : Rdq → Name
name_of rdq = gate_name (gate_of rdq)

-- the number of its file
abbrev pub number_of : Rdq → ℕ
number_of rdq = (name_of rdq).number

-- where its content ends, and the file's length
abbrev pub end_of : Rdq → ℕ
end_of rdq = gate_end (gate_of rdq)

abbrev pub len_of : Rdq → ℕ
len_of rdq = gate_len (gate_of rdq)

-- a file that has records
abbrev pub HasSome : List ℕ → Type 0
HasSome file = ∥ ((list : List Block) × Records file list) ∥₁

-- the gate knows its file, which has records
pub record KnowsRecords (gate : Gate) (f : File) : Type 0 where
  pub is : IsGate gate f
  pub some : HasSome f.reads

-- the file is as the value's own calls left it
abbrev pub IsRdq : Rdq → File → Type 0
IsRdq rdq f = KnowsRecords (gate_of rdq) f
