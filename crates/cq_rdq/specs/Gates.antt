-- The gate of a shared file.
use Rattle.std.specs.Prelude.{◌≡◌, ℕ}
use Rattle.cq_gate.specs.declared.gate.Gate.{Gate}
use Rattle.cq_gate.specs.Gate.{name_of, plan_len_of}
use Rattle.cq_rdq.specs.Records.{shared_name}

-- the gate is that of this number's file, without a plan
pub record IsSharedGate (number : ℕ) (gate : Gate) : Type 0 where
  pub named : name_of gate ≡ shared_name number
  pub plain : plan_len_of gate ≡ 0
