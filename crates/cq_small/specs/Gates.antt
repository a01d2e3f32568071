-- The gate of a small store.
use Rattle.std.specs.Prelude.{◌≡◌}
use Rattle.cq_disk.specs.declared.name.Name.{Name}
use Rattle.cq_gate.specs.declared.gate.Gate.{Gate}
use Rattle.cq_gate.specs.Gate.{name_of, plan_len_of}

-- the gate is this file's, without a plan
pub record IsSmallGate (name : Name) (gate : Gate) : Type 0 where
  pub name_is : name_of gate ≡ name
  pub plain : plan_len_of gate ≡ 0
