-- The errors of a shared file that hand on those of its gate and of its chain.
use Rattle.cq_gate.specs.declared.error.GateError.{GateError}
use Rattle.cq_gate.specs.declared.error.GateError.TheVariants.{Fault as gate_fault, Damaged as gate_damaged}
use Rattle.cq_block.specs.declared.layout.BlockError.{BlockError}
use Rattle.cq_block.specs.declared.layout.BlockError.TheVariants.{Memory as block_memory, Broken}
use Rattle.cq_rdq.specs.declared.error.RdqError.{RdqError}
use Rattle.cq_rdq.specs.declared.error.RdqError.TheVariants.{Fault, Memory, Damaged}

-- the same error, with the same place and byte
abbrev pub of_gate : GateError → RdqError
of_gate gate_fault = Fault
of_gate (gate_damaged place found) = Damaged place found

-- the same error, with the same place and byte
abbrev pub of_block : BlockError → RdqError
of_block block_memory = Memory
of_block (Broken place found) = Damaged place found
