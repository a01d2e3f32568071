-- The error of a segment that hands on that of a gate.
use Rattle.cq_gate.specs.declared.error.GateError.{GateError}
use Rattle.cq_gate.specs.declared.error.GateError.TheVariants.{Fault as gate_fault, Damaged as gate_damaged}
use Rattle.cq_index.specs.declared.error.SegmentError.{SegmentError}
use Rattle.cq_index.specs.declared.error.SegmentError.TheVariants.{Fault, Damaged}

-- the same error, with the same place and byte
abbrev pub of_gate : GateError → SegmentError
of_gate gate_fault = Fault
of_gate (gate_damaged place found) = Damaged place found
