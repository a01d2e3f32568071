use Rattle.std.proofs.Common.{◌-◌, take, length}
use Rattle.cq_print.specs.Bodies.{NotesLines}
use Rattle.cq_print.proofs.bodies.note_lines.Given as goal

abbrev pub invariant-loop-id : goal.invariant-loop-id
invariant-loop-id l = NotesLines l.fn.bodies l.bodies (take l.at l.lines)

abbrev pub decreases-loop-id : goal.decreases-loop-id
decreases-loop-id l = length l.lines - l.at
