use Rattle.std.proofs.Common.{take, reverse}
use Rattle.cq_print.specs.Bodies.{HasBodies}
use Rattle.cq_print.proofs.bodies.bodies_of.Given as goal

abbrev pub invariant-loop-entry : goal.invariant-loop-entry
invariant-loop-entry l = HasBodies l.bodies (reverse (take l.entry-index l.entries))
