use Rattle.std.proofs.Common.{None, Option, arith}
use Rattle.std.proofs.lemmas.List.{length-replicate}
use Rattle.std.proofs.lemmas.List.Elements.{All-replicate}
use Rattle.cq_marks.specs.declared.Marked.{Marked}
use Rattle.cq_marks.specs.Marks.{IsInRange}
use Rattle.cq_marks.proofs.Marks.new.Goals as goal

pub invariant_of-result : goal.invariant_of-result
invariant_of-result c = rw c.loop.invariant (record { few = omega (arith, length-replicate {A = Option Marked} c.loop.counter None, c.requires.few); ranges = All-replicate IsInRange c.loop.counter None tt })
