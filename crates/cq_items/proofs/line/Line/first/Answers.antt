use Rattle.std.proofs.Common.{ap, ◌∙◌, arith}
use Rattle.std.specs.Prelude.{Some}
use Rattle.std.specs.BinaryHeap.{heap_items}
use Rattle.cq_items.proofs.Ascending.{top-first}
use Rattle.cq_items.proofs.line.Line.first.Goals as goal

pub returns-in-Some : goal.returns-in-Some
returns-in-Some c = rw (← c.self.view_is) (ap Some c.number_of.ensures ∙ top-first (heap_items c.self.inside.back) c.self.inside.fresh.items c.in-Some.top.now (grind (arith, c.in-Some.ensures.variant)) c.in-Some.ensures.lookup (c.in-Some.ensures.greatest c.self.invariant))
