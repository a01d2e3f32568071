use Rattle.std.proofs.Common.{arith, length-append}
use Rattle.std.specs.BinaryHeap.{heap_items}
use Rattle.cq_items.specs.Line.{ascending}
use Rattle.cq_items.proofs.Ascending.{length-ascending}
use Rattle.cq_items.proofs.line.Line.len.Goals as goal

pub returns : goal.returns
returns c = rw (← c.self.view_is) (omega (arith, length-append (ascending (heap_items c.self.inside.back)) c.self.inside.fresh.items, length-ascending (heap_items c.self.inside.back)))
