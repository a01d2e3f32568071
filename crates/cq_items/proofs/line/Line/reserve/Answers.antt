use Rattle.std.proofs.Common.{arith, ap, length, length-append}
use Rattle.std.specs.BinaryHeap.{heap_items}
use Rattle.cq_items.specs.Line.{ascending}
use Rattle.cq_items.proofs.Ascending.{length-ascending}
use Rattle.cq_items.proofs.line.Line.reserve.Goals as goal

pub returns-clause-ok : goal.returns-clause-ok
returns-clause-ok c = omega (arith, length-append (ascending (heap_items c.reserve.new.self)) c.reserve-2.new.self.items, length-ascending (heap_items c.reserve.new.self), ap length c.reserve-2.ensures.items, c.in_ok-reserve.ensures.ok, c.in_ok-reserve-2.ensures.ok)
