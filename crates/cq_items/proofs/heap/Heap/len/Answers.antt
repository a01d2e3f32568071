use Rattle.std.proofs.Common.{arith}
use Rattle.std.specs.BinaryHeap.{heap_items}
use Rattle.cq_items.proofs.Ascending.{length-ascending}
use Rattle.cq_items.proofs.heap.Heap.len.Goals as goal

pub returns : goal.returns
returns c = rw (← c.self.view_is) (omega (arith, length-ascending (heap_items c.self.inside.places)))
