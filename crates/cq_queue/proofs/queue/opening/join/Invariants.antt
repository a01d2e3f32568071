use Rattle.std.proofs.Common.{length}
use Rattle.cq_queue.proofs.Joining.{JoinsTo}
use Rattle.cq_queue.proofs.queue.opening.join.Given as goal

abbrev pub invariant-loop-segment : goal.invariant-loop-segment
invariant-loop-segment l = JoinsTo l.queue l.fn.segments.items l.fn.stores.items l.segments.items l.stores.items l.list.items

abbrev pub decreases-loop-segment : goal.decreases-loop-segment
decreases-loop-segment l = length l.segments.items
