use Rattle.std.proofs.Common.{◌≡◌, ℕ, ◌<◌, length}
use Rattle.cq_queue.specs.Values.{empty_queue}
use Rattle.cq_queues.specs.Values.{value_in}
use Rattle.cq_queues.proofs.queues.NodeQueues.vacant.Given as goal

abbrev pub invariant-loop-queue : goal.invariant-loop-queue
invariant-loop-queue l = (length l.cores.items ≡ l.queue) × ((r : ℕ) → r < l.queue → value_in l.cores.items r ≡ empty_queue r l.length)
