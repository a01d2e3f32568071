use Rattle.std.proofs.Common.{take}
use Rattle.cq_queues.specs.Changes.{AreReserved, ChangesRoom}
use Rattle.cq_queues.specs.Queues.{queue_at}
use Rattle.cq_queues.proofs.queues.NodeQueues.reserve.Given as goal

abbrev pub invariant-loop-queue : goal.invariant-loop-queue
invariant-loop-queue l = ChangesRoom (queue_at l.fn.self) (queue_at l.self) × AreReserved (queue_at l.self) (take l.queue-index l.queues)
