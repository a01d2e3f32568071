use Rattle.std.proofs.Common.{take}
use Rattle.cq_queues.specs.Changes.{HasGivenBack, StayOnDisk}
use Rattle.cq_queues.specs.Queues.{queue_at}
use Rattle.cq_queues.proofs.queues.NodeQueues.give_back.Given as goal

abbrev pub invariant-loop-queue : goal.invariant-loop-queue
invariant-loop-queue l = HasGivenBack l.client (take l.queue-index l.queues) (queue_at l.fn.self) (queue_at l.self) × StayOnDisk (queue_at l.fn.self) (queue_at l.self)
