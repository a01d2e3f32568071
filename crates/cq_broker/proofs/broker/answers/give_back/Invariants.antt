use Rattle.std.proofs.Common.{map, take}
use Rattle.cq_client.specs.declared.open.OpenDelivery.{OpenDelivery}
use Rattle.cq_queues.specs.Changes.{HasGivenBack, StayOnDisk}
use Rattle.cq_queues.specs.Queues.{queue_at}
use Rattle.cq_broker.proofs.broker.answers.give_back.Given as goal

abbrev pub invariant-loop-open : goal.invariant-loop-open
invariant-loop-open l = HasGivenBack l.client (map (λ (o : OpenDelivery). o.queue) (take l.open-index l.opens)) (queue_at l.fn.queues) (queue_at l.queues) × StayOnDisk (queue_at l.fn.queues) (queue_at l.queues)
