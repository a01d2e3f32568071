use Rattle.std.proofs.Common.{◌≡◌, ◌+◌, ℕ, List, length, take, drop}
use Rattle.std.specs.List.{AllByRecursion}
use Rattle.cq_queues.specs.Changes.{AreReserved, HasJoined, StayOnDisk}
use Rattle.cq_queues.specs.Queues.{queue_at}
use Rattle.cq_queues.proofs.queues.NodeQueues.publish.Given as goal

abbrev pub invariant-loop-queue : goal.invariant-loop-queue
invariant-loop-queue l =
    AreReserved (queue_at l.self) (drop l.queue-index l.queues) × (l.queue-index + length l.copies.items ≡ length l.queues)
    × AllByRecursion (λ copy. length copy ≡ l.len) l.copies.items × StayOnDisk (queue_at l.fn.self) (queue_at l.self)
    × ((body : List ℕ) → AllByRecursion (λ copy. copy ≡ body) l.fn.copies.items
    → AllByRecursion (λ copy. copy ≡ body) l.copies.items × HasJoined l.id body l.len (take l.queue-index l.queues) (queue_at l.fn.self) (queue_at l.self))
