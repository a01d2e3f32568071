use Rattle.std.proofs.Common.{ℕ, ◌<◌}
use Rattle.cq_queues.specs.Values.{IsMarked, value_in}
use Rattle.cq_queues.proofs.queues.NodeQueues.of.Given as goal

abbrev pub invariant-loop-queue : goal.invariant-loop-queue
invariant-loop-queue l = (r : ℕ) → r < l.queue → IsMarked (value_in l.cores.items r) l.undecided l.settling l.finished r
