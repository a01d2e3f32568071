use Rattle.std.proofs.Common.{◌≡◌, false, replicate}
use Rattle.cq_queues.proofs.marks.Marks.new.Given as goal

abbrev pub invariant-loop-queue : goal.invariant-loop-queue
invariant-loop-queue l = l.flags.items ≡ replicate l._queue false
