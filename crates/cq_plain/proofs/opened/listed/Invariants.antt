use Rattle.std.proofs.Common.{◌≡◌, ◌-◌, take, length}
use Rattle.cq_plain.proofs.opened.listed.Given as goal

abbrev pub invariant-loop-queue : goal.invariant-loop-queue
invariant-loop-queue l = l.list.items ≡ take l.at l.lines

abbrev pub decreases-loop-queue : goal.decreases-loop-queue
decreases-loop-queue l = length l.lines - l.at
