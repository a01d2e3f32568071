use Rattle.std.proofs.Common.{◌-◌, take, length}
use Rattle.std.specs.Ordering.{nat_cmp}
use Rattle.std.specs.BTreeMap.{IsOrdered}
use Rattle.cq_print.specs.Counts.{HasCounts}
use Rattle.cq_print.proofs.counts.counts_of.Given as goal

-- the lines so far are counted
abbrev pub invariant-loop-queue : goal.invariant-loop-queue
invariant-loop-queue l = record {
  counts : HasCounts l.counts (take l.at l.lines);
  ordered : IsOrdered nat_cmp l.counts;
}

abbrev pub decreases-loop-queue : goal.decreases-loop-queue
decreases-loop-queue l = length l.lines - l.at
