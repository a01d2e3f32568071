use Rattle.std.proofs.Common.{◌≤◌}
use Rattle.cq_bench.proofs.locked.take_all.Given as goal

abbrev pub invariant-loop-expected : goal.invariant-loop-expected
invariant-loop-expected g l = l.in_order ≤ l.expected
