use Rattle.std.proofs.Common.{◌≡◌}
use Rattle.cq_block.specs.Plans.{moves_from}
use Rattle.cq_block.proofs.plan.decode_plan.Given as goal

abbrev pub invariant-loop-k : goal.invariant-loop-k
invariant-loop-k l = l.moves.items ≡ moves_from l.k l.bytes 8
