use Rattle.cq_pack.proofs.Trees.{IsOnWay}
use Rattle.cq_pack.proofs.greatest.Greatest.first.Given as goal

abbrev pub invariant-loop-level : goal.invariant-loop-level
invariant-loop-level l = IsOnWay l._level l.least l.self-inside.nodes.items l.node
