use Rattle.cq_items.proofs.Ways.{IsDeeper}
use Rattle.cq_items.proofs.tree.leaf_below.Given as goal

abbrev pub invariant-loop-passed : goal.invariant-loop-passed
invariant-loop-passed l = IsDeeper l.nodes l.at l.passed l.leaf
