use Rattle.cq_items.proofs.Ways.{HasPassed}
use Rattle.cq_items.proofs.tree.end_of.Given as goal

abbrev pub invariant-loop-level : goal.invariant-loop-level
invariant-loop-level l = HasPassed l.nodes l.any l.client l.delivery l.level l.at
