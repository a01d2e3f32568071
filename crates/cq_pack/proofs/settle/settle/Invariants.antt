use Rattle.std.proofs.Common.{length}
use Rattle.cq_pack.proofs.Going.{Going}
use Rattle.cq_pack.proofs.settle.settle.Given as goal

abbrev pub invariant-moves : goal.invariant-moves
invariant-moves l = Going l.fn.records.items l.standing.items l.moved.items l.starts.items l.sizes

abbrev pub decreases-moves : goal.decreases-moves
decreases-moves l = length l.standing.items
