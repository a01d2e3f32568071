use Rattle.std.proofs.Common.{◌≡◌, ◌^◌, drop, set}
use Rattle.cq_pack.proofs.Trees.{IsMended}
use Rattle.cq_pack.proofs.greatest.Greatest.set.Given as goal

abbrev pub invariant-loop-node : goal.invariant-loop-node
invariant-loop-node l = IsMended l.self-inside.levels l.self-inside.nodes.items l.node × (drop (2 ^ l.self-inside.levels) l.self-inside.nodes.items ≡ set l.fn.self l.place l.value)

abbrev pub decreases-loop-node : goal.decreases-loop-node
decreases-loop-node l = l.node
