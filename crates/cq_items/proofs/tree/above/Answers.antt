use Rattle.std.proofs.Common.{◌<◌, length, sym, subst, arith}
use Rattle.std.specs.Prelude.{IsSome}
use Rattle.cq_items.specs.Tree.{node_at, way}
use Rattle.cq_items.proofs.Ways.{on-way, level-above}
use Rattle.cq_items.proofs.tree.above.Goals as goal

pub node_on_way-requires-clause-there : goal.node_on_way-requires-clause-there
node_on_way-requires-clause-there c =
    subst (λ x. IsSome (way c.args.nodes.now (node_at c.args.nodes.now c.args.at).held x)) (sym c.saturating_sub.ensures) (level-above c.args.nodes.now c.requires.tree c.args.at c.requires.within)

pub returns-clause-within : goal.returns-clause-within
returns-clause-within c =
    let some : 0 < length c.args.nodes.now = omega (arith, c.requires.within) in
    (on-way c.args.nodes.now c.requires.tree some (node_at c.args.nodes.now c.args.at).held c.saturating_sub.result c.node_on_way.result c.node_on_way.ensures).within
