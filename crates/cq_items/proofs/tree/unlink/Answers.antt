use Rattle.std.proofs.Common.{set, ap}
use Rattle.cq_items.proofs.Cuts.{unlinked}
use Rattle.cq_items.proofs.tree.unlink.Goals as goal

pub returns : goal.returns
returns c =
    unlinked c.args.nodes.now (set c.args.nodes.now c.above-above_leaf.result c.relink.new.node) _ c.requires.tree c.args.leaf c.above-above_leaf.result c.above-above_last.result c.requires.some c.requires.ends
    c.above-above_leaf.ensures.within c.above-above_last.ensures.within c.above-above_leaf.ensures.on_way c.above-above_last.ensures.on_way
    (ap (set c.args.nodes.now c.above-above_leaf.result) c.relink.ensures) (ap (set (set c.args.nodes.now c.above-above_leaf.result c.relink.new.node) c.above-above_last.result) c.relink-2.ensures)
