use Rattle.std.proofs.Common.{◌<◌, length, sym, ◌∙◌, arith}
use Rattle.cq_items.proofs.Ways.{none-wanted}
use Rattle.cq_items.proofs.Trees.{fresh-helds}
use Rattle.cq_items.proofs.tree.index_of.Goals as goal

pub returns-else-is_wanted : goal.returns-else-is_wanted
returns-else-is_wanted c =
    let some : 0 < length c.args.nodes.now = omega (arith, c.end_of-at.ensures.within) in
    fresh-helds c.args.nodes.now c.args.any c.args.client c.args.delivery
    (none-wanted c.args.nodes.now c.requires some c.args.any c.args.client c.args.delivery c.end_of-at.result c.ranges.client.fits c.ranges.delivery.fits c.end_of-at.ensures (sym c.is_wanted.ensures ∙ c.if-is_wanted.false))
