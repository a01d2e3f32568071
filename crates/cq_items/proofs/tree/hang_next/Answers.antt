use Rattle.std.proofs.Common.{length, set, ap, ◌∙◌, arith}
use Rattle.cq_items.specs.Tree.{node_at, hung}
use Rattle.cq_items.proofs.Trees.{fresh-node}
use Rattle.cq_items.proofs.tree.hang_next.Goals as goal

pub turns_right-requires : goal.turns_right-requires
turns_right-requires c = (c.end_of-above.ensures.ends (fresh-node c.args.nodes.now c.args.client c.args.delivery c.end_of-above.result c.requires.fresh c.end_of-above.ensures.within)).0

pub returns : goal.returns
returns c =
    let ends = c.end_of-above.ensures.ends (fresh-node c.args.nodes.now c.args.client c.args.delivery c.end_of-above.result c.requires.fresh c.end_of-above.ensures.within) in
    record {
      above = c.end_of-above.result;
      within = c.end_of-above.ensures.within;
      level = omega arith;
      depth = omega (arith, ends.0);
      on_way = c.end_of-above.ensures.on_way;
      free = ends.1;
      is = ap (set c.args.nodes.now c.end_of-above.result) (c.hang.ensures ∙ ap (λ b. hung b (length c.args.nodes.now) (node_at c.args.nodes.now c.end_of-above.result)) (c.turns_right.ensures 0));
    }
