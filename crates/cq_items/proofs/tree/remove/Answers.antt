use Rattle.std.proofs.Common.{◌≡◌, ◌<◌, ◌^◌, List, sym, ap, subst}
use Rattle.std.proofs.lemmas.List.{get_or_read}
use Rattle.cq_items.specs.declared.tree.Node.{Node}
use Rattle.cq_items.specs.Tree.{Agree, node_at, no_node, IsLeafBelow}
use Rattle.cq_items.proofs.Trees.{tree-rekeyed}
use Rattle.cq_items.proofs.Helds.{rekeyed, taken}
use Rattle.cq_items.proofs.tree.remove.Goals as goal

pub remove_leaf-requires-clause-tree : goal.remove_leaf-requires-clause-tree
remove_leaf-requires-clause-tree c =
    let below = subst (λ (js : List Node). IsLeafBelow js c.args.at c.leaf_below-leaf.result) c.deref.ensures.value c.leaf_below-leaf.ensures in
    let a : c.index_mut.result.now ≡ node_at c.args.nodes.now.items c.args.at = get_or_read c.args.nodes.now.items c.args.at c.index_mut.result.now c.requires.within c.index_mut.ensures.value no_node in
    let b : c.index-2.result.now ≡ node_at c.args.nodes.now.items c.leaf_below-leaf.result = get_or_read c.args.nodes.now.items c.leaf_below-leaf.result c.index-2.result.now below.within c.index-2.ensures no_node in
    tree-rekeyed c.args.nodes.now.items _ c.requires.tree (rekeyed c.args.nodes.now.items c.requires.tree c.args.at c.index_mut.result.now c.index-2.result.now.held c.requires.within a
    (subst (λ (n : Node). Agree (node_at c.args.nodes.now.items c.args.at).level (node_at c.args.nodes.now.items c.args.at).held n.held) (sym b) below.same)
    (subst (λ (n : Node). (n.held.client < 2 ^ 32) × (n.held.delivery < 2 ^ 32)) (sym b) (c.requires.tree.fits c.leaf_below-leaf.result)))

pub returns-clause-taken : goal.returns-clause-taken
returns-clause-taken c =
    let below = subst (λ (js : List Node). IsLeafBelow js c.args.at c.leaf_below-leaf.result) c.deref.ensures.value c.leaf_below-leaf.ensures in
    let b : c.index-2.result.now ≡ node_at c.args.nodes.now.items c.leaf_below-leaf.result = get_or_read c.args.nodes.now.items c.leaf_below-leaf.result c.index-2.result.now below.within c.index-2.ensures no_node in
    taken c.args.nodes.now.items c.remove_leaf.new.nodes.items c.args.at c.leaf_below-leaf.result (record { held = c.index-2.result.now.held; level = c.index_mut.result.now.level; left = c.index_mut.result.now.left; right = c.index_mut.result.now.right })
    below.within (ap (λ (n : Node). n.held) b) c.remove_leaf.ensures.held
