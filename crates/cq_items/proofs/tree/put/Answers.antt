use Rattle.std.proofs.Common.{◌≡◌, List, [], ◌∷◌, ◌++◌, length, drop, sym, ap, ◌∙◌, subst, arith}
use Rattle.cq_items.specs.declared.outs.Held.{Held}
use Rattle.cq_items.specs.declared.tree.Node.{Node}
use Rattle.cq_items.specs.Tree.{helds, IsHung, IsTree}
use Rattle.cq_items.proofs.Trees.{tree-pushed, helds-pushed, hung-length, written}
use Rattle.cq_items.proofs.tree.put.Goals as goal

pub returns-clause-tree : goal.returns-clause-tree
returns-clause-tree c =
    let h : Held = record { client = c.args.client; delivery = c.args.delivery; at = c.args.at } in
    let more = c.hang_next-level.new.nodes in
    let w = subst (λ (js : List Node). IsHung js c.hang_next-level.new.nodes c.args.client c.args.delivery c.hang_next-level.result) c.deref_mut.ensures.value c.hang_next-level.ensures in
    let len : length more ≡ c.args.nodes.now.len = omega (arith, hung-length c.args.nodes.now.items more c.args.client c.args.delivery c.hang_next-level.result w, c.deref_mut.ensures.len, ap length c.deref_mut.ensures.value) in
    subst (λ (js : List Node). IsTree js)
    (sym (c.push_reserved-2.ensures.items ∙ ap (λ (js : List Node). js ++ c.leaf-2.result ∷ []) (written c.args.nodes.now.len more (drop (length more) c.args.nodes.now.items) len) ∙ ap (λ (n : Node). more ++ n ∷ []) c.leaf-2.ensures))
    (tree-pushed c.args.nodes.now.items more h c.hang_next-level.result c.requires.tree w c.ranges.client.fits c.ranges.delivery.fits)

pub returns-clause-held : goal.returns-clause-held
returns-clause-held c =
    let h : Held = record { client = c.args.client; delivery = c.args.delivery; at = c.args.at } in
    let more = c.hang_next-level.new.nodes in
    let w = subst (λ (js : List Node). IsHung js c.hang_next-level.new.nodes c.args.client c.args.delivery c.hang_next-level.result) c.deref_mut.ensures.value c.hang_next-level.ensures in
    let len : length more ≡ c.args.nodes.now.len = omega (arith, hung-length c.args.nodes.now.items more c.args.client c.args.delivery c.hang_next-level.result w, c.deref_mut.ensures.len, ap length c.deref_mut.ensures.value) in
    ap helds (c.push_reserved-2.ensures.items ∙ ap (λ (js : List Node). js ++ c.leaf-2.result ∷ []) (written c.args.nodes.now.len more (drop (length more) c.args.nodes.now.items) len) ∙ ap (λ (n : Node). more ++ n ∷ []) c.leaf-2.ensures)
    ∙ helds-pushed c.args.nodes.now.items more h c.hang_next-level.result w
