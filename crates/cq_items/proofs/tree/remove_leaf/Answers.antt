use Rattle.std.proofs.Common.{◌≡◌, ◌<◌, ◌-◌, List, length, drop, ap, ◌∙◌, subst, arith}
use Rattle.std.specs.List.{swap_remove}
use Rattle.cq_items.specs.declared.tree.Node.{Node}
use Rattle.cq_items.specs.Tree.{IsUnlinked}
use Rattle.cq_items.proofs.Cuts.{cut-of, leaf-positive, tree-cut}
use Rattle.cq_items.proofs.Helds.{helds-cut}
use Rattle.cq_items.proofs.Trees.{written}
use Rattle.cq_items.proofs.tree.remove_leaf.Goals as goal

pub returns-clause-tree : goal.returns-clause-tree
returns-clause-tree c =
    let un = c.unlink.new.nodes in
    let more : 1 < length c.args.nodes.now.items = omega (arith, c.requires.within, c.if-len-eq1.false, c.len.ensures) in
    let u = subst (λ (js : List Node). IsUnlinked js c.unlink.new.nodes c.args.leaf) c.deref_mut.ensures.value c.unlink.ensures in
    let len : length un ≡ c.args.nodes.now.len = omega (arith, u.len, c.deref_mut.ensures.len, ap length c.deref_mut.ensures.value) in
    let items : c.swap_remove.new.self.items ≡ swap_remove un c.args.leaf c.swap_remove.result =
    c.swap_remove.ensures.items ∙ ap (λ (js : List Node). swap_remove js c.args.leaf c.swap_remove.result) (written c.args.nodes.now.len un (drop (length un) c.args.nodes.now.items) len) in
    tree-cut c.args.nodes.now.items un c.swap_remove.new.self.items c.args.leaf (length c.args.nodes.now.items - 1) c.requires.tree (record {
      some = omega (arith, more);
      len = omega (arith, more);
      within = omega (arith, c.requires.within);
      positive = leaf-positive c.args.nodes.now.items c.requires.tree more c.args.leaf c.requires.ends;
      ends = c.requires.ends;
      unlinked = u;
      cut = cut-of un c.swap_remove.new.self.items c.args.leaf c.swap_remove.result (omega (arith, u.len, c.requires.within)) items;
    })

pub returns-clause-held : goal.returns-clause-held
returns-clause-held c =
    let un = c.unlink.new.nodes in
    let some : 0 < length c.args.nodes.now.items = omega (arith, c.requires.within) in
    let u = subst (λ (js : List Node). IsUnlinked js c.unlink.new.nodes c.args.leaf) c.deref_mut.ensures.value c.unlink.ensures in
    let len : length un ≡ c.args.nodes.now.len = omega (arith, u.len, c.deref_mut.ensures.len, ap length c.deref_mut.ensures.value) in
    helds-cut c.args.nodes.now.items un c.swap_remove.new.self.items c.args.leaf c.swap_remove.result some u
    (c.swap_remove.ensures.items ∙ ap (λ (js : List Node). swap_remove js c.args.leaf c.swap_remove.result) (written c.args.nodes.now.len un (drop (length un) c.args.nodes.now.items) len))
