use Rattle.std.proofs.Common.{◌≡◌, ◌<◌, false, List, length, set, sym, ◌∙◌, subst, arith}
use Rattle.std.specs.Prelude.{None, Some, IsSome}
use Rattle.std.proofs.lemmas.List.{get_or_read}
use Rattle.std.proofs.lemmas.Option.{none-some}
use Rattle.cq_items.specs.declared.tree.Node.{Node}
use Rattle.cq_items.specs.OutsValue.{OutsValue}
use Rattle.cq_items.specs.Outs.{find}
use Rattle.cq_items.specs.Tree.{helds, node_at, no_node, IsFound}
use Rattle.cq_items.proofs.Find.{none-find}
use Rattle.cq_items.proofs.Helds.{tree-moved, once-replaced, puts-replaced, length-moved, moved-node}
use Rattle.cq_items.proofs.Trees.{helds-length}
use Rattle.cq_items.proofs.Ways.{some-of}
use Rattle.cq_items.proofs.outs.Outs.move_to.Goals as goal

pub invariant_of-self : goal.invariant_of-self
invariant_of-self c =
    let ns = c.self.inside.nodes.items in
    let f = subst (λ (ns : List Node). IsFound false c.args.client c.args.delivery (helds ns) (Some c.in-Some.index)) c.deref.ensures.value c.in-Some.ensures in
    let l : c.in-Some.index < length ns = omega (arith, f.0, helds-length ns) in
    let a : c.index_mut.result.now ≡ node_at ns c.in-Some.index = get_or_read ns c.in-Some.index c.index_mut.result.now l c.index_mut.ensures.value no_node in (
      tree-moved ns c.self.invariant.0 c.in-Some.index c.args.at c.index_mut.result.now l a,
      once-replaced ns c.in-Some.index c.args.at c.index_mut.result.now l a c.self.invariant.1,
      omega (arith, length-moved ns c.in-Some.index c.args.at c.index_mut.result.now, helds-length ns, helds-length (set ns c.in-Some.index (moved-node c.index_mut.result.now c.args.at)), c.self.invariant.2),
    )

pub returns-in-Some-clause-puts : goal.returns-in-Some-clause-puts
returns-in-Some-clause-puts c =
    let ns = c.self.inside.nodes.items in
    let f = subst (λ (ns : List Node). IsFound false c.args.client c.args.delivery (helds ns) (Some c.in-Some.index)) c.deref.ensures.value c.in-Some.ensures in
    let l : c.in-Some.index < length ns = omega (arith, f.0, helds-length ns) in
    let a : c.index_mut.result.now ≡ node_at ns c.in-Some.index = get_or_read ns c.in-Some.index c.index_mut.result.now l c.index_mut.ensures.value no_node in
    rw (← c.self.view_is) (puts-replaced ns c.in-Some.index c.args.at c.args.client c.args.delivery c.index_mut.result.now l a c.self.invariant.1 f.1)

pub returns-in-None-clause-puts : goal.returns-in-None-clause-puts
returns-in-None-clause-puts c =
    let hs = helds c.self.inside.nodes.items in
    let f = subst (λ (ns : List Node). IsFound false c.args.client c.args.delivery (helds ns) None) c.deref.ensures.value c.in-None.ensures in
    let there = some-of (find c.args.client c.args.delivery hs) (subst (λ (v : OutsValue). IsSome (find c.args.client c.args.delivery v.held)) (sym c.self.view_is) c.requires) in
    absurd (none-some there.0 (sym (none-find hs c.args.client c.args.delivery f) ∙ there.1))
