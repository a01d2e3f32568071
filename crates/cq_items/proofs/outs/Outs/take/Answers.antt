use Rattle.std.proofs.Common.{◌^◌, false, List, refl, ap, subst, arith}
use Rattle.std.specs.Prelude.{None, Some, min}
use Rattle.cq_items.specs.declared.tree.Node.{Node}
use Rattle.cq_items.specs.Tree.{helds, IsFound}
use Rattle.cq_items.proofs.Find.{none-find, once-taken, taken-length, took}
use Rattle.cq_items.proofs.Trees.{helds-length}
use Rattle.cq_items.proofs.outs.Outs.take.Goals as goal

pub remove-held-requires-clause-within : goal.remove-held-requires-clause-within
remove-held-requires-clause-within c =
    let f = subst (λ (ns : List Node). IsFound false c.args.client c.args.delivery (helds ns) (Some c.in-Some.index)) c.deref.ensures.value c.in-Some.ensures in
    omega (arith, f.0, helds-length c.self.inside.nodes.items)

pub invariant_of-self : goal.invariant_of-self
invariant_of-self c =
    let hs = helds c.self.inside.nodes.items in
    let f = subst (λ (ns : List Node). IsFound false c.args.client c.args.delivery (helds ns) (Some c.in-Some.index)) c.deref.ensures.value c.in-Some.ensures in (
      c.remove-held.ensures.tree,
      once-taken hs (helds c.remove-held.new.nodes.items) c.in-Some.index f.0 c.remove-held.ensures.taken c.self.invariant.1,
      omega (arith, taken-length hs (helds c.remove-held.new.nodes.items) c.in-Some.index f.0 c.remove-held.ensures.taken, helds-length c.self.inside.nodes.items, helds-length c.remove-held.new.nodes.items, c.self.invariant.2),
    )

pub returns-in-Some-clause-took : goal.returns-in-Some-clause-took
returns-in-Some-clause-took c =
    let hs = helds c.self.inside.nodes.items in
    let f = subst (λ (ns : List Node). IsFound false c.args.client c.args.delivery (helds ns) (Some c.in-Some.index)) c.deref.ensures.value c.in-Some.ensures in
    rw (← c.self.view_is) (took hs (helds c.remove-held.new.nodes.items) c.in-Some.index c.args.client c.args.delivery c.remove-held.result f.0 c.remove-held.ensures.taken c.self.invariant.1 f.1 c.remove-held.ensures.held)

pub returns-in-Some-clause-room : goal.returns-in-Some-clause-room
returns-in-Some-clause-room c = rw (← c.self.view_is) (ap (λ k. min k (2 ^ 32)) c.remove-held.ensures.capacity)

pub returns-in-None-clause-took : goal.returns-in-None-clause-took
returns-in-None-clause-took c =
    let hs = helds c.self.inside.nodes.items in
    let f = subst (λ (ns : List Node). IsFound false c.args.client c.args.delivery (helds ns) None) c.deref.ensures.value c.in-None.ensures in
    (refl, rw (← c.self.view_is) (none-find hs c.args.client c.args.delivery f))
