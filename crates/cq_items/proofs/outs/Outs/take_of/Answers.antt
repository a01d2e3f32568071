use Rattle.std.proofs.Common.{◌^◌, true, List, refl, ap, subst, arith}
use Rattle.std.specs.Prelude.{None, Some, min}
use Rattle.cq_items.specs.declared.tree.Node.{Node}
use Rattle.cq_items.specs.Tree.{helds, IsFound}
use Rattle.cq_items.proofs.Find.{none-of-client, once-taken, taken-length, took-one, client-of}
use Rattle.cq_items.proofs.Trees.{helds-length}
use Rattle.cq_items.proofs.outs.Outs.take_of.Goals as goal

pub remove-requires-clause-within : goal.remove-requires-clause-within
remove-requires-clause-within c =
    let f = subst (λ (ns : List Node). IsFound true c.args.client 0 (helds ns) (Some c.in-Some.index)) c.deref.ensures.value c.in-Some.ensures in
    omega (arith, f.0, helds-length c.self.inside.nodes.items)

pub invariant_of-self : goal.invariant_of-self
invariant_of-self c =
    let hs = helds c.self.inside.nodes.items in
    let f = subst (λ (ns : List Node). IsFound true c.args.client 0 (helds ns) (Some c.in-Some.index)) c.deref.ensures.value c.in-Some.ensures in (
      c.remove.ensures.tree,
      once-taken hs (helds c.remove.new.nodes.items) c.in-Some.index f.0 c.remove.ensures.taken c.self.invariant.1,
      omega (arith, taken-length hs (helds c.remove.new.nodes.items) c.in-Some.index f.0 c.remove.ensures.taken, helds-length c.self.inside.nodes.items, helds-length c.remove.new.nodes.items, c.self.invariant.2),
    )

pub returns-in-Some-clause-took : goal.returns-in-Some-clause-took
returns-in-Some-clause-took c =
    let hs = helds c.self.inside.nodes.items in
    let f = subst (λ (ns : List Node). IsFound true c.args.client 0 (helds ns) (Some c.in-Some.index)) c.deref.ensures.value c.in-Some.ensures in
    rw (← c.self.view_is) (took-one hs (helds c.remove.new.nodes.items) c.in-Some.index c.args.client c.remove.result f.0 c.remove.ensures.taken c.self.invariant.1 c.remove.ensures.held (client-of hs c.in-Some.index c.args.client c.remove.result f.1 c.remove.ensures.held))

pub returns-in-Some-clause-room : goal.returns-in-Some-clause-room
returns-in-Some-clause-room c = rw (← c.self.view_is) (ap (λ k. min k (2 ^ 32)) c.remove.ensures.capacity)

pub returns-in-None-clause-took : goal.returns-in-None-clause-took
returns-in-None-clause-took c =
    let hs = helds c.self.inside.nodes.items in
    let f = subst (λ (ns : List Node). IsFound true c.args.client 0 (helds ns) None) c.deref.ensures.value c.in-None.ensures in
    (refl, rw (← c.self.view_is) (none-of-client hs c.args.client f))
