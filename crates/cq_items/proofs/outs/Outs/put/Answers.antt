use Rattle.std.proofs.Common.{◌≡◌, ◌<◌, ◌^◌, List, [], ◌∷◌, length, sym, ap, subst, arith, length-append}
use Rattle.std.specs.Prelude.{None, Some, min}
use Rattle.cq_items.specs.declared.outs.Held.{Held}
use Rattle.cq_items.specs.OutsValue.{OutsValue, AreOnce}
use Rattle.cq_items.specs.Outs.{find, Puts}
use Rattle.cq_items.specs.Tree.{helds}
use Rattle.cq_items.proofs.Find.{find-none, once-pushed, puts-pushed}
use Rattle.cq_items.proofs.Trees.{helds-length}
use Rattle.cq_items.proofs.outs.Outs.put.Goals as goal

pub put-requires-clause-room : goal.put-requires-clause-room
put-requires-clause-room c =
    let r = subst (λ (v : OutsValue). length v.held < v.room) (sym c.self.view_is) c.requires.room in
    omega (arith, r, helds-length c.self.inside.nodes.items)

pub put-requires-clause-few : goal.put-requires-clause-few
put-requires-clause-few c =
    let r = subst (λ (v : OutsValue). length v.held < v.room) (sym c.self.view_is) c.requires.room in
    omega (arith, r, helds-length c.self.inside.nodes.items)

pub put-requires-clause-fresh : goal.put-requires-clause-fresh
put-requires-clause-fresh c =
    let n : find c.args.client c.args.delivery (helds c.self.inside.nodes.items) ≡ None = subst (λ (v : OutsValue). find c.args.client c.args.delivery v.held ≡ None) (sym c.self.view_is) c.requires.fresh in
    find-none (helds c.self.inside.nodes.items) c.args.client c.args.delivery n

pub invariant_of-self : goal.invariant_of-self
invariant_of-self c =
    let h : Held = record { client = c.args.client; delivery = c.args.delivery; at = c.args.at } in
    let hs = helds c.self.inside.nodes.items in
    let n : find c.args.client c.args.delivery hs ≡ None = subst (λ (v : OutsValue). find c.args.client c.args.delivery v.held ≡ None) (sym c.self.view_is) c.requires.fresh in
    let r = subst (λ (v : OutsValue). length v.held < v.room) (sym c.self.view_is) c.requires.room in (
      c.put.ensures.tree,
      subst (λ (js : List Held). AreOnce js) (sym c.put.ensures.held) (once-pushed hs h c.self.invariant.1 (find-none hs c.args.client c.args.delivery n)),
      omega (arith, r, helds-length c.put.new.nodes.items, ap length c.put.ensures.held, length-append hs (h ∷ []), helds-length c.self.inside.nodes.items),
    )

pub returns-clause-puts : goal.returns-clause-puts
returns-clause-puts c =
    let h : Held = record { client = c.args.client; delivery = c.args.delivery; at = c.args.at } in
    let hs = helds c.self.inside.nodes.items in
    let n : find c.args.client c.args.delivery hs ≡ None = subst (λ (v : OutsValue). find c.args.client c.args.delivery v.held ≡ None) (sym c.self.view_is) c.requires.fresh in
    rw (← c.self.view_is) (subst (λ (js : List Held). Puts c.args.client c.args.delivery (Some c.args.at) hs js) (sym c.put.ensures.held)
    (puts-pushed hs h c.self.invariant.1 (find-none hs c.args.client c.args.delivery n)))

pub returns-clause-len : goal.returns-clause-len
returns-clause-len c =
    let h : Held = record { client = c.args.client; delivery = c.args.delivery; at = c.args.at } in
    let hs = helds c.self.inside.nodes.items in
    rw (← c.self.view_is) (omega (arith, ap length c.put.ensures.held, length-append hs (h ∷ [])))

pub returns-clause-room : goal.returns-clause-room
returns-clause-room c = rw (← c.self.view_is) (ap (λ k. min k (2 ^ 32)) c.put.ensures.capacity)
