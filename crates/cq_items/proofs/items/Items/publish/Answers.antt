use Rattle.std.proofs.Common.{refl, ◌≡◌, ◌<◌, List, [], ◌∷◌, ◌++◌, length, sym, ap, ◌∙◌, subst, arith}
use Rattle.std.specs.Prelude.{Option, Some}
use Rattle.std.proofs.lemmas.List.{length_push}
use Rattle.cq_items.specs.Item.{Item}
use Rattle.cq_items.specs.Items.{new_item}
use Rattle.cq_items.specs.Slots.{alive}
use Rattle.cq_items.specs.Queue.{Queue}
use Rattle.cq_items.proofs.Places.{alive-push}
use Rattle.cq_items.proofs.Steps.{indexed-published, room-enough}
use Rattle.cq_items.proofs.Unseen.{unseen-published}
use Rattle.cq_items.proofs.items.Items.publish.Goals as goal

pub invariant_of-self : goal.invariant_of-self
invariant_of-self c =
    let some : 0 < c.self.inside.reserved = subst (λ (v : Queue). 0 < v.reserved) (sym c.self.view_is) c.requires in
    let at : c.len-at.result ≡ length c.self.inside.slots.items = omega (arith, c.len-at.ensures) in
    rw (c.push_back_reserved.ensures.items, c.published.ensures, c.push.ensures.items, c.push_back_reserved.ensures.capacity, c.push.ensures.room, at) (
      indexed-published c.self.inside.slots.items c.self.inside.waiting.items c.self.inside.outs.held c.self.inside.gone.items c.self.inside.first c.args.id c.args.len c.args.body c.self.invariant.0,
      room-enough c.self.invariant.1 _ _ _ _ _ _ _ _ _ (omega (arith, length_push c.self.inside.slots.items (Some (new_item c.args.id c.args.body c.args.len)))) (omega (arith, length_push c.self.inside.waiting.items (length c.self.inside.slots.items)))
          (omega (arith, length_push c.self.inside.waiting.items (length c.self.inside.slots.items))) (omega arith) (omega arith) (omega arith) (omega arith),
      unseen-published c.self.inside.slots.items c.self.inside.unseen (new_item c.args.id c.args.body c.args.len) c.self.invariant.2 refl refl,
    )

pub returns : goal.returns
returns c = rw (← c.self.view_is) (ap (λ (is : List Item). record { items = is; reserved = 0 })
    (ap alive c.push_back_reserved.ensures.items
    ∙ ap (λ (s : Option Item). alive (c.self.inside.slots.items ++ s ∷ [])) c.published.ensures
    ∙ alive-push c.self.inside.slots.items (new_item c.args.id c.args.body c.args.len)))
