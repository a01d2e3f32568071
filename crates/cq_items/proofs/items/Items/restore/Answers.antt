use Rattle.std.proofs.Common.{◌≡◌, ◌<◌, ◌+◌, ◌++◌, ◌∷◌, List, [], length, refl, sym, ap, ◌∙◌, subst, arith}
use Rattle.std.specs.Prelude.{Option, Some}
use Rattle.std.proofs.lemmas.List.{length_push}
use Rattle.cq_items.specs.Item.{Item}
use Rattle.cq_items.specs.Items.{found_item, undecided_items}
use Rattle.cq_items.specs.Slots.{alive}
use Rattle.cq_items.specs.Queue.{Queue}
use Rattle.cq_items.proofs.Places.{alive-push}
use Rattle.cq_items.proofs.Steps.{room-enough}
use Rattle.cq_items.proofs.Decided.{all-decided}
use Rattle.cq_items.proofs.Unseen.{indexed-restored, unseen-published}
use Rattle.cq_items.proofs.items.Items.restore.Goals as goal

pub invariant_of-self : goal.invariant_of-self
invariant_of-self c =
    let ss : List (Option Item) = c.self.inside.slots.items in
    let found : Item = found_item c.args.id c.args.kind c.args.len c.args.stand in
    let some : 0 < c.self.inside.reserved = subst (λ (v : Queue). 0 < v.reserved) (sym c.self.view_is) c.requires.reserved in
    let decided : undecided_items (alive ss) ≡ [] = subst (λ (v : Queue). undecided_items v.items ≡ []) (sym c.self.view_is) c.requires.decided in
    let at : c.len-at.result ≡ length ss = omega (arith, c.len-at.ensures) in
    let first : c.len-self-inside.result ≡ length ss + 1 = omega (arith, c.len-self-inside.ensures, ap length c.push_back_reserved.ensures.items, length_push ss c.found.result) in
    rw (first, c.push_back_reserved.ensures.items, c.found.ensures, c.push.ensures.items, c.push_back_reserved.ensures.capacity, c.push.ensures.room, at) (
      indexed-restored ss _ _ _ c.self.inside.first c.args.id c.args.len c.args.kind c.args.stand c.self.invariant.0 (all-decided ss c.self.inside.first c.self.invariant.0.is_split decided),
      room-enough c.self.invariant.1 _ _ _ _ _ _ _ _ _ (omega (arith, length_push ss (Some found))) (omega (arith, length_push c.self.inside.waiting.items (length ss)))
          (omega (arith, length_push c.self.inside.waiting.items (length ss))) (omega arith) (omega arith) (omega arith) (omega arith),
      unseen-published ss c.self.inside.unseen found c.self.invariant.2 refl refl,
    )

pub returns : goal.returns
returns c = rw (← c.self.view_is) (ap (λ (is : List Item). record { items = is; reserved = 0 })
    (ap alive c.push_back_reserved.ensures.items ∙ ap (λ (s : Option Item). alive (c.self.inside.slots.items ++ s ∷ [])) c.found.ensures ∙ alive-push c.self.inside.slots.items (found_item c.args.id c.args.kind c.args.len c.args.stand)))
