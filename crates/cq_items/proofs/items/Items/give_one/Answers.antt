use Rattle.std.proofs.Common.{◌≡◌, ◌+◌, List, ℕ, length, refl, ap, ◌∙◌, arith, length-set}
use Rattle.std.specs.Prelude.{Option}
use Rattle.std.proofs.lemmas.List.Edits.{length-insert}
use Rattle.cq_items.specs.Item.{Item}
use Rattle.cq_items.specs.declared.item.Holder.TheVariants.{Waiting}
use Rattle.cq_items.specs.Items.{waits, is_free, give_back, count_out}
use Rattle.cq_items.specs.Slots.{slot_at, held_by, passes, alive}
use Rattle.cq_items.proofs.Steps.{IsOutAt, out-at, indexed-rising, indexed-back, back-view, back-count, back-none, room-enough}
use Rattle.cq_items.proofs.Unseen.{unseen-held}
use Rattle.cq_items.proofs.items.Items.give_one.Goals as goal

pub set_holder-requires : goal.set_holder-requires
set_holder-requires c = (out-at _ _ _ _ _ c.self.invariant.0.finds_out c.in-Some.ensures.took.1).within

pub put_back-requires-clause-rising : goal.put_back-requires-clause-rising
put_back-requires-clause-rising c = indexed-rising _ _ _ _ _ c.self.invariant.0

pub invariant_of-self : goal.invariant_of-self
invariant_of-self c =
    let ss : List (Option Item) = c.self.inside.slots.items in
    let p : ℕ = c.in-Some.held.at in
    let o : IsOutAt ss p c.args.client c.in-Some.held.delivery = out-at _ _ _ _ _ c.self.invariant.0.finds_out c.in-Some.ensures.took.1 in
    let same : length c.set_holder.new.slots.items ≡ length ss = ap length c.set_holder.ensures.slots ∙ length-set ss p (held_by Waiting (slot_at ss p)) in
    let more : length c.put_back.new.self.items ≡ length c.self.inside.waiting.items + 1 = ap length c.put_back.ensures.put.is ∙ length-insert c.self.inside.waiting.items c.put_back.ensures.put.place p c.put_back.ensures.put.belongs.within in (
      rw c.set_holder.ensures.slots (indexed-back _ _ c.put_back.new.self.items _ c.take_of.new.self.held _ _ p c.args.client c.in-Some.held.delivery c.put_back.ensures.put.place c.self.invariant.0
          c.in-Some.ensures.took.1 c.in-Some.ensures.took.2 c.put_back.ensures.put.belongs c.put_back.ensures.put.is),
      room-enough c.self.invariant.1 _ _ _ _ _ _ _ _ _ (omega (arith, same)) (omega (arith, more, c.in-Some.ensures.took.3)) (omega (arith, more, c.in-Some.ensures.took.3))
          (omega (arith, c.set_holder.ensures.capacity)) (omega (arith, c.put_back.ensures.room)) (omega (arith, c.take_of.ensures.room)) (omega arith),
      rw c.set_holder.ensures.slots (unseen-held ss c.self.inside.unseen p Waiting c.self.invariant.2 o.within (ap (passes waits) o.stands ∙ ap is_free o.holder)),
    )

pub returns-in-Some : goal.returns-in-Some
returns-in-Some c = rw (← c.self.view_is) (
  ap (λ (ss : List (Option Item)). give_back c.args.client (alive ss)) c.set_holder.ensures.slots ∙ back-view _ _ _ _ _ c.in-Some.held.at c.args.client c.in-Some.held.delivery c.self.invariant.0 c.in-Some.ensures.took.1,
  refl,
  ap (λ (ss : List (Option Item)). count_out c.args.client (alive ss) + 1) c.set_holder.ensures.slots ∙ back-count _ _ _ _ _ c.in-Some.held.at c.args.client c.in-Some.held.delivery c.self.invariant.0 c.in-Some.ensures.took.1,
)

pub returns-in-None : goal.returns-in-None
returns-in-None c = rw (← c.self.view_is) (refl, back-none _ _ _ _ _ c.args.client c.self.invariant.0 c.in-None.ensures.took.1)
