use Rattle.std.proofs.Common.{◌≡◌, ◌<◌, false, List, length, sym, ap, ◌∙◌, subst, arith, length-set}
use Rattle.cq_items.specs.Item.{Item}
use Rattle.cq_items.specs.declared.item.Holder.TheVariants.{Out}
use Rattle.cq_items.specs.Items.{is_out_to, waiting_items}
use Rattle.cq_items.specs.Slots.{slot_at, handed_to, alive}
use Rattle.cq_items.specs.Queue.{Queue}
use Rattle.cq_items.proofs.Steps.{indexed-first, first-within, indexed-delivered, delivered-view, fresh-out, waiting-count, room-enough}
use Rattle.cq_items.proofs.Unseen.{unseen-delivered}
use Rattle.cq_items.proofs.items.Items.deliver.Goals as goal

pub hand_to-requires : goal.hand_to-requires
hand_to-requires c = first-within _ _ _ (indexed-first _ _ c.pop.new.self.items _ _ _ c.in-Some.at c.self.invariant.0 c.in-Some.ensures.items)

pub put-requires-clause-fresh : goal.put-requires-clause-fresh
put-requires-clause-fresh c = fresh-out _ _ _ _ c.self.invariant.0.finds_out (subst (λ (v : Queue). is_out_to c.args.client c.args.delivery v.items ≡ false) (sym c.self.view_is) c.requires.fresh)

pub overflow_add-at : goal.overflow_add-at
overflow_add-at c = omega (arith, first-within _ _ _ (indexed-first _ _ c.pop.new.self.items _ _ _ c.in-Some.at c.self.invariant.0 c.in-Some.ensures.items))

pub invariant_of-self : goal.invariant_of-self
invariant_of-self c =
    let free : is_out_to c.args.client c.args.delivery (alive c.self.inside.slots.items) ≡ false = subst (λ (v : Queue). is_out_to c.args.client c.args.delivery v.items ≡ false) (sym c.self.view_is) c.requires.fresh in
    let same : length c.hand_to.new.slots.items ≡ length c.self.inside.slots.items =
    ap length c.hand_to.ensures.slots ∙ length-set c.self.inside.slots.items c.in-Some.at (handed_to (Out c.args.client c.args.delivery) (slot_at c.self.inside.slots.items c.in-Some.at)) in (
      rw c.hand_to.ensures.slots (indexed-delivered _ _ c.pop.new.self.items _ c.put.new.self.held _ _ c.in-Some.at c.args.client c.args.delivery c.self.invariant.0 c.in-Some.ensures.items
          (fresh-out _ _ _ _ c.self.invariant.0.finds_out free) c.put.ensures.puts),
      room-enough c.self.invariant.1 _ _ _ _ _ _ _ _ _ (omega (arith, same)) (omega (arith, ap length c.in-Some.ensures.items, c.put.ensures.len)) (omega (arith, ap length c.in-Some.ensures.items, c.put.ensures.len))
          (omega (arith, c.hand_to.ensures.capacity)) (omega (arith, c.pop.ensures.room)) (omega (arith, c.put.ensures.room)) (omega arith),
      rw c.hand_to.ensures.slots (unseen-delivered _ _ _ _ c.pop.new.self.items (Out c.args.client c.args.delivery) c.self.invariant.2 (indexed-first _ _ c.pop.new.self.items _ _ _ c.in-Some.at c.self.invariant.0 c.in-Some.ensures.items) (omega arith)),
    )

pub returns-in-Some : goal.returns-in-Some
returns-in-Some c = rw (← c.self.view_is) (ap (λ (is : List Item). record { items = is; reserved = c.self.inside.reserved })
    (ap alive c.hand_to.ensures.slots ∙ delivered-view _ _ c.pop.new.self.items _ _ _ c.in-Some.at c.args.client c.args.delivery c.self.invariant.0 c.in-Some.ensures.items))

pub returns-in-None : goal.returns-in-None
returns-in-None c =
    let some : 0 < length (waiting_items (alive c.self.inside.slots.items)) = subst (λ (v : Queue). 0 < length (waiting_items v.items)) (sym c.self.view_is) c.requires.some in
    absurd (omega (arith, waiting-count _ _ _ _ _ c.self.invariant.0, ap length c.in-None.ensures.items.1))
