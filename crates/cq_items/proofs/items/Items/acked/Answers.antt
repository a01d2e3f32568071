use Rattle.std.proofs.Common.{◌≡◌, cond, List, ℕ, length, sym, ap, ◌∙◌, arith, length-set}
use Rattle.std.specs.Prelude.{None, Option}
use Rattle.std.proofs.lemmas.List.{get_or_read}
use Rattle.cq_items.specs.Item.{Item}
use Rattle.cq_items.specs.declared.item.Holder.TheVariants.{Gone}
use Rattle.cq_items.specs.Items.{committed, waits, is_free}
use Rattle.cq_items.specs.Line.{put_in}
use Rattle.cq_items.specs.Slots.{slot_at, held_by, passes, alive}
use Rattle.cq_items.proofs.Steps.{IsOutAt, out-at, indexed-acked, acked-view, acked-none, room-enough, length-noted}
use Rattle.cq_items.proofs.Unseen.{unseen-held}
use Rattle.cq_items.proofs.items.Items.acked.Goals as goal

pub index-requires : goal.index-requires
index-requires c =
    let o : IsOutAt c.self.inside.slots.items c.in-Some.at c.args.client c.args.delivery = out-at _ _ _ _ _ c.self.invariant.0.finds_out c.in-Some.ensures.took.0 in omega (arith, o.within)

pub set_holder-requires : goal.set_holder-requires
set_holder-requires c = (out-at _ _ _ _ _ c.self.invariant.0.finds_out c.in-Some.ensures.took.0).within

pub invariant_of-self : goal.invariant_of-self
invariant_of-self c =
    let ss : List (Option Item) = c.self.inside.slots.items in
    let p : ℕ = c.in-Some.at in
    let o : IsOutAt c.self.inside.slots.items c.in-Some.at c.args.client c.args.delivery = out-at _ _ _ _ _ c.self.invariant.0.finds_out c.in-Some.ensures.took.0 in
    let noted : c.note_gone.new.gone.items ≡ cond (passes committed (slot_at ss p)) (put_in p c.self.inside.gone.items) c.self.inside.gone.items =
    c.note_gone.ensures.items ∙ ap (λ (s : Option Item). cond (passes committed s) (put_in p c.self.inside.gone.items) c.self.inside.gone.items) (get_or_read ss p c.index.result.now o.within c.index.ensures None) in
    let same : length c.set_holder.new.slots.items ≡ length ss = ap length c.set_holder.ensures.slots ∙ length-set ss p (held_by Gone (slot_at ss p)) in (
      rw (c.set_holder.ensures.slots, noted) (indexed-acked _ _ _ c.take.new.self.held _ _ p c.args.client c.args.delivery c.self.invariant.0 c.in-Some.ensures.took.0 c.in-Some.ensures.took.1),
      room-enough c.self.invariant.1 _ _ _ _ _ _ _ _ _ (omega (arith, same)) (omega (arith, c.in-Some.ensures.took.2))
          (omega (arith, c.in-Some.ensures.took.2, ap length noted, length-noted (passes committed (slot_at ss p)) c.self.inside.gone.items p))
          (omega (arith, c.set_holder.ensures.capacity)) (omega arith) (omega (arith, c.take.ensures.room)) (omega (arith, c.note_gone.ensures.room)),
      rw c.set_holder.ensures.slots (unseen-held ss c.self.inside.unseen p Gone c.self.invariant.2 o.within (ap (passes waits) o.stands ∙ ap is_free o.holder)),
    )

pub returns-in-Some : goal.returns-in-Some
returns-in-Some c = rw (← c.self.view_is) (ap (λ (is : List Item). record { items = is; reserved = c.self.inside.reserved })
    (ap alive c.set_holder.ensures.slots ∙ acked-view _ _ _ _ _ c.in-Some.at c.args.client c.args.delivery c.self.invariant.0 c.in-Some.ensures.took.0))

pub returns-in-None : goal.returns-in-None
returns-in-None c = rw (← c.self.view_is) (ap (λ (is : List Item). record { items = is; reserved = c.self.inside.reserved })
    (sym (acked-none _ _ _ _ _ c.args.client c.args.delivery c.self.invariant.0 c.in-None.ensures.took.1)))
