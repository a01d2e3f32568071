use Rattle.std.proofs.Common.{◌≡◌, List, length, sym, ap, ◌∙◌, subst, arith, length-set}
use Rattle.std.specs.Prelude.{Option, None, Some}
use Rattle.cq_items.specs.Item.{Item}
use Rattle.cq_items.specs.declared.item.Holder.TheVariants.{Out}
use Rattle.cq_items.specs.Items.{waits, is_free, IsHeldBy, undecided_items}
use Rattle.cq_items.specs.Slots.{passes, alive}
use Rattle.cq_items.specs.Queue.{Queue}
use Rattle.cq_items.proofs.Steps.{indexed-skipped, room-enough}
use Rattle.cq_items.proofs.Decided.{head-held, head-out, leave-view}
use Rattle.cq_items.proofs.Unseen.{unseen-left}
use Rattle.cq_items.proofs.items.Items.leave_out.Goals as goal

pub empty-requires : goal.empty-requires
empty-requires c = (head-held _ _ (Out c.args.client c.args.delivery) c.self.invariant.0.is_split (subst (λ (v : Queue). IsHeldBy (Out c.args.client c.args.delivery) (undecided_items v.items)) (sym c.self.view_is) c.requires)).0.head.within

pub invariant_of-self : goal.invariant_of-self
invariant_of-self c =
    let t = head-held _ _ (Out c.args.client c.args.delivery) c.self.invariant.0.is_split (subst (λ (v : Queue). IsHeldBy (Out c.args.client c.args.delivery) (undecided_items v.items)) (sym c.self.view_is) c.requires) in
    let ss : List (Option Item) = c.self.inside.slots.items in
    let same : length c.empty.new.slots.items ≡ length ss = ap length c.empty.ensures.slots ∙ length-set ss c.self.inside.first None in (
      rw c.empty.ensures.slots (indexed-skipped _ _ _ c.take.new.self.held _ _ c.args.client c.args.delivery t.0.item c.self.invariant.0 t.0.head t.1
          (head-out _ _ _ _ _ t.0.item c.self.invariant.0.finds_out t.0.head t.1) c.in-Some.ensures.took.1),
      room-enough c.self.invariant.1 _ _ _ _ _ _ _ _ _ (omega (arith, same)) (omega (arith, c.in-Some.ensures.took.2)) (omega (arith, c.in-Some.ensures.took.2)) (omega (arith, c.empty.ensures.capacity)) (omega arith) (omega (arith, c.take.ensures.room)) (omega arith),
      rw c.empty.ensures.slots (unseen-left ss c.self.inside.unseen c.self.inside.first c.self.invariant.2 t.0.head.within (ap (passes waits) t.0.head.stands ∙ ap is_free t.1)),
    )

pub returns-in-Some : goal.returns-in-Some
returns-in-Some c = λ st.
    let t = head-held _ _ (Out c.args.client c.args.delivery) c.self.invariant.0.is_split (subst (λ (v : Queue). IsHeldBy (Out c.args.client c.args.delivery) (undecided_items v.items)) (sym c.self.view_is) c.requires) in
    rw (← c.self.view_is) (ap (λ (is : List Item). record { items = is; reserved = c.self.inside.reserved })
    (ap alive c.empty.ensures.slots ∙ leave-view st _ _ t.0.item c.self.invariant.0.is_split t.0.head))

pub returns-in-None : goal.returns-in-None
returns-in-None c = λ st.
    let t = head-held _ _ (Out c.args.client c.args.delivery) c.self.invariant.0.is_split (subst (λ (v : Queue). IsHeldBy (Out c.args.client c.args.delivery) (undecided_items v.items)) (sym c.self.view_is) c.requires) in
    let n : None ≡ Some c.self.inside.first = sym c.in-None.ensures.took.1 ∙ head-out _ _ _ _ _ t.0.item c.self.invariant.0.finds_out t.0.head t.1 in cc
