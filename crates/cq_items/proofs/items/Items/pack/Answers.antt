use Rattle.std.proofs.Common.{◌≡◌, ◌≤◌, ◌-◌, List, length, subst, sym, ap, ◌∙◌, arith}
use Rattle.std.specs.Prelude.{Option}
use Rattle.cq_items.specs.Item.{Item}
use Rattle.cq_items.specs.Items.{undecided, is_fresh, waits, settles, is_out_to, waiting_items, settled_items}
use Rattle.cq_items.specs.Slots.{alive}
use Rattle.cq_items.specs.Queue.{AreOutOnce, IsSplit}
use Rattle.cq_items.proofs.Places.{length-places}
use Rattle.cq_items.proofs.Steps.{waiting-count, room-enough}
use Rattle.cq_items.proofs.Settled.{settling-count}
use Rattle.cq_items.proofs.Packed.{alive-closed, fewer-closed, IsClosed, closed, outs-known, outs-once}
use Rattle.cq_items.proofs.Unseen.{unseen-closed}
use Rattle.cq_items.proofs.items.Items.pack.Goals as goal

pub overflow_sub-self : goal.overflow_sub-self
overflow_sub-self c =
    let k : IsClosed undecided c.self.inside.slots.items c.self.inside.first = closed undecided c.self.inside.slots.items c.self.inside.first c.self.invariant.0.is_split in
    omega (arith, k.counts, ap length c.close_up.ensures.slots, c.self.invariant.0.is_split.within)

pub overflow_sub-self-2 : goal.overflow_sub-self-2
overflow_sub-self-2 c =
    let k : IsClosed is_fresh c.self.inside.slots.items c.self.inside.unseen = closed is_fresh c.self.inside.slots.items c.self.inside.unseen c.self.invariant.2.split in
    omega (arith, k.counts, ap length c.close_up.ensures.slots, c.self.invariant.2.split.within)

pub renumber-requires-clause-few : goal.renumber-requires-clause-few
renumber-requires-clause-few c = omega (arith, ap length c.close_up.ensures.slots, fewer-closed c.self.inside.slots.items, c.self.invariant.1.few)

pub renumber-requires-clause-known : goal.renumber-requires-clause-known
renumber-requires-clause-known c = λ a b. outs-known c.self.inside.slots.items c.self.inside.outs.held c.self.invariant.0.finds_out a b
    ∙ ap (is_out_to a b) (sym (ap alive c.close_up.ensures.slots ∙ alive-closed c.self.inside.slots.items))

pub renumber-requires-clause-once : goal.renumber-requires-clause-once
renumber-requires-clause-once c = subst AreOutOnce (sym (ap alive c.close_up.ensures.slots ∙ alive-closed c.self.inside.slots.items)) (outs-once c.self.inside.slots.items c.self.inside.outs.held c.self.invariant.0.finds_out)

pub renumber-requires-clause-waiting_fits : goal.renumber-requires-clause-waiting_fits
renumber-requires-clause-waiting_fits c =
    let same : alive c.close_up.new.slots.items ≡ alive c.self.inside.slots.items = ap alive c.close_up.ensures.slots ∙ alive-closed c.self.inside.slots.items in
    omega (arith, ap (λ (is : List Item). length (waiting_items is)) same, waiting-count _ _ _ _ _ c.self.invariant.0, c.self.invariant.1.waiting_fits)

pub renumber-requires-clause-gone_fits : goal.renumber-requires-clause-gone_fits
renumber-requires-clause-gone_fits c =
    let same : alive c.close_up.new.slots.items ≡ alive c.self.inside.slots.items = ap alive c.close_up.ensures.slots ∙ alive-closed c.self.inside.slots.items in
    omega (arith, ap (λ (is : List Item). length (settled_items is)) same, settling-count _ _ _ _ _ c.self.invariant.0, c.self.invariant.1.gone_fits)

pub invariant_of-self : goal.invariant_of-self
invariant_of-self c =
    let ss : List (Option Item) = c.self.inside.slots.items in
    let ts : List (Option Item) = c.close_up.new.slots.items in
    let k : IsClosed undecided ss c.self.inside.first = closed undecided ss c.self.inside.first c.self.invariant.0.is_split in
    let fresh : IsClosed is_fresh ss c.self.inside.unseen = closed is_fresh ss c.self.inside.unseen c.self.invariant.2.split in
    let same : alive ts ≡ alive ss = ap alive c.close_up.ensures.slots ∙ alive-closed ss in
    let place : k.place ≡ c.len-3.result - (c.len.result - c.self.inside.first) =
    omega (arith, k.counts, ap length c.close_up.ensures.slots, c.self.invariant.0.is_split.within, c.len.ensures, c.len-3.ensures) in
    let fewer : length ts ≤ length ss = omega (arith, ap length c.close_up.ensures.slots, fewer-closed ss) in
    let waiting : length c.renumber.new.waiting.items ≡ length c.self.inside.waiting.items =
    ap length c.renumber.ensures.waiting ∙ length-places waits 0 ts ∙ ap (λ (is : List Item). length (waiting_items is)) same ∙ waiting-count _ _ _ _ _ c.self.invariant.0 in
    let gone : length c.renumber.new.gone.items ≡ length c.self.inside.gone.items = ap length c.renumber.ensures.gone ∙ length-places settles 0 ts ∙ ap (λ (is : List Item). length (settled_items is)) same ∙ sym (settling-count _ _ _ _ _ c.self.invariant.0) in (
      record {
        waiting_is = sym c.renumber.ensures.waiting;
        finds_out = c.renumber.ensures.out;
        gone_is = sym c.renumber.ensures.gone;
        is_split = subst (λ m. IsSplit undecided ts m) place (subst (λ (us : List (Option Item)). IsSplit undecided us k.place) (sym c.close_up.ensures.slots) k.split);
      },
      room-enough c.self.invariant.1 _ _ _ _ _ _ _ _ _ (omega (arith, fewer)) (omega (arith, waiting, c.renumber.ensures.rooms.2)) (omega (arith, waiting, gone, c.renumber.ensures.rooms.2))
          (omega (arith, c.close_up.ensures.capacity)) (omega (arith, c.renumber.ensures.rooms.0)) (omega (arith, c.renumber.ensures.rooms.1)) (omega (arith, c.renumber.ensures.rooms.3)),
      rw c.close_up.ensures.slots (unseen-closed ss c.self.inside.unseen _ c.self.invariant.2
          (omega (arith, fresh.counts, ap length c.close_up.ensures.slots, c.self.invariant.2.split.within, c.len-2.ensures, c.len-4.ensures))),
    )

pub returns : goal.returns
returns c = rw (← c.self.view_is) (ap (λ (is : List Item). record { items = is; reserved = c.self.inside.reserved }) (ap alive c.close_up.ensures.slots ∙ alive-closed c.self.inside.slots.items))
