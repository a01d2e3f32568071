use Rattle.std.proofs.Common.{◌≡◌, ◌+◌, ◌∷◌, List, ℕ, length, drop, refl, sym, ap, ◌∙◌, arith, subst, length-set}
use Rattle.std.specs.Prelude.{Option, None, Some, is_some}
use Rattle.std.proofs.lemmas.Bool.{and_parts}
use Rattle.std.proofs.lemmas.List.{get_or_read}
use Rattle.cq_items.specs.Item.{Item}
use Rattle.cq_items.specs.Items.{waits, is_gone}
use Rattle.cq_items.specs.Slots.{slot_at, passes, alive}
use Rattle.cq_items.specs.Queue.{Queue, left_in, HasLeft}
use Rattle.cq_items.proofs.Steps.{headed, headless, room-enough}
use Rattle.cq_items.proofs.Finds.{gone-not-free}
use Rattle.cq_items.proofs.Settled.{IsNextPlace, next-at, next-within, none-in, indexed-settled, left-one, stays-one}
use Rattle.cq_items.proofs.Unseen.{unseen-left}
use Rattle.cq_items.proofs.items.Items.settle_one.Goals as goal

pub index-requires : goal.index-requires
index-requires c = omega (arith, next-within _ _ _ (next-at _ _ _ c.self.inside.gone.items _ _ c.in-Some.at c.self.invariant.0 (headed c.self.inside.gone.items c.in-Some.at (sym c.first.ensures ∙ c.in-Some.is))))

pub empty-requires : goal.empty-requires
empty-requires c = next-within _ _ _ (next-at _ _ _ c.self.inside.gone.items _ _ c.in-Some.at c.self.invariant.0 (headed c.self.inside.gone.items c.in-Some.at (sym c.first.ensures ∙ c.in-Some.is)))

pub invariant_of-self : goal.invariant_of-self
invariant_of-self c =
    let ss : List (Option Item) = c.self.inside.slots.items in
    let gone : List ℕ = c.self.inside.gone.items in
    let whole : gone ≡ c.in-Some.at ∷ drop 1 gone = headed gone c.in-Some.at (sym c.first.ensures ∙ c.in-Some.is) in
    let next : IsNextPlace 0 ss c.in-Some.at (drop 1 gone) = next-at _ _ _ gone _ _ c.in-Some.at c.self.invariant.0 whole in
    let same : length c.empty.new.slots.items ≡ length ss = ap length c.empty.ensures.slots ∙ length-set ss c.in-Some.at None in
    let fewer : length gone ≡ length c.drop_first.new.self.items + 1 = omega (arith, ap length whole, ap length c.drop_first.ensures.items) in (
      rw (c.empty.ensures.slots, c.drop_first.ensures.items) (indexed-settled _ _ _ gone _ _ c.in-Some.at c.self.invariant.0 whole),
      room-enough c.self.invariant.1 _ _ _ _ _ _ _ _ _ (omega (arith, same)) (omega arith) (omega (arith, fewer)) (omega (arith, c.empty.ensures.capacity)) (omega arith) (omega arith) (omega (arith, c.drop_first.ensures.room)),
      rw c.empty.ensures.slots (unseen-left ss c.self.inside.unseen c.in-Some.at c.self.invariant.2 (next-within _ _ _ next)
          (ap (passes waits) next.stands ∙ gone-not-free next.item.holder (and_parts (is_some next.item.stand) (is_gone next.item.holder) next.settling).1)),
    )

pub returns-in-Some-left_in : goal.returns-in-Some-left_in
returns-in-Some-left_in c =
    let ss : List (Option Item) = c.self.inside.slots.items in
    let gone : List ℕ = c.self.inside.gone.items in
    let whole : gone ≡ c.in-Some.at ∷ drop 1 gone = headed gone c.in-Some.at (sym c.first.ensures ∙ c.in-Some.is) in
    let next : IsNextPlace 0 ss c.in-Some.at (drop 1 gone) = next-at _ _ _ gone _ _ c.in-Some.at c.self.invariant.0 whole in
    let read = get_or_read ss c.in-Some.at c.index.result.now (next-within _ _ _ next) c.index.ensures None in
    let left : left_in c.args.segment (slot_at ss c.in-Some.at) ≡ Some c.in-Some-left_in.left = sym (ap (left_in c.args.segment) read) ∙ sym c.left_in.ensures ∙ c.in-Some-left_in.is in
    let P : Queue → List (Option Item) → Type 0 = λ v ts. HasLeft c.args.segment c.in-Some-left_in.left v (record { items = alive ts; reserved = c.self.inside.reserved }) in
    subst (λ (v : Queue). P v c.empty.new.slots.items) c.self.view_is (subst (P (record { items = alive ss; reserved = c.self.inside.reserved })) (sym c.empty.ensures.slots)
    (left-one ss c.in-Some.at (drop 1 gone) c.args.segment c.self.inside.reserved c.in-Some-left_in.left next (c.self.invariant.0.gone_is ∙ whole) left))

pub returns-in-None-left_in : goal.returns-in-None-left_in
returns-in-None-left_in c =
    let ss : List (Option Item) = c.self.inside.slots.items in
    let gone : List ℕ = c.self.inside.gone.items in
    let whole : gone ≡ c.in-Some.at ∷ drop 1 gone = headed gone c.in-Some.at (sym c.first.ensures ∙ c.in-Some.is) in
    let next : IsNextPlace 0 ss c.in-Some.at (drop 1 gone) = next-at _ _ _ gone _ _ c.in-Some.at c.self.invariant.0 whole in
    let read = get_or_read ss c.in-Some.at c.index.result.now (next-within _ _ _ next) c.index.ensures None in
    let none : left_in c.args.segment (slot_at ss c.in-Some.at) ≡ None = sym (ap (left_in c.args.segment) read) ∙ sym c.left_in.ensures ∙ c.in-None-left_in.is in
    rw (← c.self.view_is) (refl, stays-one ss c.in-Some.at (drop 1 gone) c.args.segment next none)

pub returns-in-None : goal.returns-in-None
returns-in-None c =
    let none : length c.self.inside.gone.items ≡ 0 = headless c.self.inside.gone.items (sym c.first.ensures ∙ c.in-None.is) in
    rw (← c.self.view_is) (refl, none-in (Some c.args.segment) c.self.inside.slots.items 0 (ap length c.self.invariant.0.gone_is ∙ none))
