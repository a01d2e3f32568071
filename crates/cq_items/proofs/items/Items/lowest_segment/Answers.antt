use Rattle.std.proofs.Common.{◌≡◌, List, ℕ, length, drop, sym, ap, ◌∙◌, arith}
use Rattle.std.specs.Prelude.{Option, None, Some, is_some}
use Rattle.std.proofs.lemmas.Bool.{and_parts, both_ways}
use Rattle.std.proofs.lemmas.List.{get_or_read}
use Rattle.cq_items.specs.Item.{Item}
use Rattle.cq_items.specs.declared.item.Stand.{Stand}
use Rattle.cq_items.specs.Items.{is_gone, segment_of}
use Rattle.cq_items.specs.Slots.{stand_of}
use Rattle.cq_items.proofs.Steps.{headed, headless}
use Rattle.cq_items.proofs.Settled.{IsNextPlace, next-at, next-within, lowest-none}
use Rattle.cq_items.proofs.items.Items.lowest_segment.Goals as goal

pub index-requires : goal.index-requires
index-requires c = omega (arith, next-within _ _ _ (next-at _ _ _ c.self.inside.gone.items _ _ c.in-Some.at c.self.invariant.0 (headed c.self.inside.gone.items c.in-Some.at (sym c.first.ensures ∙ c.in-Some.is))))

pub returns-in-Some-stand_of : goal.returns-in-Some-stand_of
returns-in-Some-stand_of c =
    let ss : List (Option Item) = c.self.inside.slots.items in
    let gone : List ℕ = c.self.inside.gone.items in
    let next : IsNextPlace 0 ss c.in-Some.at (drop 1 gone) = next-at _ _ _ gone _ _ c.in-Some.at c.self.invariant.0 (headed gone c.in-Some.at (sym c.first.ensures ∙ c.in-Some.is)) in
    let read = get_or_read ss c.in-Some.at c.index.result.now (next-within _ _ _ next) c.index.ensures None in
    let stand : next.item.stand ≡ Some c.in-Some-stand_of.stand = sym (ap stand_of (read ∙ next.stands)) ∙ sym c.stand_of.ensures ∙ c.in-Some-stand_of.is in
    rw (← c.self.view_is) (sym (next.lowest ∙ ap (λ (o : Option Stand). Some (segment_of o)) stand))

pub returns-in-None-stand_of : goal.returns-in-None-stand_of
returns-in-None-stand_of c =
    let ss : List (Option Item) = c.self.inside.slots.items in
    let gone : List ℕ = c.self.inside.gone.items in
    let next : IsNextPlace 0 ss c.in-Some.at (drop 1 gone) = next-at _ _ _ gone _ _ c.in-Some.at c.self.invariant.0 (headed gone c.in-Some.at (sym c.first.ensures ∙ c.in-Some.is)) in
    let read = get_or_read ss c.in-Some.at c.index.result.now (next-within _ _ _ next) c.index.ensures None in
    let none : next.item.stand ≡ None = sym (ap stand_of (read ∙ next.stands)) ∙ sym c.stand_of.ensures ∙ c.in-None-stand_of.is in
    absurd (both_ways (is_some next.item.stand) (ap is_some none) (and_parts (is_some next.item.stand) (is_gone next.item.holder) next.settling).0)

pub returns-in-None : goal.returns-in-None
returns-in-None c =
    let none : length c.self.inside.gone.items ≡ 0 = headless c.self.inside.gone.items (sym c.first.ensures ∙ c.in-None.is) in
    rw (← c.self.view_is) (sym (lowest-none c.self.inside.slots.items 0 (ap length c.self.invariant.0.gone_is ∙ none)))
