-- What each call does to the undecided messages.
use Rattle.std.proofs.Common.{◌≡◌, ℕ, Bool, true, false, not, cond, List, [], ◌∷◌, ◌++◌, drop, refl, sym, ap, ◌∙◌}
use Rattle.std.specs.Prelude.{is_some, map, Option}
use Rattle.std.proofs.lemmas.List.Elements.{filter-append}
use Rattle.std.proofs.lemmas.Bool.{cond-false, and_parts}
use Rattle.cq_items.specs.Item.{Item}
use Rattle.cq_items.specs.declared.item.Stand.{Stand}
use Rattle.cq_items.specs.declared.item.Holder.{Holder}
use Rattle.cq_items.specs.declared.item.Holder.TheVariants.{Out}
use Rattle.cq_items.specs.Items.{waits, is_gone, holding, taken_by, settles, undecided, undecided_items, lowest_segment, is_in, others_in, others_items, new_item, hand_out, pass_first, skips, decide}

pub undecided-publish : (items : List Item) (id len : ℕ) (held : Option (List ℕ)) → undecided_items (items ++ new_item id held len ∷ []) ≡ undecided_items items ++ new_item id held len ∷ []
undecided-publish items id len held = filter-append (λ (i : Item). not (is_some i.stand)) items (new_item id held len ∷ [])

pub undecided-passing : (items : List Item) (skip : Bool) (st : Stand) → undecided_items (pass_first skip st items) ≡ drop 1 (undecided_items items)
undecided-passing [] skip st = refl
undecided-passing (i ∷ is) skip st =
    (elim (is_some i.stand) as (λ b. (is_some i.stand) ≡ b → undecided_items (cond b (i ∷ pass_first skip st is) (cond (skips skip i) is (decide st i ∷ is))) ≡ drop 1 (cond (not b) (i ∷ undecided_items is) (undecided_items is))) [
      | true ↦ λ e. ap (λ b. cond (not b) (i ∷ undecided_items (pass_first skip st is)) (undecided_items (pass_first skip st is))) e ∙ undecided-passing is skip st
      | false ↦ λ e. elim (skips skip i) as (λ s. undecided_items (cond s is (decide st i ∷ is)) ≡ undecided_items is) [ true ↦ refl | false ↦ refl ]
    ]) refl

settles-decided : (i : Item) → settles i ≡ true → undecided i ≡ false
settles-decided i e = ap not (and_parts (is_some i.stand) (is_gone i.holder) e).0

undecided-in : (o : Option ℕ) (items : List Item) → undecided_items (others_in o items) ≡ undecided_items items
undecided-in o [] = refl
undecided-in o (i ∷ is) =
    (elim (settles i) as (λ b. settles i ≡ b → undecided_items (cond b (cond (is_in o i) (others_in o is) (i ∷ is)) (i ∷ others_in o is)) ≡ cond (undecided i) (i ∷ undecided_items is) (undecided_items is)) [
      | true ↦ λ e. (elim (is_in o i) as (λ b. undecided_items (cond b (others_in o is) (i ∷ is)) ≡ cond (undecided i) (i ∷ undecided_items is) (undecided_items is)) [
        | true ↦ undecided-in o is ∙ sym (cond-false (undecided i) (i ∷ undecided_items is) (undecided_items is) (settles-decided i e))
        | false ↦ refl
      ])
      | false ↦ λ e. ap (λ (ys : List Item). cond (undecided i) (i ∷ ys) ys) (undecided-in o is)
    ]) refl

pub undecided-settling : (items : List Item) → undecided_items (others_items items) ≡ undecided_items items
undecided-settling items = undecided-in (lowest_segment items) items

abbrev ids : List Item → List ℕ
ids is = map (λ (i : Item). i.id) is

pub undecided-holding : (items : List Item) (f : Holder → Holder) → ids (undecided_items (map (holding f) items)) ≡ ids (undecided_items items)
undecided-holding [] f = refl
undecided-holding (i ∷ is) f =
    elim (is_some i.stand) as (λ b. ids (cond (not b) (holding f i ∷ undecided_items (map (holding f) is)) (undecided_items (map (holding f) is))) ≡ ids (cond (not b) (i ∷ undecided_items is) (undecided_items is)))
    [ true ↦ undecided-holding is f | false ↦ ap (λ xs. i.id ∷ xs) (undecided-holding is f) ]

pub undecided-delivery : (items : List Item) (c d : ℕ) → ids (undecided_items (hand_out c d items)) ≡ ids (undecided_items items)
undecided-delivery [] c d = refl
undecided-delivery (i ∷ is) c d =
    elim (waits i) as (λ w. ids (undecided_items (cond w (taken_by (Out c d) i ∷ is) (i ∷ hand_out c d is))) ≡ ids (cond (not (is_some i.stand)) (i ∷ undecided_items is) (undecided_items is))) [
      | true ↦ elim (is_some i.stand) as (λ b. ids (cond (not b) (taken_by (Out c d) i ∷ undecided_items is) (undecided_items is)) ≡ ids (cond (not b) (i ∷ undecided_items is) (undecided_items is))) [ true ↦ refl | false ↦ refl ]
      | false ↦ elim (is_some i.stand) as (λ b. ids (cond (not b) (i ∷ undecided_items (hand_out c d is)) (undecided_items (hand_out c d is))) ≡ ids (cond (not b) (i ∷ undecided_items is) (undecided_items is)))
          [ true ↦ undecided-delivery is c d | false ↦ ap (λ xs. i.id ∷ xs) (undecided-delivery is c d) ]
    ]
