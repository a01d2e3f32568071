-- What settles next is there exactly where some message settles.
use Rattle.std.proofs.Common.{◌≡◌, ℕ, suc, Bool, true, false, cond, List, [], ◌∷◌, length, map, Option, Some, refl, sym, ap, ◌∙◌, arith}
use Rattle.std.specs.Prelude.{nat_lt, ◌==◌}
use Rattle.std.proofs.lemmas.Bool.{lt-ltb, eq-eqb}
use Rattle.cq_items.specs.Item.{Item}
use Rattle.cq_items.specs.Items.{segment_of, settled_items, settles, settling_ids, settling_in, is_in, lowest_segment}
use Rattle.cq_queue.specs.Values.{has_some}

abbrev lowest : Bool → Item → List Item → Option ℕ
lowest b i is = cond b (Some (segment_of i.stand)) (lowest_segment is)

pub settling_some : (is : List Item) → nat_lt 0 (length (settled_items is)) ≡ has_some (settling_ids is)
settling_some [] = refl
settling_some (i ∷ is) = elim (settles i) as (λ b. nat_lt 0 (length (cond b (i ∷ settled_items is) (settled_items is))) ≡ has_some (map (λ (j : Item). j.id) (cond b (cond (is_in (lowest b i is) i) (i ∷ settling_in (lowest b i is) is) []) (settling_in (lowest b i is) is)))) [
  | true ↦ lt-ltb 0 (suc (length (settled_items is))) (omega arith) ∙ ap (λ (b : Bool). has_some (map (λ (j : Item). j.id) (cond b (i ∷ settling_in (Some (segment_of i.stand)) is) []))) (sym (eq-eqb (segment_of i.stand) (segment_of i.stand) refl))
  | false ↦ settling_some is
]
