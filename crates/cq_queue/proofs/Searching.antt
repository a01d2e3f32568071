-- What a binary search finds where keys rise.
use Rattle.std.proofs.Common.{◌≡◌, ℕ, zero, suc, ◌<◌, ◌≤◌, Bool, true, false, List, [], ◌∷◌, length, get_or, Option, Some, None, Result, Ok, Err, refl, sym, ap, ◌∙◌, subst, arith}
use Rattle.std.specs.Prelude.{◌==◌, nat_lt, cond}
use Rattle.std.specs.Result.{result_ok}
use Rattle.std.specs.List.{AllByRecursion, HoldsAt, position, position_or_len}
use Rattle.std.specs.List.Sorted.{IsBinarySearchResult, IsNonDecreasingBy, IsPartitionPoint, IsSearchInRange}
use Rattle.std.specs.Ordering.{nat_cmp, ordering_index}
use Rattle.std.specs.declared.cmp.Ordering.TheVariants.{Less, Equal, Greater}
use Rattle.std.proofs.lemmas.Cmp.{ranked}
use Rattle.std.proofs.lemmas.Bool.{ne_eqb, eq-eqb}
use Rattle.std.proofs.lemmas.Bool.Decides.{nat_tests}
use Rattle.std.proofs.lemmas.List.Sums.{position_or_len_is}
use Rattle.std.proofs.lemmas.List.Sorted.{IsNonDecreasingBy-from_default}

all_get : {X : Type 0} (P : X → Type 0) (xs : List X) → AllByRecursion P xs → (j : ℕ) (d : X) → j < length xs → P (get_or xs j d)
all_get P [] all j d lt = absurd (omega (arith, lt))
all_get P (x ∷ xs) all zero d lt = all.0
all_get P (x ∷ xs) all (suc j) d lt = all_get P xs all.1 j d (omega (arith, lt))

module _ {X : Type 0} (key : X → ℕ) where
  -- the keys rise
  abbrev pub RiseBy : List X → Type 0
  RiseBy [] = Unit {0}
  RiseBy (x ∷ xs) = AllByRecursion (λ y. key x < key y) xs × RiseBy xs

  rises : (xs : List X) → RiseBy xs → (i j : ℕ) (d : X) → i < j → j < length xs → key (get_or xs i d) < key (get_or xs j d)
  rises [] rise i j d lt inside = absurd (omega (arith, inside))
  rises (x ∷ xs) rise zero zero d lt inside = absurd (omega (arith, lt))
  rises (x ∷ xs) rise (suc i) zero d lt inside = absurd (omega (arith, lt))
  rises (x ∷ xs) rise zero (suc j) d lt inside = all_get (λ y. key x < key y) xs rise.0 j d (omega (arith, inside))
  rises (x ∷ xs) rise (suc i) (suc j) d lt inside = rises xs rise.1 i j d (omega (arith, lt)) (omega (arith, inside))

  module _ (n : ℕ) where
    comparisons_rise : (x : X) (xs : List X) → RiseBy (x ∷ xs) → IsNonDecreasingBy (λ y. ordering_index (nat_cmp (key y) n)) (x ∷ xs)
    comparisons_rise x xs rise = IsNonDecreasingBy-from_default (λ y. ordering_index (nat_cmp (key y) n)) (x ∷ xs) x (λ i j le inside.
        let up : key (get_or (x ∷ xs) i x) ≤ key (get_or (x ∷ xs) j x) = grind (arith, rises (x ∷ xs) rise i j x, λ (same : i ≡ j). ap (λ (k : ℕ). key (get_or (x ∷ xs) k x)) same) in
        grind (arith, nat_tests))

    position_at : (xs : List X) (i : ℕ) (o : Option ℕ) → position_or_len (λ x. key x == n) xs ≡ i → cond (nat_lt i (length xs)) (Some i) None ≡ o → position (λ x. key x == n) xs ≡ o
    position_at xs i o is end = subst (λ (k : ℕ). cond (nat_lt k (length xs)) (Some k) None ≡ o) (sym is) end

    found : (xs : List X) (i : ℕ) → RiseBy xs → i < length xs → HoldsAt (λ y. nat_cmp (key y) n ≡ Equal) xs i → position (λ x. key x == n) xs ≡ Some i
    found [] i rise inside at = absurd (omega (arith, inside))
    found (x ∷ xs) i rise inside at =
        let here : key (get_or (x ∷ xs) i x) ≡ n = ranked _ n _ (sym (at x)) in
        position_at (x ∷ xs) i (Some i)
        (position_or_len_is (λ y. key y == n) (x ∷ xs) i x (omega (arith, inside)) (λ k below. ne_eqb _ n (λ same. omega (arith, rises (x ∷ xs) rise k i x below inside, same, here))) (λ _. eq-eqb _ n here))
        (let inside' : nat_lt i (length (x ∷ xs)) ≡ true = grind (arith, nat_tests) in ap (λ (b : Bool). cond b (Some i) None) inside')

    absent : (xs : List X) (i : ℕ) → RiseBy xs → i ≤ length xs → (IsNonDecreasingBy (λ y. ordering_index (nat_cmp (key y) n)) xs → IsPartitionPoint (λ y. nat_cmp (key y) n ≡ Less) (λ y. nat_cmp (key y) n ≡ Greater) xs i) → position (λ x. key x == n) xs ≡ None
    absent [] i rise inside parted = refl
    absent (x ∷ xs) i rise inside parted =
        let parts = parted (comparisons_rise x xs rise) in
        position_at (x ∷ xs) (length (x ∷ xs)) None
        (position_or_len_is (λ y. key y == n) (x ∷ xs) (length (x ∷ xs)) x (omega arith) (λ k below. ne_eqb _ n (λ same.
        let low : k < i → key (get_or (x ∷ xs) k x) < n = λ lt. ranked _ n _ (sym (parts.0 k x (omega arith) lt)) in
        let high : i ≤ k → n < key (get_or (x ∷ xs) k x) = λ le. ranked _ n _ (sym (parts.1 k x le below)) in
        grind (arith, low, high, same))) (λ over. absurd (omega (arith, over))))
        (let over : nat_lt (length (x ∷ xs)) (length (x ∷ xs)) ≡ false = grind (arith, nat_tests) in ap (λ (b : Bool). cond b (Some (length (x ∷ xs))) None) over)

    -- where the search finds a key stands the first one that is it
    pub search_position : (xs : List X) (r : Result ℕ ℕ) (o : Option ℕ) → RiseBy xs → IsSearchInRange r (length xs) → IsBinarySearchResult (λ y. nat_cmp (key y) n) xs r → o ≡ result_ok r → o ≡ position (λ x. key x == n) xs
    search_position xs (Ok i) o rise inside is part = part ∙ sym (found xs i rise inside is)
    search_position xs (Err i) o rise inside is part = part ∙ sym (absent xs i rise inside is)
