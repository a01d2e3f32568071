-- Whether one of some segments has a number, by a binary search where their numbers rise.
use Rattle.std.proofs.Common.{◌≡◌, ℕ, zero, suc, ◌<◌, ◌≤◌, Bool, true, false, List, [], ◌∷◌, length, get_or, Result, Ok, Err, refl, sym, ap, ◌∙◌, arith}
use Rattle.std.specs.Prelude.{◌==◌, ◌||◌}
use Rattle.std.specs.Result.{is_ok}
use Rattle.std.specs.List.{AllByRecursion, HoldsAt}
use Rattle.std.specs.List.Sorted.{IsBinarySearchResult, IsNonDecreasingBy, IsPartitionPoint, IsSearchInRange}
use Rattle.std.specs.Ordering.{nat_cmp, ordering_index}
use Rattle.std.specs.declared.cmp.Ordering.TheVariants.{Less, Equal, Greater}
use Rattle.std.proofs.lemmas.Cmp.{ranked}
use Rattle.std.proofs.lemmas.Bool.{ne_eqb, eq-eqb, or_left, or_right}
use Rattle.std.proofs.lemmas.Bool.Decides.{nat_tests}
use Rattle.std.proofs.lemmas.List.Sorted.{IsNonDecreasingBy-from_default}
use Rattle.cq_index.specs.declared.segment.Segment.{Segment}
use Rattle.cq_index.specs.Segments.{name_of}
use Rattle.cq_folder.specs.Queue.{has_number, indexes_of}
use Rattle.cq_back_q.specs.Numbers.{Rise, numbers_in}

abbrev pub number_of : Segment → ℕ
number_of s = (name_of s).number

all_get : (P : ℕ → Type 0) (xs : List Segment) → AllByRecursion P (numbers_in (indexes_of xs)) → (j : ℕ) (d : Segment) → j < length xs → P (number_of (get_or xs j d))
all_get P [] all j d lt = absurd (omega (arith, lt))
all_get P (x ∷ xs) all zero d lt = all.0
all_get P (x ∷ xs) all (suc j) d lt = all_get P xs all.1 j d (omega (arith, lt))

rises : (xs : List Segment) → Rise (numbers_in (indexes_of xs)) → (i j : ℕ) (d : Segment) → i < j → j < length xs → number_of (get_or xs i d) < number_of (get_or xs j d)
rises [] rise i j d lt inside = absurd (omega (arith, inside))
rises (x ∷ xs) rise zero zero d lt inside = absurd (omega (arith, lt))
rises (x ∷ xs) rise (suc i) zero d lt inside = absurd (omega (arith, lt))
rises (x ∷ xs) rise zero (suc j) d lt inside = all_get (λ m. number_of x < m) xs rise.0 j d (omega (arith, inside))
rises (x ∷ xs) rise (suc i) (suc j) d lt inside = rises xs rise.1 i j d (omega (arith, lt)) (omega (arith, inside))

module _ (n : ℕ) where
  comparisons_rise : (x : Segment) (xs : List Segment) → Rise (numbers_in (indexes_of (x ∷ xs))) → IsNonDecreasingBy (λ y. ordering_index (nat_cmp (number_of y) n)) (x ∷ xs)
  comparisons_rise x xs rise = IsNonDecreasingBy-from_default (λ y. ordering_index (nat_cmp (number_of y) n)) (x ∷ xs) x (λ i j le inside.
      let up : number_of (get_or (x ∷ xs) i x) ≤ number_of (get_or (x ∷ xs) j x) = grind (arith, rises (x ∷ xs) rise i j x, λ (same : i ≡ j). ap (λ (k : ℕ). number_of (get_or (x ∷ xs) k x)) same) in
      grind (arith, nat_tests))

  has_at : (xs : List Segment) (i : ℕ) (d : Segment) → i < length xs → number_of (get_or xs i d) ≡ n → has_number (indexes_of xs) n ≡ true
  has_at [] i d lt is = absurd (omega (arith, lt))
  has_at (x ∷ xs) zero d lt is = or_left (number_of x == n) (has_number (indexes_of xs) n) (eq-eqb (number_of x) n is)
  has_at (x ∷ xs) (suc i) d lt is = or_right (number_of x == n) (has_number (indexes_of xs) n) (has_at xs i d (omega (arith, lt)) is)

  has_none : (xs : List Segment) (d : Segment) → ((k : ℕ) → k < length xs → number_of (get_or xs k d) ≡ n → ⊥) → has_number (indexes_of xs) n ≡ false
  has_none [] d other = refl
  has_none (x ∷ xs) d other =
      ap (λ (b : Bool). b || has_number (indexes_of xs) n) (ne_eqb (number_of x) n (other 0 (omega arith)))
      ∙ has_none xs d (λ k lt. other (suc k) (omega (arith, lt)))

  found : (xs : List Segment) (i : ℕ) → i < length xs → HoldsAt (λ y. nat_cmp (number_of y) n ≡ Equal) xs i → has_number (indexes_of xs) n ≡ true
  found [] i inside at = absurd (omega (arith, inside))
  found (x ∷ xs) i inside at = has_at (x ∷ xs) i x inside (ranked _ n _ (sym (at x)))

  absent : (xs : List Segment) (i : ℕ) → Rise (numbers_in (indexes_of xs)) → (IsNonDecreasingBy (λ y. ordering_index (nat_cmp (number_of y) n)) xs → IsPartitionPoint (λ y. nat_cmp (number_of y) n ≡ Less) (λ y. nat_cmp (number_of y) n ≡ Greater) xs i)
      → has_number (indexes_of xs) n ≡ false
  absent [] i rise parted = refl
  absent (x ∷ xs) i rise parted =
      let parts = parted (comparisons_rise x xs rise) in
      has_none (x ∷ xs) x (λ k below same.
      let low : k < i → number_of (get_or (x ∷ xs) k x) < n = λ lt. ranked _ n _ (sym (parts.0 k x (omega arith) lt)) in
      let high : i ≤ k → n < number_of (get_or (x ∷ xs) k x) = λ le. ranked _ n _ (sym (parts.1 k x le below)) in
      grind (arith, low, high, same))

  -- the search finds a segment exactly where one has the number
  pub has_search : (xs : List Segment) (r : Result ℕ ℕ) → Rise (numbers_in (indexes_of xs)) → IsSearchInRange r (length xs) → IsBinarySearchResult (λ y. nat_cmp (number_of y) n) xs r → is_ok r ≡ has_number (indexes_of xs) n
  has_search xs (Ok i) rise inside is = sym (found xs i inside is)
  has_search xs (Err i) rise inside is = sym (absent xs i rise is)
