-- The small store of a number, where numbers rise.
use Rattle.std.proofs.Common.{◌≡◌, ◌∙◌, ℕ, zero, suc, ◌<◌, ◌≤◌, Bool, false, List, [], ◌∷◌, length, map, get_or, Option, Some, Result, Ok, Err, refl, sym, ap, subst, arith}
use Rattle.std.specs.Prelude.{MatchOption, slice_get, ◌==◌, ◌||◌}
use Rattle.std.specs.Result.{result_ok}
use Rattle.std.specs.List.{list_any, AllByRecursion, HoldsAt}
use Rattle.std.specs.List.Sorted.{IsBinarySearchResult, IsNonDecreasingBy, IsPartitionPoint, IsSearchInRange}
use Rattle.std.specs.Ordering.{nat_cmp, ordering_index}
use Rattle.std.specs.declared.cmp.Ordering.TheVariants.{Less, Equal, Greater}
use Rattle.std.proofs.lemmas.Cmp.{ranked}
use Rattle.std.proofs.lemmas.Bool.{ne_eqb}
use Rattle.std.proofs.lemmas.Bool.Decides.{nat_tests}
use Rattle.std.proofs.lemmas.List.Folds.{list_any_none}
use Rattle.std.proofs.lemmas.List.Sorted.{IsNonDecreasingBy-from_default}
use Rattle.std.proofs.lemmas.Option.{none-some, same_Some, slice_get-get_or, slice_get_read}
use Rattle.cq_disk.specs.declared.name.Name.{Name}
use Rattle.cq_small.specs.declared.store.SmallStore.{SmallStore}
use Rattle.cq_small.specs.Store.{small_name, name_of}
use Rattle.cq_folder.specs.Queue.{RiseAs, has_number, stores_of}
use Rattle.cq_back_q.specs.Reading.{IsStoreAt, Rise}

abbrev pub number_of : SmallStore → ℕ
number_of t = (name_of t).number

-- ---- what is true of each is true of one

pub all_at : {A : Type 0} (P : A → Type 0) (xs : List A) (i : ℕ) (x : A) → slice_get xs i ≡ Some x → AllByRecursion P xs → P x
all_at P [] i x is all = absurd (none-some x is)
all_at P (y ∷ xs) zero x is all = subst P (same_Some y x is) all.0
all_at P (y ∷ xs) (suc i) x is all = all_at P xs i x is all.1

pub all_unmap : {A B : Type 0} (f : A → B) (P : B → Type 0) (xs : List A) → AllByRecursion P (map f xs) → AllByRecursion (λ x. P (f x)) xs
all_unmap f P [] all = tt
all_unmap f P (x ∷ xs) all = (all.0, all_unmap f P xs all.1)

-- ---- numbers that rise

pub stores_rise : (queue : ℕ) (stores : List SmallStore) → RiseAs (small_name queue) (stores_of stores) → Rise stores
stores_rise queue [] rise = tt
stores_rise queue (t ∷ stores) rise = (all_unmap name_of (λ (n : Name). number_of t < n.number) stores rise.1, stores_rise queue stores rise.2)

pub names_are : {A : Type 0} (name : A → Name) (name_at : ℕ → Name) (xs : List A) → RiseAs name_at (map name xs) → AllByRecursion (λ x. name x ≡ name_at (name x).number) xs
names_are name name_at [] rise = tt
names_are name name_at (x ∷ xs) rise = (rise.0, names_are name name_at xs rise.2)

-- the store of a number has its name
pub store_named : (queue : ℕ) (stores : List SmallStore) (number i : ℕ) (t : SmallStore) → RiseAs (small_name queue) (stores_of stores) → slice_get stores i ≡ Some t → IsStoreAt stores i number → name_of t ≡ small_name queue number
store_named queue stores number i t rise is at =
    let same : at.store ≡ t = same_Some at.store t (sym at.is ∙ is) in
    all_at (λ u. name_of u ≡ small_name queue (number_of u)) stores i t is (names_are name_of (small_name queue) stores rise) ∙ ap (small_name queue) (sym (ap number_of same) ∙ at.number_is)

rises : (xs : List SmallStore) → Rise xs → (i j : ℕ) (d : SmallStore) → i < j → j < length xs → number_of (get_or xs i d) < number_of (get_or xs j d)
rises [] rise i j d lt inside = absurd (omega (arith, inside))
rises (x ∷ xs) rise i zero d lt inside = absurd (omega (arith, lt))
rises (x ∷ xs) rise zero (suc j) d lt inside = all_at (λ y. number_of x < number_of y) xs j (get_or xs j d) (slice_get_read xs (length xs) j (get_or xs j d) refl (omega (arith, inside)) (same_read xs j d (omega (arith, inside)))) rise.0
  where
    same_read : (ys : List SmallStore) (k : ℕ) (e : SmallStore) → k < length ys → get_or ys k e ≡ get_or ys k (get_or ys k e)
    same_read [] k e lt' = refl
    same_read (y ∷ ys) zero e lt' = refl
    same_read (y ∷ ys) (suc k) e lt' = same_read ys k e (omega (arith, lt'))
rises (x ∷ xs) rise (suc i) (suc j) d lt inside = rises xs rise.1 i j d (omega (arith, lt)) (omega (arith, inside))

-- ---- the search

any_map : (stores : List SmallStore) (n : ℕ) → has_number (stores_of stores) n ≡ list_any (λ t. number_of t == n) stores
any_map [] n = refl
any_map (t ∷ stores) n = ap (λ (b : Bool). (number_of t == n) || b) (any_map stores n)

module _ (n : ℕ) where
  comparisons_rise : (x : SmallStore) (xs : List SmallStore) → Rise (x ∷ xs) → IsNonDecreasingBy (λ y. ordering_index (nat_cmp (number_of y) n)) (x ∷ xs)
  comparisons_rise x xs rise = IsNonDecreasingBy-from_default (λ y. ordering_index (nat_cmp (number_of y) n)) (x ∷ xs) x (λ i j le inside.
      let up : number_of (get_or (x ∷ xs) i x) ≤ number_of (get_or (x ∷ xs) j x) = grind (arith, rises (x ∷ xs) rise i j x, λ (same : i ≡ j). ap (λ (k : ℕ). number_of (get_or (x ∷ xs) k x)) same) in
      grind (arith, nat_tests))

  found : (xs : List SmallStore) (i : ℕ) → i < length xs → HoldsAt (λ y. nat_cmp (number_of y) n ≡ Equal) xs i → IsStoreAt xs i n
  found [] i inside at = absurd (omega (arith, inside))
  found (x ∷ xs) i inside at = record { inside = inside; store = get_or (x ∷ xs) i x; is = slice_get-get_or (x ∷ xs) i x inside; number_is = ranked _ n _ (sym (at x)) }

  absent : (xs : List SmallStore) (i : ℕ) → Rise xs → i ≤ length xs → (IsNonDecreasingBy (λ y. ordering_index (nat_cmp (number_of y) n)) xs → IsPartitionPoint (λ y. nat_cmp (number_of y) n ≡ Less) (λ y. nat_cmp (number_of y) n ≡ Greater) xs i) → list_any (λ t. number_of t == n) xs ≡ false
  absent [] i rise inside parted = refl
  absent (x ∷ xs) i rise inside parted =
      let parts = parted (comparisons_rise x xs rise) in
      list_any_none (λ t. number_of t == n) (x ∷ xs) (λ k d below. ne_eqb _ n (λ same.
      let low : k < i → number_of (get_or (x ∷ xs) k d) < n = λ lt. ranked _ n _ (sym (parts.0 k d (omega arith) lt)) in
      let high : i ≤ k → n < number_of (get_or (x ∷ xs) k d) = λ le. ranked _ n _ (sym (parts.1 k d le below)) in
      grind (arith, low, high, same)))

  -- what a binary search finds
  pub search_store : (xs : List SmallStore) (r : Result ℕ ℕ) (o : Option ℕ) → Rise xs → IsSearchInRange r (length xs) → IsBinarySearchResult (λ y. nat_cmp (number_of y) n) xs r → o ≡ result_ok r → MatchOption o (has_number (stores_of xs) n ≡ false) (λ i. IsStoreAt xs i n)
  search_store xs (Ok i) o rise inside is part = subst (λ (p : Option ℕ). MatchOption p (has_number (stores_of xs) n ≡ false) (λ k. IsStoreAt xs k n)) (sym part) (found xs i inside is)
  search_store xs (Err i) o rise inside is part = subst (λ (p : Option ℕ). MatchOption p (has_number (stores_of xs) n ≡ false) (λ k. IsStoreAt xs k n)) (sym part) (any_map xs n ∙ absent xs i rise inside is)
