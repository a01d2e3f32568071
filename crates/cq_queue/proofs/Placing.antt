-- Rising numbers that change in the middle.
use Prim.Native.Nat.{zero, suc}
use Rattle.std.proofs.Common.{◌≡◌, ◌≢◌, ℕ, ◌<◌, ◌≤◌, Bool, true, false, List, [], ◌∷◌, ◌++◌, length, get_or, take, drop, Result, Ok, Err, refl, sym, ap, ◌∙◌, subst, arith, inl, inr, ⊎_elim}
use Rattle.std.specs.Prelude.{◌==◌, nat_lt, if◌then◌else◌}
use Rattle.std.specs.Ordering.{nat_cmp}
use Rattle.std.specs.List.{AllByRecursion}
use Rattle.std.specs.List.Sorted.{IsBinarySearchResult}
use Rattle.std.proofs.lemmas.List.Sorted.{searched}
use Rattle.std.proofs.lemmas.Bool.{cases_lt, eq-eqb, ne_eqb}
use Rattle.cq_queue.specs.Ascending.{Ascend, IsPlace, put_in, removed}
use Rattle.cq_queue.proofs.Planned.{lt_false, lt_true}

above_get : (x : ℕ) (xs : List ℕ) (k : ℕ) → AllByRecursion (λ y. x < y) xs → k < length xs → x < get_or xs k 0
above_get x [] k all lt = absurd (omega (arith, lt))
above_get x (y ∷ ys) zero all lt = all.0
above_get x (y ∷ ys) (suc k) all lt = above_get x ys k all.1 (omega (arith, lt))

climbs : (xs : List ℕ) → Ascend xs → (i j : ℕ) → i < j → j < length xs → get_or xs i 0 < get_or xs j 0
climbs [] rise i j less lt = absurd (omega (arith, lt))
climbs (x ∷ xs) rise i zero less lt = absurd (omega (arith, less))
climbs (x ∷ xs) rise zero (suc j) less lt = above_get x xs j rise.0 (omega (arith, lt))
climbs (x ∷ xs) rise (suc i) (suc j) less lt = climbs xs rise.1 i j (omega (arith, less)) (omega (arith, lt))

rises : (xs : List ℕ) → Ascend xs → (i j : ℕ) → i ≤ j → j < length xs → get_or xs i 0 ≤ get_or xs j 0
rises [] rise i j le lt = absurd (omega (arith, lt))
rises (x ∷ xs) rise zero zero le lt = omega arith
rises (x ∷ xs) rise (suc i) zero le lt = absurd (omega (arith, le))
rises (x ∷ xs) rise zero (suc j) le lt = let over = above_get x xs j rise.0 (omega (arith, lt)) in omega (arith, over)
rises (x ∷ xs) rise (suc i) (suc j) le lt = rises xs rise.1 i j (omega (arith, le)) (omega (arith, lt))

-- where a search says that a number stands or belongs
pub place_found : (xs : List ℕ) (n i : ℕ) → Ascend xs → IsBinarySearchResult (λ y. nat_cmp y n) xs (Ok i) → IsPlace n xs i
place_found xs n i rise is =
    let at = searched xs n (Ok i) is (rises xs rise) in
    let within = at.0 in
    let same = at.1 in
    record {
      within = omega (arith, within);
      below = λ k less. (let lt = climbs xs rise k i less within in omega (arith, lt, same));
      above = λ k le lt. (let over = rises xs rise i k le lt in omega (arith, over, same));
    }

pub place_missed : (xs : List ℕ) (n i : ℕ) → Ascend xs → IsBinarySearchResult (λ y. nat_cmp y n) xs (Err i) → IsPlace n xs i
place_missed xs n i rise is =
    let at = searched xs n (Err i) is (rises xs rise) in
    record {
      within = at.0;
      below = at.1;
      above = λ k le lt. (let over = at.2 k le lt in omega (arith, over));
    }

-- a number in its place
pub put_is : (n : ℕ) (xs : List ℕ) (i : ℕ) → IsPlace n xs i → take i xs ++ n ∷ drop i xs ≡ put_in n xs
put_is n [] zero at = refl
put_is n [] (suc i) at = refl
put_is n (x ∷ xs) zero at = sym (ap (λ (b : Bool). if b then x ∷ put_in n xs else n ∷ x ∷ xs) (lt_false x n (at.above 0 (omega arith) (omega arith))))
put_is n (x ∷ xs) (suc i) at =
    let within = at.within in
    ap (λ (l : List ℕ). x ∷ l) (put_is n xs i (record { within = omega (arith, within); below = λ k less. at.below (suc k) (omega (arith, less)); above = λ k le lt. at.above (suc k) (omega (arith, le)) (omega (arith, lt)) }))
    ∙ sym (ap (λ (b : Bool). if b then x ∷ put_in n xs else n ∷ x ∷ xs) (lt_true x n (at.below 0 (omega arith))))

-- without a number that stands there
without_is : (n : ℕ) (xs : List ℕ) (i : ℕ) → Ascend xs → i < length xs → get_or xs i 0 ≡ n → take i xs ++ drop (suc i) xs ≡ removed n xs
without_is n [] i rise lt is = absurd (omega (arith, lt))
without_is n (x ∷ xs) zero rise lt is = sym (ap (λ (b : Bool). if b then xs else x ∷ removed n xs) (eq-eqb x n is))
without_is n (x ∷ xs) (suc i) rise lt is =
    let over = above_get x xs i rise.0 (omega (arith, lt)) in
    ap (λ (l : List ℕ). x ∷ l) (without_is n xs i rise.1 (omega (arith, lt)) is)
    ∙ sym (ap (λ (b : Bool). if b then xs else x ∷ removed n xs) (ne_eqb x n (λ same. omega (arith, same, over, is))))

stays : (n : ℕ) (xs : List ℕ) → ((k : ℕ) → k < length xs → get_or xs k 0 ≢ n) → removed n xs ≡ xs
stays n [] other = refl
stays n (x ∷ xs) other =
    ap (λ (b : Bool). if b then xs else x ∷ removed n xs) (ne_eqb x n (other 0 (omega arith)))
    ∙ ap (λ (l : List ℕ). x ∷ l) (stays n xs (λ k lt. other (suc k) (omega (arith, lt))))

-- where a search finds a number, and where it doesn't
pub within_found : (n : ℕ) (xs : List ℕ) (i : ℕ) → Ascend xs → IsBinarySearchResult (λ y. nat_cmp y n) xs (Ok i) → i < length xs
within_found n xs i rise is = (searched xs n (Ok i) is (rises xs rise)).0

pub removed_found : (n : ℕ) (xs : List ℕ) (i : ℕ) → Ascend xs → IsBinarySearchResult (λ y. nat_cmp y n) xs (Ok i) → take i xs ++ drop (suc i) xs ≡ removed n xs
removed_found n xs i rise is = let at = searched xs n (Ok i) is (rises xs rise) in without_is n xs i rise at.0 at.1

pub removed_missed : (n : ℕ) (xs : List ℕ) (i : ℕ) → Ascend xs → IsBinarySearchResult (λ y. nat_cmp y n) xs (Err i) → xs ≡ removed n xs
removed_missed n xs i rise is =
    let at = searched xs n (Err i) is (rises xs rise) in
    sym (stays n xs (λ k lt same. ⊎_elim
    (λ (less : k < i). (let under = at.1 k less in omega (arith, under, same)))
    (λ (most : i ≤ k). (let over = at.2 k most lt in omega (arith, over, same)))
    (cases_lt k i)))
