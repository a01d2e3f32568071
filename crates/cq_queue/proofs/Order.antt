-- The segments list places in order: by rising segment, and in one segment by rising place.
use Prim.Native.Nat.{zero, suc}
use Rattle.std.proofs.Common.{◌≡◌, ℕ, ◌+◌, ◌≤◌, ◌<◌, List, [], ◌∷◌, ◌++◌, subst, arith}
use Rattle.std.specs.List.{AllByRecursion, slice_index}
use Rattle.std.specs.List.Sorted.{IsStrictlyIncreasing}
use Rattle.cq_queue.specs.declared.segment.QueueSegment.{QueueSegment}
use Rattle.cq_queue.specs.QueueSegment.{present_of}
use Rattle.cq_queue.specs.Lists.{Rise}
use Rattle.cq_folder.specs.Queue.{listed_in}
use Rattle.cq_queue.specs.Tied.{listed}
use Rattle.cq_queue.proofs.Changes.{all_append}

pub weaker : {A : Type 0} (P Q : A → Type 0) (xs : List A) → ((x : A) → P x → Q x) → AllByRecursion P xs → AllByRecursion Q xs
weaker P Q [] step all = tt
weaker P Q (x ∷ xs) step all = (step x all.0, weaker P Q xs step all.1)

-- one place comes before another
abbrev pub IsBefore : (ℕ × ℕ) → (ℕ × ℕ) → Type 0
IsBefore x y = (x.0 ≤ y.0) × (x.0 ≡ y.0 → x.1 < y.1)

abbrev pub AreInOrder : List (ℕ × ℕ) → Type 0
AreInOrder [] = Unit {0}
AreInOrder (x ∷ xs) = AllByRecursion (IsBefore x) xs × AreInOrder xs

-- no place is listed twice
abbrev pub AreApart : List (ℕ × ℕ) → Type 0
AreApart [] = Unit {0}
AreApart (x ∷ xs) = AllByRecursion (λ (y : ℕ × ℕ). x.0 ≡ y.0 → x.1 ≡ y.1 → ⊥) xs × AreApart xs

pub are_apart : (xs : List (ℕ × ℕ)) → AreInOrder xs → AreApart xs
are_apart [] order = tt
are_apart (x ∷ xs) order = (weaker (IsBefore x) (λ (y : ℕ × ℕ). x.0 ≡ y.0 → x.1 ≡ y.1 → ⊥) xs (λ y before same at. let lt = before.1 same in omega (arith, lt, at)) order.0, are_apart xs order.1)

-- ---- numbers that rise

rising_tail : (x : ℕ) (xs : List ℕ) → IsStrictlyIncreasing (x ∷ xs) → IsStrictlyIncreasing xs
rising_tail x xs rise k lt =
    let e : suc k + 1 ≡ suc (k + 1) = omega arith in
    subst (λ (m : ℕ). slice_index (x ∷ xs) (suc k) < slice_index (x ∷ xs) m) e (rise (suc k) (omega (arith, lt)))

above_head : (x : ℕ) (xs : List ℕ) → IsStrictlyIncreasing (x ∷ xs) → AllByRecursion (λ (y : ℕ). x < y) xs
above_head x [] rise = tt
above_head x (y ∷ xs) rise =
    let first : x < y = rise 0 (omega arith) in
    (first, weaker (λ (z : ℕ). y < z) (λ (z : ℕ). x < z) xs (λ z lt. omega (arith, lt, first)) (above_head y xs (rising_tail x (y ∷ xs) rise)))

-- one below all of a rising list, and that list
pub rising_more : (x : ℕ) (xs : List ℕ) → AllByRecursion (λ (y : ℕ). x < y) xs → IsStrictlyIncreasing xs → IsStrictlyIncreasing (x ∷ xs)
rising_more x [] above rise k lt = absurd (omega (arith, lt))
rising_more x (y ∷ xs) above rise zero lt = above.0
rising_more x (y ∷ xs) above rise (suc k) lt =
    let e : suc (k + 1) ≡ suc k + 1 = omega arith in
    subst (λ (m : ℕ). slice_index (x ∷ y ∷ xs) (suc k) < slice_index (x ∷ y ∷ xs) m) e (rise k (omega (arith, lt)))

-- ---- what is listed

in_order : (n : ℕ) (ks : List ℕ) → IsStrictlyIncreasing ks → AreInOrder (listed_in n ks)
in_order n [] rise = tt
in_order n (k ∷ ks) rise = (behind ks (above_head k ks rise), in_order n ks (rising_tail k ks rise))
  where
    behind : (js : List ℕ) → AllByRecursion (λ (y : ℕ). k < y) js → AllByRecursion (IsBefore (n, k)) (listed_in n js)
    behind [] above = tt
    behind (y ∷ js) above = let lt = above.0 in ((omega arith, λ same. lt), behind js above.1)

order_append : (xs ys : List (ℕ × ℕ)) → AreInOrder xs → AreInOrder ys → AllByRecursion (λ (x : ℕ × ℕ). AllByRecursion (IsBefore x) ys) xs → AreInOrder (xs ++ ys)
order_append [] ys a b cross = b
order_append (x ∷ xs) ys a b cross = (all_append (IsBefore x) xs ys a.0 cross.0, order_append xs ys a.1 b cross.1)

in_above : (n m : ℕ) (ks : List ℕ) → n < m → AllByRecursion (λ (y : ℕ × ℕ). n < y.0) (listed_in m ks)
in_above n m [] lt = tt
in_above n m (k ∷ ks) lt = (lt, in_above n m ks lt)

pub numbers_above : (n : ℕ) (ps : List QueueSegment) → AllByRecursion (λ (s : QueueSegment). n < s.number) ps → AllByRecursion (λ (y : ℕ × ℕ). n < y.0) (listed ps)
numbers_above n [] above = tt
numbers_above n (q ∷ ps) above = all_append (λ (y : ℕ × ℕ). n < y.0) (listed_in q.number (present_of q)) (listed ps) (in_above n q.number (present_of q) above.0) (numbers_above n ps above.1)

crossed : (n : ℕ) (ks : List ℕ) (ys : List (ℕ × ℕ)) → AllByRecursion (λ (y : ℕ × ℕ). n < y.0) ys → AllByRecursion (λ (x : ℕ × ℕ). AllByRecursion (IsBefore x) ys) (listed_in n ks)
crossed n [] ys above = tt
crossed n (k ∷ ks) ys above = (weaker (λ (y : ℕ × ℕ). n < y.0) (IsBefore (n, k)) ys (λ y lt. (omega (arith, lt), λ same. absurd (omega (arith, lt, same)))) above, crossed n ks ys above)

pub listed_order : (ps : List QueueSegment) → Rise ps → AreInOrder (listed ps)
listed_order [] rise = tt
listed_order (q ∷ ps) rise = order_append (listed_in q.number (present_of q)) (listed ps) (in_order q.number (present_of q) q.index.rising) (listed_order ps rise.1)
    (crossed q.number (present_of q) (listed ps) (numbers_above q.number ps rise.0))
