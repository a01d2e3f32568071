-- Numbers in order, whatever the order in which a heap keeps them, and where one more belongs.
use Prim.Native.Nat.{zero, suc}
use Rattle.std.proofs.Common.{Less, Equal, Greater, ◌≡◌, ℕ, ◌+◌, ◌-◌, ◌<◌, ◌≤◌, Bool, true, false, cond, List, [], ◌∷◌, ◌++◌, length, get_or, refl, sym, ap, ◌∙◌, subst, arith, inl, inr, length-append}
use Rattle.std.specs.Prelude.{◌==◌, nat_lt, Option, Some, None, slice_get}
use Rattle.std.specs.List.{AllByRecursion, insert, sum_by}
use Rattle.std.specs.List.Sorted.{IsPermutation}
use Rattle.std.specs.BinaryHeap.{IsUpperBound}
use Rattle.std.specs.Ordering.{nat_cmp, is_lt}
use Rattle.std.specs.declared.cmp.Reverse.{Reverse}
use Rattle.std.proofs.lemmas.Bool.{cond-true, cond-false, eq-eqb, ltb-true, ltb-false, lt-ltb, le-ltb, ne_eqb, cases_lt, cases_Bool}
use Rattle.std.proofs.lemmas.List.{get_or_append_left, get_or-append-add}
use Rattle.std.proofs.lemmas.List.Edits.{insert-append_left, insert-append_right}
use Rattle.std.proofs.lemmas.List.Sums.{sum_by-append}
use Rattle.std.proofs.lemmas.List.Sorted.{sum_by-IsPermutation}
use Rattle.cq_items.specs.Queue.{IsRising, IsPlace}
use Rattle.cq_items.specs.Line.{put_in, ascending, IsPut, is_first}

abbrev IsNot : ℕ → List ℕ → Type 0
IsNot x ys = AllByRecursion (λ y. nat_lt y x ≡ false) ys

abbrev Rises : List ℕ → Type 0
Rises [] = Unit {0}
Rises (x ∷ xs) = IsNot x xs × Rises xs

-- whether a number is this one, as 1 or 0
abbrev weight : ℕ → ℕ → ℕ
weight k x = cond (x == k) 1 0

weight-own : (x : ℕ) → weight x x ≡ 1
weight-own x = rw (eq-eqb x x refl)

weight-other : (k x : ℕ) → k < x → weight k x ≡ 0
weight-other k x l = rw (ne_eqb x k (λ e. omega arith))

abbrev count : ℕ → List ℕ → ℕ
count k [] = 0
count k (x ∷ xs) = weight k x + count k xs

count-put_in : (k x : ℕ) (ys : List ℕ) → count k (put_in x ys) ≡ weight k x + count k ys
count-put_in k x [] = refl
count-put_in k x (y ∷ ys) =
    elim (nat_lt y x) as (λ b. count k (cond b (y ∷ put_in x ys) (x ∷ y ∷ ys)) ≡ weight k x + (weight k y + count k ys)) [
      | true ↦ omega (arith, count-put_in k x ys)
      | false ↦ refl
    ]

all-put_in : (t : ℕ → Bool) (x : ℕ) (ys : List ℕ) → AllByRecursion (λ y. t y ≡ false) ys → t x ≡ false → AllByRecursion (λ y. t y ≡ false) (put_in x ys)
all-put_in t x [] a p = (p, tt)
all-put_in t x (y ∷ ys) a p =
    elim (nat_lt y x) as (λ b. AllByRecursion (λ z. t z ≡ false) (cond b (y ∷ put_in x ys) (x ∷ y ∷ ys))) [
      | true ↦ (a.0, all-put_in t x ys a.1 p)
      | false ↦ (p, a)
    ]

not-further : (x y : ℕ) (zs : List ℕ) → nat_lt y x ≡ false → IsNot y zs → IsNot x zs
not-further x y [] e a = tt
not-further x y (z ∷ zs) e a =
    let p : y ≤ z = ltb-false z y a.0 in
    let q : x ≤ y = ltb-false y x e in
    (le-ltb z x (omega arith), not-further x y zs e a.1)

rises-put_in : (x : ℕ) (ys : List ℕ) → Rises ys → Rises (put_in x ys)
rises-put_in x [] r = (tt, tt)
rises-put_in x (y ∷ ys) r =
    (elim (nat_lt y x) as (λ b. nat_lt y x ≡ b → Rises (cond b (y ∷ put_in x ys) (x ∷ y ∷ ys))) [
      | true ↦ λ e. (let l : y < x = ltb-true y x e in (all-put_in (λ z. nat_lt z y) x ys r.0 (le-ltb x y (omega arith)), rises-put_in x ys r.1))
      | false ↦ λ e. ((e, not-further x y ys e r.0), r)
    ]) refl

rises-ascending : (rs : List (Reverse ℕ)) → Rises (ascending rs)
rises-ascending [] = tt
rises-ascending (r ∷ rs) = rises-put_in r.0 (ascending rs) (rises-ascending rs)

-- ---- the same numbers in order are the same list

count-below : (k y : ℕ) (ys : List ℕ) → IsNot y ys → k < y → count k ys ≡ 0
count-below k y [] a l = refl
count-below k y (z ∷ zs) a l =
    let p : y ≤ z = ltb-false z y a.0 in
    omega (arith, weight-other k z (omega arith), count-below k y zs a.1 l)

count-none : (k y : ℕ) (ys : List ℕ) → IsNot y ys → k < y → count k (y ∷ ys) ≡ 0
count-none k y ys a l = omega (arith, weight-other k y l, count-below k y ys a l)

count-own : (x : ℕ) (xs : List ℕ) → count x (x ∷ xs) ≡ 1 + count x xs
count-own x xs = ap (λ n. n + count x xs) (weight-own x)

unique : (xs ys : List ℕ) → Rises xs → Rises ys → ((k : ℕ) → count k xs ≡ count k ys) → xs ≡ ys
unique [] [] r s h = refl
unique [] (y ∷ ys) r s h = let e : 0 ≡ 1 + count y ys = h y ∙ count-own y ys in absurd (omega arith)
unique (x ∷ xs) [] r s h = let e : 1 + count x xs ≡ 0 = sym (count-own x xs) ∙ h x in absurd (omega arith)
unique (x ∷ xs) (y ∷ ys) r s h =
    let less : x < y → ⊥ = λ l. (let e : 1 + count x xs ≡ 0 = sym (count-own x xs) ∙ h x ∙ count-none x y ys s.0 l in omega arith) in
    let more : y < x → ⊥ = λ l. (let e : 1 + count y ys ≡ 0 = sym (count-own y ys) ∙ sym (h y) ∙ count-none y x xs r.0 l in omega arith) in
    let same : x ≡ y = elim (cases_lt x y) [ inl l ↦ absurd (less l) | inr g ↦ (elim (cases_lt y x) [ inl m ↦ absurd (more m) | inr n ↦ omega arith ]) ] in
    let rest : (k : ℕ) → count k xs ≡ count k ys = λ k. (let e : weight k x + count k xs ≡ weight k y + count k ys = h k in omega (arith, ap (weight k) same)) in
    ap (λ z. z ∷ xs) same ∙ ap (λ zs. y ∷ zs) (unique xs ys r.1 s.1 rest)

abbrev weigh : ℕ → Reverse ℕ → ℕ
weigh k r = weight k r.0

sum-cons : (k : ℕ) (r : Reverse ℕ) (rs : List (Reverse ℕ)) → sum_by (weigh k) (r ∷ rs) ≡ weigh k r + sum_by (weigh k) rs
sum-cons k r rs = let e : sum_by (weigh k) (r ∷ rs) ≡ (0 + weigh k r) + sum_by (weigh k) rs = sum_by-append (weigh k) (r ∷ []) rs in omega arith

count-ascending : (k : ℕ) (rs : List (Reverse ℕ)) → count k (ascending rs) ≡ sum_by (weigh k) rs
count-ascending k [] = refl
count-ascending k (r ∷ rs) = count-put_in k r.0 (ascending rs) ∙ ap (λ n. weigh k r + n) (count-ascending k rs) ∙ sym (sum-cons k r rs)

pub ascending-permuted : (rs qs : List (Reverse ℕ)) → IsPermutation rs qs → ascending rs ≡ ascending qs
ascending-permuted rs qs p =
    unique (ascending rs) (ascending qs) (rises-ascending rs) (rises-ascending qs)
    (λ k. count-ascending k rs ∙ sym (sum_by-IsPermutation (weigh k) rs qs p) ∙ sym (count-ascending k qs))

pub length-put_in : (x : ℕ) (ys : List ℕ) → length (put_in x ys) ≡ suc (length ys)
length-put_in x [] = refl
length-put_in x (y ∷ ys) =
    elim (nat_lt y x) as (λ b. length (cond b (y ∷ put_in x ys) (x ∷ y ∷ ys)) ≡ suc (suc (length ys))) [
      | true ↦ ap suc (length-put_in x ys)
      | false ↦ refl
    ]

pub length-ascending : (rs : List (Reverse ℕ)) → length (ascending rs) ≡ length rs
length-ascending [] = refl
length-ascending (r ∷ rs) = length-put_in r.0 (ascending rs) ∙ ap suc (length-ascending rs)

-- ---- the first one

least-order : (x y : ℕ) → is_lt (nat_cmp y x) ≡ false → nat_lt y x ≡ false
least-order x y e = elim (cases_Bool (nat_lt y x)) [
  | inr f ↦ f
  | inl t ↦ (
      let s : nat_cmp y x ≡ Less = cond-true (nat_lt y x) Less (cond (y == x) Equal Greater) t in
      let u : true ≡ false = sym (ap is_lt s) ∙ e in cc)
]

all-ascending : (x : ℕ) (rs : List (Reverse ℕ)) → IsUpperBound (λ (a b : Reverse ℕ). nat_cmp b.0 a.0) (record { 0 = x }) rs → IsNot x (ascending rs)
all-ascending x [] a = tt
all-ascending x (r ∷ rs) a = all-put_in (λ y. nat_lt y x) r.0 (ascending rs) (all-ascending x rs a.1) (least-order x r.0 a.0)

put_in-first : (x : ℕ) (ys : List ℕ) → IsNot x ys → put_in x ys ≡ x ∷ ys
put_in-first x [] a = refl
put_in-first x (y ∷ ys) a = cond-false (nat_lt y x) (y ∷ put_in x ys) (x ∷ y ∷ ys) a.0

-- what a heap's top leaves
pub ascending-top : (r : Reverse ℕ) (rs : List (Reverse ℕ)) → IsUpperBound (λ (a b : Reverse ℕ). nat_cmp b.0 a.0) r rs → ascending (r ∷ rs) ≡ r.0 ∷ ascending rs
ascending-top r rs a = put_in-first r.0 (ascending rs) (all-ascending r.0 rs a)

pub top-first : (rs : List (Reverse ℕ)) (ys : List ℕ) (x : Reverse ℕ) → 0 < length rs → x ≡ get_or rs 0 x → IsUpperBound (λ (a b : Reverse ℕ). nat_cmp b.0 a.0) x rs → Some x.0 ≡ slice_get (ascending rs ++ ys) 0
top-first [] ys x l e a = absurd (omega arith)
top-first (r ∷ rs) ys x l e a =
    let up : IsUpperBound (λ (a b : Reverse ℕ). nat_cmp b.0 a.0) r rs = subst (λ (q : Reverse ℕ). IsUpperBound (λ (a b : Reverse ℕ). nat_cmp b.0 a.0) q rs) e a.1 in
    ap (λ (q : Reverse ℕ). Some q.0) e ∙ sym (ap (λ zs. slice_get (zs ++ ys) 0) (ascending-top r rs up))

-- ---- one more

record Between (x : ℕ) (zs : List ℕ) : Type 0 where
  pub place : ℕ
  pub within : place ≤ length zs
  pub low : (j : ℕ) → j < place → get_or zs j 0 ≤ x
  pub next : place < length zs → x ≤ get_or zs place 0
  pub is : put_in x zs ≡ insert zs place x

between : (x : ℕ) (zs : List ℕ) → Between x zs
between x [] = record { place = 0; within = omega arith; low = λ j l. absurd (omega arith); next = λ l. absurd (omega arith); is = refl }
between x (z ∷ zs) =
    elim (cases_lt z x) [
      | inl l ↦ (
          let s : Between x zs = between x zs in
          record {
            place = suc s.place;
            within = omega (arith, s.within);
            low = λ j m. low s.place s.low l j m;
            next = λ m. s.next (omega arith);
            is = cond-true (nat_lt z x) (z ∷ put_in x zs) (x ∷ z ∷ zs) (lt-ltb z x l) ∙ ap (λ ys. z ∷ ys) s.is;
          })
      | inr g ↦ record {
        place = 0;
        within = omega arith;
        low = λ j m. absurd (omega arith);
        next = λ m. g;
        is = cond-false (nat_lt z x) (z ∷ put_in x zs) (x ∷ z ∷ zs) (le-ltb z x g);
      }
    ]
  where
    low : (p : ℕ) → ((j : ℕ) → j < p → get_or zs j 0 ≤ x) → z < x → (j : ℕ) → j < suc p → get_or (z ∷ zs) j 0 ≤ x
    low p f l zero m = omega arith
    low p f l (suc j) m = f j (omega arith)

get-left : (xs ys : List ℕ) (j : ℕ) → j < length xs → get_or (xs ++ ys) j 0 ≡ get_or xs j 0
get-left xs ys j l = get_or_append_left xs ys 0 j l

get-past : (xs ys : List ℕ) (n j : ℕ) → j ≡ length xs + n → get_or (xs ++ ys) j 0 ≡ get_or ys n 0
get-past xs ys n j e = ap (λ i. get_or (xs ++ ys) i 0) e ∙ get_or-append-add xs ys n 0

first-head : (x : ℕ) (ys : List ℕ) → is_first x ys ≡ true → 0 < length ys → x ≤ get_or ys 0 0
first-head x [] e l = absurd (omega arith)
first-head x (y ∷ ys) e l = ltb-false y x (not-true-false (nat_lt y x) e)
  where
    not-true-false : (b : Bool) → Rattle.std.specs.Prelude.not b ≡ true → b ≡ false
    not-true-false true f = cc
    not-true-false false f = refl

later-head : (x : ℕ) (ys : List ℕ) → is_first x ys ≡ false → (0 < length ys) × (get_or ys 0 0 < x)
later-head x [] e = cc
later-head x (y ∷ ys) e = (omega arith, ltb-true y x (not-false-true (nat_lt y x) e))
  where
    not-false-true : (b : Bool) → Rattle.std.specs.Prelude.not b ≡ false → b ≡ true
    not-false-true true f = refl
    not-false-true false f = cc

-- it comes before those that never left
pub put-low : (x : ℕ) (zs ys : List ℕ) → IsRising (zs ++ ys) → is_first x ys ≡ true → IsPut x (zs ++ ys) (put_in x zs ++ ys)
put-low x zs ys r f =
    let s : Between x zs = between x zs in
    let whole : length (zs ++ ys) ≡ length zs + length ys = length-append zs ys in
    record {
      place = s.place;
      belongs = record {
        within = omega (arith, s.within, whole);
        low = λ j l. (let e = get-left zs ys j (omega (arith, s.within)) in omega (arith, e, s.low j l));
        high = λ j m l. elim (cases_lt s.place (length zs)) [
          | inl k ↦ (let e = get-left zs ys s.place k in omega (arith, e, s.next k, r s.place j m l))
          | inr g ↦ (
              let e = get-past zs ys 0 s.place (omega (arith, s.within)) in
              omega (arith, e, first-head x ys f (omega (arith, s.within, whole)), r s.place j m l))
        ];
      };
      is = ap (λ js. js ++ ys) s.is ∙ sym (insert-append_left zs ys s.place x s.within);
    }

pub rising-right : (zs ys : List ℕ) → IsRising (zs ++ ys) → IsRising ys
rising-right zs ys r i j m l =
    let a = get-past zs ys i (length zs + i) refl in
    let b = get-past zs ys j (length zs + j) refl in
    omega (arith, a, b, r (length zs + i) (length zs + j) (omega arith) (omega (arith, length-append zs ys)))

-- it comes among those that never left
pub put-high : (x : ℕ) (zs ys new : List ℕ) (p : ℕ) → IsRising (zs ++ ys) → is_first x ys ≡ false → IsPlace ys x p → new ≡ insert ys p x → IsPut x (zs ++ ys) (zs ++ new)
put-high x zs ys new p r f b e =
    let whole : length (zs ++ ys) ≡ length zs + length ys = length-append zs ys in
    let head = later-head x ys f in
    record {
      place = length zs + p;
      belongs = record {
        within = omega (arith, b.within, whole);
        low = λ j l. elim (cases_lt j (length zs)) [
          | inl k ↦ (
              let u = get-past zs ys 0 (length zs) (omega arith) in
              omega (arith, u, head.1, r j (length zs) (omega arith) (omega (arith, whole, head.0))))
          | inr g ↦ (
              let u = get-past zs ys (j - length zs) j (omega arith) in
              omega (arith, u, b.low (j - length zs) (omega arith)))
        ];
        high = λ j m l. (
            let u = get-past zs ys (j - length zs) j (omega arith) in
            omega (arith, u, b.high (j - length zs) (omega arith) (omega (arith, whole))));
      };
      is = ap (λ js. zs ++ js) e ∙ sym (insert-append_right zs ys (length zs) (length zs + p) x refl (omega arith) ∙ ap (λ n. zs ++ insert ys n x) (omega arith));
    }
