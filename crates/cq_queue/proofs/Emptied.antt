-- The numbers of the segments without a present entry.
use Prim.Native.Nat.{zero, suc}
use Rattle.std.proofs.Common.{◌≡◌, ℕ, ◌+◌, ◌<◌, ◌≤◌, cond, Bool, true, false, not, List, [], ◌∷◌, ◌++◌, length, set, take, drop, length-take, Option, Some, None, refl, sym, ap, ◌∙◌, subst, arith, ⊎_elim}
use Rattle.std.specs.Prelude.{Contains, ◌==◌, ◌&&◌, ◌||◌, nat_lt, if◌then◌else◌, option_map, slice_get}
use Rattle.std.specs.List.{AllByRecursion, position_or_len}
use Rattle.std.proofs.lemmas.List.Elements.{All-head}
use Rattle.std.proofs.lemmas.Bool.{cases_Bool, eq-eqb, ne_eqb, false≢true}
use Rattle.cq_queue.specs.declared.segment.QueueSegment.{QueueSegment}
use Rattle.cq_queue.specs.QueueSegment.{CanLose, count_of, is_empty, is_over, present_of}
use Rattle.cq_queue.specs.Ascending.{Ascend, put_in, removed}
use Rattle.cq_queue.specs.Lists.{AreBelow, Rise, empty_numbers, first_over, is_there, place_in, put_empty}
use Rattle.cq_queue.proofs.Changes.{all_at, some_same}
use Rattle.cq_queue.proofs.Goes.{has_place}
use Rattle.cq_queue.proofs.Over.{more, next_test}
use Rattle.cq_queue.proofs.Planned.{lt_false, lt_true}

none_some : {A : Type 0} (a : A) → None ≡ Some a → ⊥
none_some a e = cc

-- ---- they rise, and are no more than the segments

above_if : (m : ℕ) (b : Bool) (x : ℕ) (xs : List ℕ) → m < x → AllByRecursion (λ k. m < k) xs → AllByRecursion (λ k. m < k) (if b then x ∷ xs else xs)
above_if m true x xs lt all = (lt, all)
above_if m false x xs lt all = all

empties_above : (m : ℕ) (ps : List QueueSegment) → AllByRecursion (λ (p : QueueSegment). m < p.number) ps → AllByRecursion (λ k. m < k) (empty_numbers ps)
empties_above m [] all = tt
empties_above m (p ∷ ps) all = above_if m (is_empty (present_of p)) p.number (empty_numbers ps) all.0 (empties_above m ps all.1)

ascend_if : (b : Bool) (x : ℕ) (xs : List ℕ) → AllByRecursion (λ k. x < k) xs → Ascend xs → Ascend (if b then x ∷ xs else xs)
ascend_if true x xs all rise = (all, rise)
ascend_if false x xs all rise = rise

pub empties_ascend : (ps : List QueueSegment) → Rise ps → Ascend (empty_numbers ps)
empties_ascend [] rise = tt
empties_ascend (p ∷ ps) rise = ascend_if (is_empty (present_of p)) p.number (empty_numbers ps) (empties_above p.number ps rise.0) (empties_ascend ps rise.1)

few_if : (b : Bool) (x n : ℕ) (xs : List ℕ) → length xs ≤ n → length (if b then x ∷ xs else xs) ≤ suc n
few_if true x n xs few = omega (arith, few)
few_if false x n xs few = omega (arith, few)

pub empties_few : (ps : List QueueSegment) → length (empty_numbers ps) ≤ length ps
empties_few [] = omega arith
empties_few (p ∷ ps) = few_if (is_empty (present_of p)) p.number (length ps) (empty_numbers ps) (empties_few ps)

-- ---- one more, behind the others

cons_if : (b : Bool) (n x : ℕ) (xs : List ℕ) → x < n → x ∷ (if b then put_in n xs else xs) ≡ (if b then put_in n (x ∷ xs) else x ∷ xs)
cons_if true n x xs lt = sym (ap (λ (b : Bool). if b then x ∷ put_in n xs else n ∷ x ∷ xs) (lt_true x n lt))
cons_if false n x xs lt = refl

put_behind : (b : Bool) (s : QueueSegment) (x : ℕ) (xs : List ℕ) → x < s.number → (if b then x ∷ put_empty s xs else put_empty s xs) ≡ put_empty s (if b then x ∷ xs else xs)
put_behind true s x xs lt = cons_if (is_empty (present_of s)) s.number x xs lt
put_behind false s x xs lt = refl

pub empties_push : (ps : List QueueSegment) (s : QueueSegment) → AreBelow s.number ps → empty_numbers (ps ++ s ∷ []) ≡ put_empty s (empty_numbers ps)
empties_push [] s below = refl
empties_push (p ∷ ps) s below =
    ap (λ (l : List ℕ). if is_empty (present_of p) then p.number ∷ l else l) (empties_push ps s below.1)
    ∙ put_behind (is_empty (present_of p)) s p.number (empty_numbers ps) below.0

-- ---- one that changes

first_put : (n : ℕ) (xs : List ℕ) → AllByRecursion (λ k. n < k) xs → n ∷ xs ≡ put_in n xs
first_put n [] all = refl
first_put n (x ∷ xs) all = let lt = all.0 in sym (ap (λ (b : Bool). if b then x ∷ put_in n xs else n ∷ x ∷ xs) (lt_false x n (omega (arith, lt))))

pub empties_set : (ps : List QueueSegment) (i : ℕ) (p r : QueueSegment) → Rise ps → slice_get ps i ≡ Some p → r.number ≡ p.number → is_empty (present_of p) ≡ false → empty_numbers (set ps i r) ≡ put_empty r (empty_numbers ps)
empties_set [] i p r rise is same full = absurd (none_some p is)
empties_set (q ∷ ps) zero p r rise is same full =
    let here : q ≡ p = some_same q p is in
    let none : is_empty (present_of q) ≡ false = ap (λ (s : QueueSegment). is_empty (present_of s)) here ∙ full in
    let number : q.number ≡ r.number = ap (λ (s : QueueSegment). s.number) here ∙ sym same in
    let above = subst (λ (n : ℕ). AllByRecursion (λ k. n < k) (empty_numbers ps)) number (empties_above q.number ps rise.0) in
    ap (λ (l : List ℕ). if is_empty (present_of r) then l else empty_numbers ps) (first_put r.number (empty_numbers ps) above)
    ∙ sym (ap (λ (b : Bool). put_empty r (if b then q.number ∷ empty_numbers ps else empty_numbers ps)) none)
empties_set (q ∷ ps) (suc i) p r rise is same full =
    let lt : q.number < p.number = all_at (λ (s : QueueSegment). q.number < s.number) ps i p is rise.0 in
    ap (λ (l : List ℕ). if is_empty (present_of q) then q.number ∷ l else l) (empties_set ps i p r rise.1 is same full)
    ∙ put_behind (is_empty (present_of q)) r q.number (empty_numbers ps) (omega (arith, lt, same))

full_of : (ks : List ℕ) (k : ℕ) → Contains ks k → is_empty ks ≡ false
full_of [] k at = absurd (let lt = at.1 in omega (arith, lt))
full_of (x ∷ ks) k at = refl

-- one that can lose an entry has one
pub can_full : (p : QueueSegment) (at : List ℕ) → CanLose p at → is_empty (present_of p) ≡ false
can_full p [] can = absurd (let lt = can.some in omega (arith, lt))
can_full p (k ∷ at) can = full_of (present_of p) k (All-head (Contains (present_of p)) k at can.present)

pub fewer_full : (ps : List QueueSegment) (i : ℕ) (p : QueueSegment) → slice_get ps i ≡ Some p → is_empty (present_of p) ≡ false → length (empty_numbers ps) < length ps
fewer_full [] i p is full = absurd (none_some p is)
fewer_full (q ∷ ps) zero p is full =
    let none : is_empty (present_of q) ≡ false = ap (λ (s : QueueSegment). is_empty (present_of s)) (some_same q p is) ∙ full in
    let few = empties_few ps in
    subst (λ (b : Bool). length (if b then q.number ∷ empty_numbers ps else empty_numbers ps) < suc (length ps)) (sym none) (omega (arith, few))
fewer_full (q ∷ ps) (suc i) p is full = fewer_if (is_empty (present_of q)) q.number (length ps) (empty_numbers ps) (fewer_full ps i p is full)
  where
    fewer_if : (b : Bool) (x n : ℕ) (xs : List ℕ) → length xs < n → length (if b then x ∷ xs else xs) < suc n
    fewer_if true x n xs few = omega (arith, few)
    fewer_if false x n xs few = omega (arith, few)

-- ---- one that goes

past : (b : Bool) (n x : ℕ) (xs : List ℕ) → x < n → (if b then x ∷ removed n xs else removed n xs) ≡ removed n (if b then x ∷ xs else xs)
past true n x xs lt = sym (ap (λ (b : Bool). if b then xs else x ∷ removed n xs) (ne_eqb x n (λ same. omega (arith, same, lt))))
past false n x xs lt = refl

pub empties_without : (ps : List QueueSegment) (i : ℕ) (p : QueueSegment) → Rise ps → slice_get ps i ≡ Some p → is_empty (present_of p) ≡ true → empty_numbers (take i ps ++ drop (suc i) ps) ≡ removed p.number (empty_numbers ps)
empties_without [] i p rise is none = absurd (none_some p is)
empties_without (q ∷ ps) zero p rise is none =
    let here : q ≡ p = some_same q p is in
    let empty : is_empty (present_of q) ≡ true = ap (λ (s : QueueSegment). is_empty (present_of s)) here ∙ none in
    sym (ap (λ (b : Bool). removed p.number (if b then q.number ∷ empty_numbers ps else empty_numbers ps)) empty
    ∙ ap (λ (b : Bool). if b then empty_numbers ps else q.number ∷ removed p.number (empty_numbers ps)) (eq-eqb q.number p.number (ap (λ (s : QueueSegment). s.number) here)))
empties_without (q ∷ ps) (suc i) p rise is none =
    let lt : q.number < p.number = all_at (λ (s : QueueSegment). q.number < s.number) ps i p is rise.0 in
    ap (λ (l : List ℕ). if is_empty (present_of q) then q.number ∷ l else l) (empties_without ps i p rise.1 is none)
    ∙ past (is_empty (present_of q)) p.number q.number (empty_numbers ps) lt

alone : (b : Bool) (n : ℕ) → [] ≡ removed n (if b then n ∷ [] else [])
alone true n = sym (ap (λ (b : Bool). if b then [] else n ∷ []) (eq-eqb n n refl))
alone false n = refl

pub empties_front : (ps : List QueueSegment) (p : QueueSegment) → AreBelow p.number ps → empty_numbers ps ≡ removed p.number (empty_numbers (ps ++ p ∷ []))
empties_front [] p below = alone (is_empty (present_of p)) p.number
empties_front (q ∷ ps) p below =
    ap (λ (l : List ℕ). if is_empty (present_of q) then q.number ∷ l else l) (empties_front ps p below.1)
    ∙ past (is_empty (present_of q)) p.number q.number (empty_numbers (ps ++ p ∷ [])) below.0

-- ---- one by one

all_take : {A : Type 0} (P : A → Type 0) (xs : List A) (i : ℕ) → AllByRecursion P xs → AllByRecursion P (take i xs)
all_take P [] zero all = tt
all_take P [] (suc i) all = tt
all_take P (x ∷ xs) zero all = tt
all_take P (x ∷ xs) (suc i) all = (all.0, all_take P xs i all.1)

pub rise_take : (ps : List QueueSegment) (i : ℕ) → Rise ps → Rise (take i ps)
rise_take [] zero rise = tt
rise_take [] (suc i) rise = tt
rise_take (p ∷ ps) zero rise = tt
rise_take (p ∷ ps) (suc i) rise = (all_take (λ (r : QueueSegment). p.number < r.number) ps i rise.0, rise_take ps i rise.1)

below_taken : (ps : List QueueSegment) (i : ℕ) (x : QueueSegment) → Rise ps → slice_get ps i ≡ Some x → AreBelow x.number (take i ps)
below_taken [] i x rise is = absurd (none_some x is)
below_taken (p ∷ ps) zero x rise is = tt
below_taken (p ∷ ps) (suc i) x rise is = (all_at (λ (r : QueueSegment). p.number < r.number) ps i x is rise.0, below_taken ps i x rise.1 is)

take_next : (ps : List QueueSegment) (i : ℕ) (x : QueueSegment) → slice_get ps i ≡ Some x → take i ps ++ x ∷ [] ≡ take (suc i) ps
take_next [] i x is = absurd (none_some x is)
take_next (p ∷ ps) zero x is = ap (λ (r : QueueSegment). r ∷ []) (sym (some_same p x is))
take_next (p ∷ ps) (suc i) x is = ap (λ (l : List QueueSegment). p ∷ l) (take_next ps i x is)

pub empties_next : (ps : List QueueSegment) (i : ℕ) (x : QueueSegment) → Rise ps → slice_get ps i ≡ Some x → put_empty x (empty_numbers (take i ps)) ≡ empty_numbers (take (i + 1) ps)
empties_next ps i x rise is =
    let e : suc i ≡ i + 1 = omega arith in
    sym (empties_push (take i ps) x (below_taken ps i x rise is)) ∙ ap empty_numbers (take_next ps i x is) ∙ ap (λ (n : ℕ). empty_numbers (take n ps)) e

pub few_taken : (ps : List QueueSegment) (i : ℕ) → i < length ps → length (empty_numbers (take i ps)) < length ps
few_taken ps i lt = let few = empties_few (take i ps) in let long = length-take i ps in omega (arith, few, long, lt)

pub taken_all : {A : Type 0} (xs : List A) (k : ℕ) → length xs ≤ k → take k xs ≡ xs
taken_all [] zero le = refl
taken_all [] (suc k) le = refl
taken_all (x ∷ xs) zero le = absurd (omega (arith, le))
taken_all (x ∷ xs) (suc k) le = ap (λ l. x ∷ l) (taken_all xs k (omega (arith, le)))

-- ---- the lowest

pub none_long : (xs : List ℕ) → length xs ≤ 0 → xs ≡ []
none_long [] le = refl
none_long (x ∷ xs) le = absurd (omega (arith, le))

pub none_over : (most : ℕ) (ps : List QueueSegment) → empty_numbers ps ≡ [] → None ≡ first_over most ps
none_over most [] none = refl
none_over most (p ∷ ps) none = ⊎_elim
    (λ (empty : is_empty (present_of p) ≡ true). absurd (some_none p.number (empty_numbers ps) (sym (ap (λ (b : Bool). if b then p.number ∷ empty_numbers ps else empty_numbers ps) empty) ∙ none)))
    (λ (full : is_empty (present_of p) ≡ false).
    ap (option_map suc) (none_over most ps (sym (ap (λ (b : Bool). if b then p.number ∷ empty_numbers ps else empty_numbers ps) full) ∙ none))
    ∙ sym (ap (λ (b : Bool). if b && (is_there ps || not (nat_lt (count_of p) most)) then Some 0 else option_map suc (first_over most ps)) full))
    (cases_Bool (is_empty (present_of p)))
  where
    some_none : (x : ℕ) (xs : List ℕ) → x ∷ xs ≡ [] → ⊥
    some_none x xs e = cc

-- an empty one that has a later one is over
at_first : (most : ℕ) (ps : List QueueSegment) (s : QueueSegment) → is_empty (present_of s) ≡ true
    → (if is_over (is_there ps) most s then Some 0 else option_map suc (first_over most ps)) ≡ (if is_over (is_there ps) most s then Some 0 else None)
at_first most [] s empty = refl
at_first most (p ∷ ps) s empty =
    let over : is_over true most s ≡ true = ap (λ (b : Bool). b && (true || not (nat_lt (count_of s) most))) empty in
    ap (λ (b : Bool). if b then Some 0 else option_map suc (first_over most (p ∷ ps))) over ∙ sym (ap (λ (b : Bool). if b then Some 0 else None) over)

map_if : (b : Bool) (j : ℕ) → option_map suc (if b then Some j else None) ≡ (if b then Some (suc j) else None)
map_if true j = refl
map_if false j = refl

head_is : (p : QueueSegment) (ps : List QueueSegment) (n : ℕ) → is_empty (present_of p) ≡ true → slice_get (empty_numbers (p ∷ ps)) 0 ≡ Some n → p.number ≡ n
head_is p ps n empty first = some_same p.number n (sym (ap (λ (b : Bool). slice_get (if b then p.number ∷ empty_numbers ps else empty_numbers ps) 0) empty) ∙ first)

head_rest : (p : QueueSegment) (ps : List QueueSegment) (n : ℕ) → is_empty (present_of p) ≡ false → slice_get (empty_numbers (p ∷ ps)) 0 ≡ Some n → slice_get (empty_numbers ps) 0 ≡ Some n
head_rest p ps n full first = sym (ap (λ (b : Bool). slice_get (if b then p.number ∷ empty_numbers ps else empty_numbers ps) 0) full) ∙ first

pub lowest_over : (most : ℕ) (ps : List QueueSegment) (n i : ℕ) (x : QueueSegment) → Rise ps → slice_get (empty_numbers ps) 0 ≡ Some n → slice_get ps i ≡ Some x → x.number ≡ n
    → first_over most ps ≡ (if is_over (nat_lt (i + 1) (length ps)) most x then Some i else None)
lowest_over most [] n i x rise first is same = absurd (none_some x is)
lowest_over most (p ∷ ps) n zero x rise first is same = ⊎_elim
    (λ (empty : is_empty (present_of p) ≡ true).
    at_first most ps p empty
    ∙ ap (λ (b : Bool). if is_over b most p then Some 0 else None) (sym (more ps))
    ∙ ap (λ (r : QueueSegment). if is_over (nat_lt 1 (suc (length ps))) most r then Some 0 else None) (some_same p x is))
    (λ (full : is_empty (present_of p) ≡ false).
    let lt : p.number < n = all_at (λ (k : ℕ). p.number < k) (empty_numbers ps) 0 n (head_rest p ps n full first) (empties_above p.number ps rise.0) in
    let here : p.number ≡ x.number = ap (λ (r : QueueSegment). r.number) (some_same p x is) in
    absurd (omega (arith, lt, here, same)))
    (cases_Bool (is_empty (present_of p)))
lowest_over most (p ∷ ps) n (suc i) x rise first is same = ⊎_elim
    (λ (empty : is_empty (present_of p) ≡ true).
    let lt : p.number < x.number = all_at (λ (r : QueueSegment). p.number < r.number) ps i x is rise.0 in
    let here : p.number ≡ n = head_is p ps n empty first in
    absurd (omega (arith, lt, here, same)))
    (λ (full : is_empty (present_of p) ≡ false).
    ap (λ (b : Bool). if b && (is_there ps || not (nat_lt (count_of p) most)) then Some 0 else option_map suc (first_over most ps)) full
    ∙ ap (option_map suc) (lowest_over most ps n i x rise.1 (head_rest p ps n full first) is same)
    ∙ map_if (is_over (nat_lt (i + 1) (length ps)) most x) i
    ∙ ap (λ (b : Bool). if is_over b most x then Some (suc i) else None) (sym (next_test i (length ps))))
    (cases_Bool (is_empty (present_of p)))

lowest_below : (ps : List QueueSegment) (n : ℕ) → slice_get (empty_numbers ps) 0 ≡ Some n → position_or_len (λ (s : QueueSegment). s.number == n) ps < length ps
lowest_below [] n first = absurd (none_some n first)
lowest_below (p ∷ ps) n first = (elim (p.number == n) as (λ (b : Bool). (p.number == n) ≡ b → cond (not b) (1 + position_or_len (λ (s : QueueSegment). s.number == n) ps) 0 < suc (length ps)) [
  | true ↦ λ own. omega arith
  | false ↦ λ other. ⊎_elim
      (λ (empty : is_empty (present_of p) ≡ true). absurd (false≢true (sym other ∙ eq-eqb p.number n (head_is p ps n empty first))))
      (λ (full : is_empty (present_of p) ≡ false). (let lt = lowest_below ps n (head_rest p ps n full first) in omega (arith, lt)))
      (cases_Bool (is_empty (present_of p)))
]) refl

-- the segment of the lowest one is found
pub lowest_found : (ps : List QueueSegment) (n : ℕ) → slice_get (empty_numbers ps) 0 ≡ Some n → place_in n ps ≡ None → ⊥
lowest_found ps n first none = has_place ps n (lowest_below ps n first) none
