-- The segment that the next entries join, and the queue's segments before and after.
use Prim.Native.Nat.{zero, suc}
use Rattle.std.proofs.Common.{◌≡◌, ◌⊎◌, inl, inr, ⊎_elim, ℕ, ◌+◌, ◌-◌, ◌<◌, ◌≤◌, Bool, List, [], ◌∷◌, ◌++◌, length, Contains, Option, Some, None, refl, sym, ap, ◌∙◌, subst, arith, append_assoc}
use Rattle.std.specs.Prelude.{nat_lt, if◌then◌else◌, slice_get}
use Rattle.std.specs.List.{AllByRecursion, slice_index_or}
use Rattle.std.specs.List.Sorted.{IsStrictlyIncreasing}
use Rattle.std.proofs.lemmas.Bool.{cases_lt}
use Rattle.std.proofs.lemmas.List.Kept.{AllPairs-from_increasing}
use Rattle.cq_gate.specs.declared.gate.Gate.{Gate}
use Rattle.cq_gate.specs.Opened.{gate_end}
use Rattle.cq_small.specs.declared.store.SmallStore.{SmallStore}
use Rattle.cq_small.specs.Store.{end_of as store_end}
use Rattle.cq_queue.specs.declared.segment.QueueSegment.{QueueSegment}
use Rattle.cq_queue.specs.QueueSegment.{IsMore, IsNew, count_of, end_of, present_of}
use Rattle.cq_queue.specs.Lists.{AreSame, IsPicked}
use Rattle.cq_queue.specs.Lists.IsPicked.{Last, Next, First}
use Rattle.cq_folder.specs.Queue.{listed_in}
use Rattle.cq_queue.specs.Tied.{Pick, first_pick, pick_of, listed}
use Rattle.cq_queue.specs.QueueCalls.{joining}
use Rattle.cq_queue.proofs.Changes.{all_append, some_same}
use Rattle.cq_queue.proofs.Planned.{lt_true, lt_false}

none_some : {A : Type 0} (a : A) → None ≡ Some a → ⊥
none_some a e = cc

-- ---- the pick

pub pick_last : (most : ℕ) (front : List QueueSegment) (s : QueueSegment) → pick_of most (front ++ s ∷ []) ≡ pick_of most (s ∷ [])
pick_last most [] s = refl
pick_last most (r ∷ []) s = refl
pick_last most (r ∷ t ∷ front) s = pick_last most (t ∷ front) s

pub joining_last : (most : ℕ) (front : List QueueSegment) (s : QueueSegment) → joining most (front ++ s ∷ []) ≡ joining most (s ∷ [])
joining_last most [] s = refl
joining_last most (r ∷ []) s = refl
joining_last most (r ∷ t ∷ front) s = joining_last most (t ∷ front) s

abbrev pub pick_at : Bool → QueueSegment → Pick
pick_at room s = if room then record { number = s.number; count = count_of s; base = end_of s } else first_pick (s.number + 1)

abbrev pub as_pick : QueueSegment → Pick
as_pick s = record { number = s.number; count = count_of s; base = end_of s }

new_pick : (queue number : ℕ) (s : QueueSegment) → IsNew queue number s → first_pick number ≡ as_pick s
new_pick queue number s new = λ j. record { number = sym new.number j; count = sym new.count j; base = sym (ap (λ (g : Option Gate). gate_end g) new.vacant.small) j }

pub picked_is : (queue most : ℕ) (old new : List QueueSegment) (s : QueueSegment) → IsPicked queue most old new s → pick_of most old ≡ as_pick s
picked_is queue most old new s (Last last is same less) =
    ap (pick_of most) is ∙ pick_last most new last ∙ ap (λ (b : Bool). pick_at b last) (lt_true (count_of last) most less)
    ∙ (λ j. record { number = sym same.number.number j; count = sym same.index.count j; base = sym (ap (λ (k : SmallStore). store_end k) same.small) j })
picked_is queue most old new s (Next front last is full same fresh) =
    ap (pick_of most) is ∙ pick_last most front last ∙ ap (λ (b : Bool). pick_at b last) (lt_false (count_of last) most full) ∙ new_pick queue (last.number + 1) s fresh
picked_is queue most old new s (First is none fresh) = ap (pick_of most) is ∙ new_pick queue 0 s fresh

-- the last segment tells it
pub got_last : (most : ℕ) (list : List QueueSegment) (r : QueueSegment) → slice_get list (length list - 1) ≡ Some r → pick_of most list ≡ pick_at (nat_lt (count_of r) most) r
got_last most [] r is = absurd (none_some r is)
got_last most (s ∷ []) r is = let zero_is : length (s ∷ []) - 1 ≡ 0 = omega arith in
    ap (λ (x : QueueSegment). pick_at (nat_lt (count_of x) most) x) (some_same s r (sym (ap (slice_get (s ∷ [])) zero_is) ∙ is))
got_last most (s ∷ t ∷ list) r is =
    let here : length (s ∷ t ∷ list) - 1 ≡ suc (length list) = omega arith in
    let there : length list ≡ length (t ∷ list) - 1 = omega arith in
    got_last most (t ∷ list) r (sym (ap (slice_get (t ∷ list)) there) ∙ sym (ap (slice_get (s ∷ t ∷ list)) here) ∙ is)

-- ---- what is listed

abbrev pub upto : ℕ → ℕ → List ℕ
upto k zero = []
upto k (suc n) = k ∷ upto (k + 1) n

pub listed_append : (a b : List QueueSegment) → listed (a ++ b) ≡ listed a ++ listed b
listed_append [] b = refl
listed_append (s ∷ a) b = ap (λ l. listed_in s.number (present_of s) ++ l) (listed_append a b) ∙ sym (append_assoc (listed_in s.number (present_of s)) (listed a) (listed b))

pub listed_in-append : (n : ℕ) (a b : List ℕ) → listed_in n (a ++ b) ≡ listed_in n a ++ listed_in n b
listed_in-append n [] b = refl
listed_in-append n (k ∷ a) b = ap (λ l. (n, k) ∷ l) (listed_in-append n a b)

pub listed_same : (a b : List QueueSegment) → AreSame a b → listed b ≡ listed a
listed_same [] [] same = refl
listed_same [] (s ∷ b) same = absurd same
listed_same (s ∷ a) [] same = absurd same
listed_same (s ∷ a) (r ∷ b) same =
    ap (λ (n : ℕ). listed_in n (present_of r) ++ listed b) same.0.number.number
    ∙ ap (λ (ks : List ℕ). listed_in s.number ks ++ listed b) same.0.index.present
    ∙ ap (λ l. listed_in s.number (present_of s) ++ l) (listed_same a b same.1)

pub right_nil : {A : Type 0} (xs : List A) → xs ++ [] ≡ xs
right_nil [] = refl
right_nil (x ∷ xs) = ap (λ ys. x ∷ ys) (right_nil xs)

-- what was listed is listed before the segment, and in it
pub picked_listed : (queue most : ℕ) (old new : List QueueSegment) (s : QueueSegment) → IsPicked queue most old new s → listed old ≡ listed new ++ listed_in s.number (present_of s)
picked_listed queue most old new s (Last last is same less) =
    ap listed is ∙ listed_append new (last ∷ [])
    ∙ ap (λ l. listed new ++ l) (right_nil (listed_in last.number (present_of last)))
    ∙ ap (λ (n : ℕ). listed new ++ listed_in n (present_of last)) (sym same.number.number)
    ∙ ap (λ (ks : List ℕ). listed new ++ listed_in s.number ks) (sym same.index.present)
picked_listed queue most old new s (Next front last is full same fresh) =
    sym (listed_same old new same) ∙ sym (right_nil (listed new)) ∙ ap (λ (ks : List ℕ). listed new ++ listed_in s.number ks) (sym fresh.present)
picked_listed queue most old new s (First is none fresh) = ap listed is ∙ sym (ap (λ (l : List QueueSegment). listed l ++ listed_in s.number (present_of s)) none ∙ ap (λ (ks : List ℕ). listed_in s.number ks) fresh.present)

-- ---- the numbers from a count on

abbrev pub Climbs : List ℕ → Type 0
Climbs [] = Unit {0}
Climbs (x ∷ xs) = AllByRecursion (λ (y : ℕ). x < y) xs × Climbs xs

abbrev Has : List ℕ → ℕ → Type 0
Has [] k = ⊥
Has (x ∷ xs) k = (x ≡ k) ⊎ Has xs k

above : (x : ℕ) (xs : List ℕ) → ((j : ℕ) → j < length xs → x < slice_index_or xs j 0) → AllByRecursion (λ (y : ℕ). x < y) xs
above x [] at = tt
above x (y ∷ ys) at = (at 0 (omega arith), above x ys (λ j lt. at (suc j) (omega (arith, lt))))

climbs : (xs : List ℕ) → ((i j : ℕ) → i < j → j < length xs → slice_index_or xs i 0 < slice_index_or xs j 0) → Climbs xs
climbs [] pairs = tt
climbs (x ∷ xs) pairs = (above x xs (λ j lt. pairs 0 (suc j) (omega arith) (omega (arith, lt))), climbs xs (λ i j less lt. pairs (suc i) (suc j) (omega (arith, less)) (omega (arith, lt))))

pub rising_climbs : (xs : List ℕ) → IsStrictlyIncreasing xs → Climbs xs
rising_climbs xs rising = climbs xs (λ i j. AllPairs-from_increasing xs rising i j 0)

has_of : (xs : List ℕ) (k i : ℕ) → i < length xs → slice_index_or xs i k ≡ k → Has xs k
has_of [] k i lt is = absurd (omega (arith, lt))
has_of (x ∷ xs) k zero lt is = inl is
has_of (x ∷ xs) k (suc i) lt is = inr (has_of xs k i (omega (arith, lt)) is)

pub has : (xs : List ℕ) (k : ℕ) → Contains xs k → Has xs k
has xs k at = has_of xs k at.0 at.1 at.2

pub there : (xs : List ℕ) (k : ℕ) → Has xs k → Contains xs k
there [] k at = absurd at
there (x ∷ xs) k at = ⊎_elim (λ (is : x ≡ k). (0, omega arith, is)) (λ later. let r = there xs k later in let lt = r.1 in (suc r.0, omega (arith, lt), r.2)) at

beyond : (x : ℕ) (xs : List ℕ) (k : ℕ) → AllByRecursion (λ (y : ℕ). x < y) xs → Has xs k → x < k
beyond x [] k all at = absurd at
beyond x (y ∷ ys) k all at = ⊎_elim (λ (is : y ≡ k). subst (λ (n : ℕ). x < n) is all.0) (λ later. beyond x ys k all.1 later) at

same_climbs : (a b : List ℕ) → Climbs a → Climbs b → ((k : ℕ) → Has a k → Has b k) → ((k : ℕ) → Has b k → Has a k) → a ≡ b
same_climbs [] [] ra rb to from = refl
same_climbs [] (y ∷ b) ra rb to from = absurd (from y (inl refl))
same_climbs (x ∷ a) [] ra rb to from = absurd (to x (inl refl))
same_climbs (x ∷ a) (y ∷ b) ra rb to from =
    let first : x ≡ y = ⊎_elim (λ (is : y ≡ x). sym is) (λ in_b. let over_b = beyond y b x rb.0 in_b in ⊎_elim (λ (is : x ≡ y). is) (λ in_a. let over_a = beyond x a y ra.0 in_a in absurd (omega (arith, over_a, over_b))) (from y (inl refl))) (to x (inl refl)) in
    let rest = same_climbs a b ra.1 rb.1
    (λ k in_a. let over = beyond x a k ra.0 in_a in ⊎_elim (λ (is : y ≡ k). absurd (omega (arith, over, is, first))) (λ later. later) (to k (inr in_a)))
    (λ k in_b. let over = beyond y b k rb.0 in_b in ⊎_elim (λ (is : x ≡ k). absurd (omega (arith, over, is, first))) (λ later. later) (from k (inr in_b))) in
    λ i. first i ∷ rest i

has_upto : (c n k : ℕ) → c ≤ k → k < c + n → Has (upto c n) k
has_upto c zero k low high = absurd (omega (arith, low, high))
has_upto c (suc n) k low high = ⊎_elim
    (λ (less : c < k). inr (has_upto (c + 1) n k (omega (arith, less)) (omega (arith, high))))
    (λ (most : k ≤ c). inl (omega (arith, low, most)))
    (cases_lt c k)

upto_has : (c n k : ℕ) → Has (upto c n) k → (c ≤ k) × (k < c + n)
upto_has c zero k at = absurd at
upto_has c (suc n) k at = ⊎_elim (λ (is : c ≡ k). (omega (arith, is), omega (arith, is))) (λ later. let r = upto_has (c + 1) n k later in let low = r.0 in let high = r.1 in (omega (arith, low), omega (arith, high))) at

all_upto : (x c n : ℕ) → x < c → AllByRecursion (λ (y : ℕ). x < y) (upto c n)
all_upto x c zero less = tt
all_upto x c (suc n) less = (less, all_upto x (c + 1) n (omega (arith, less)))

climbs_upto : (c n : ℕ) → Climbs (upto c n)
climbs_upto c zero = tt
climbs_upto c (suc n) = (all_upto c (c + 1) n (omega arith), climbs_upto (c + 1) n)

climbs_append : (xs : List ℕ) (c n : ℕ) → Climbs xs → AllByRecursion (λ (k : ℕ). k < c) xs → Climbs (xs ++ upto c n)
climbs_append [] c n rise low = climbs_upto c n
climbs_append (x ∷ xs) c n rise low = (all_append (λ (y : ℕ). x < y) xs (upto c n) rise.0 (all_upto x c n low.0), climbs_append xs c n rise.1 low.1)

has_left : (xs ys : List ℕ) (k : ℕ) → Has xs k → Has (xs ++ ys) k
has_left [] ys k at = absurd at
has_left (x ∷ xs) ys k at = ⊎_elim (λ (is : x ≡ k). inl is) (λ later. inr (has_left xs ys k later)) at

has_right : (xs ys : List ℕ) (k : ℕ) → Has ys k → Has (xs ++ ys) k
has_right [] ys k at = at
has_right (x ∷ xs) ys k at = inr (has_right xs ys k at)

has_either : (xs ys : List ℕ) (k : ℕ) → Has (xs ++ ys) k → Has xs k ⊎ Has ys k
has_either [] ys k at = inr at
has_either (x ∷ xs) ys k at = ⊎_elim (λ (is : x ≡ k). inl (inl is)) (λ later. ⊎_elim (λ l. inl (inr l)) (λ r. inr r) (has_either xs ys k later)) at

-- the present entries of a segment that grew
pub present_more : (old new : QueueSegment) (more bytes : ℕ) → Climbs (present_of old) → Climbs (present_of new) → AllByRecursion (λ (k : ℕ). k < count_of old) (present_of old)
    → IsMore old new more bytes → present_of new ≡ present_of old ++ upto (count_of old) more
present_more old new more bytes rise_old rise_new low is =
    same_climbs (present_of new) (present_of old ++ upto (count_of old) more) rise_new (climbs_append (present_of old) (count_of old) more rise_old low)
    (λ k at. ⊎_elim (λ was. has_left (present_of old) (upto (count_of old) more) k (has (present_of old) k was))
    (λ (within : (count_of old ≤ k) × (k < count_of new)). has_right (present_of old) (upto (count_of old) more) k (has_upto (count_of old) more k within.0 (let high = within.1 in let c = is.count in omega (arith, high, c))))
    ((is.present k).0 (there (present_of new) k at)))
    (λ k at. has (present_of new) k ((is.present k).1 (⊎_elim (λ was. inl (there (present_of old) k was)) (λ within. let r = upto_has (count_of old) more k within in inr (r.0, (let high = r.1 in let c = is.count in omega (arith, high, c)))) (has_either (present_of old) (upto (count_of old) more) k at))))
