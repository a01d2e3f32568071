-- What settles next: all that settle in the lowest segment, since the messages stand in the order in which the segments list them.
use Prim.Native.Nat.{zero, suc}
use Rattle.std.proofs.Common.{◌≡◌, ⊎_elim, ℕ, ◌≤◌, ◌<◌, Bool, true, false, not, cond, List, [], ◌∷◌, ◌++◌, length, filter, map, Option, Some, None, refl, sym, ap, ◌∙◌, subst, arith}
use Rattle.std.specs.Prelude.{Contains, is_some, if◌then◌else◌, ◌==◌, ◌&&◌, slice_get}
use Rattle.std.specs.List.{AllByRecursion}
use Rattle.std.specs.List.Sorted.{IsStrictlyIncreasing}
use Rattle.std.proofs.lemmas.Bool.{false≢true, eq-eqb, eqb-true, and_parts, cases_lt}
use Rattle.cq_journal.specs.Lists.{IsIn}
use Rattle.cq_folder.proofs.Sublists.{all_in, in_append}
use Rattle.cq_items.specs.Item.{Item}
use Rattle.cq_items.specs.declared.item.Stand.{Stand}
use Rattle.cq_items.specs.Items.{at_of, is_gone, lowest_segment, others_in, segment_of, settles, settling_in}
use Rattle.cq_queue.specs.declared.segment.QueueSegment.{QueueSegment}
use Rattle.cq_queue.specs.QueueSegment.{present_of}
use Rattle.cq_queue.specs.Lists.{Rise}
use Rattle.cq_folder.specs.Queue.{listed_in}
use Rattle.cq_queue.specs.Tied.{listed, listing_of, standing_at}
use Rattle.cq_queue.proofs.Changes.{some_same, all_at}
use Rattle.cq_queue.proofs.Order.{AreInOrder, IsBefore, numbers_above, rising_more, weaker}

-- whether a message goes, where those go that settle in this segment
abbrev pub goes : ℕ → Item → Bool
goes n i = settles i && segment_of i.stand == n

abbrev pub stay_items : ℕ → List Item → List Item
stay_items n items = filter (λ i. not (goes n i)) items

-- where those that go stand
abbrev pub going : ℕ → List Item → List ℕ
going n items = map (λ i. at_of i.stand) (filter (goes n) items)

none_some : {A : Type 0} (a : A) → None ≡ Some a → ⊥
none_some a e = cc

pub stand_is : (i : Item) → settles i ≡ true → (s : Stand) × (i.stand ≡ Some s)
stand_is i own = of_stand i.stand refl
  where
    of_stand : (o : Option Stand) → i.stand ≡ o → (s : Stand) × (i.stand ≡ Some s)
    of_stand None e = absurd (false≢true (sym (ap (λ (o : Option Stand). is_some o && is_gone i.holder) e) ∙ own))
    of_stand (Some s) e = (s, e)

-- ---- the order of what stands

order_rest : (o : Option Stand) (rest : List (ℕ × ℕ)) → AreInOrder (listing_of o ++ rest) → AreInOrder rest
order_rest None rest order = order
order_rest (Some s) rest order = order.1

before_rest : (o : Option Stand) (s : Stand) (rest : List (ℕ × ℕ)) → o ≡ Some s → AreInOrder (listing_of o ++ rest) → AllByRecursion (IsBefore (s.segment, s.at)) rest
before_rest o s rest e order = (subst (λ (p : Option Stand). AreInOrder (listing_of p ++ rest)) e order).0

all_rest : (P : (ℕ × ℕ) → Type 0) (o : Option Stand) (rest : List (ℕ × ℕ)) → AllByRecursion P (listing_of o ++ rest) → AllByRecursion P rest
all_rest P None rest all = all
all_rest P (Some s) rest all = all.1

-- what holds of where messages stand, of each that settles
each_stands : (P : (ℕ × ℕ) → Type 0) (items : List Item) → AllByRecursion P (standing_at items) → AllByRecursion (λ (i : Item). settles i ≡ true → P (segment_of i.stand, at_of i.stand)) items
each_stands P [] all = tt
each_stands P (i ∷ is) all = (
  (λ own. let s = stand_is i own in subst (λ (o : Option Stand). P (segment_of o, at_of o)) (sym s.1) (subst (λ (o : Option Stand). AllByRecursion P (listing_of o ++ standing_at is)) s.1 all).0),
  each_stands P is (all_rest P i.stand (standing_at is) all),
)

-- none that settles stands below this segment
abbrev AreFrom : ℕ → List Item → Type 0
AreFrom n items = AllByRecursion (λ (i : Item). settles i ≡ true → n ≤ segment_of i.stand) items

lowest_from : (n : ℕ) (items : List Item) → lowest_segment items ≡ Some n → AreInOrder (standing_at items) → AreFrom n items
lowest_from n [] lowest order = absurd (none_some n lowest)
lowest_from n (i ∷ is) lowest order = (elim (settles i) as (λ (b : Bool). settles i ≡ b → (if b then Some (segment_of i.stand) else lowest_segment is) ≡ Some n → AreFrom n (i ∷ is)) [
  | true ↦ λ own here.
      let s = stand_is i own in
      let first : segment_of i.stand ≡ n = some_same (segment_of i.stand) n here in
      let number : s.0.segment ≡ n = ap segment_of (sym s.1) ∙ first in (
        (λ again. omega (arith, first)),
        each_stands (λ (y : ℕ × ℕ). n ≤ y.0) is (weaker (IsBefore (s.0.segment, s.0.at)) (λ (y : ℕ × ℕ). n ≤ y.0) (standing_at is) (λ y before. let le = before.0 in omega (arith, le, number)) (before_rest i.stand s.0 (standing_at is) s.1 order)),
      )
  | false ↦ λ other later. (
    (λ own. absurd (false≢true (sym other ∙ own))),
    lowest_from n is later (order_rest i.stand (standing_at is) order),
  )
]) refl lowest

no_both : (a b : Bool) → (a ≡ true → b ≡ true → ⊥) → (a && b) ≡ false
no_both true true no_way = absurd (no_way refl refl)
no_both true false no_way = refl
no_both false b no_way = refl

none_go : (n : ℕ) (items : List Item) → AllByRecursion (λ (i : Item). settles i ≡ true → n < segment_of i.stand) items → (filter (goes n) items ≡ []) × (stay_items n items ≡ items)
none_go n [] all = (refl, refl)
none_go n (i ∷ is) all =
    let rest = none_go n is all.1 in
    let off : goes n i ≡ false = no_both (settles i) (segment_of i.stand == n) (λ own same. let lt = all.0 own in let e = eqb-true (segment_of i.stand) n same in omega (arith, lt, e)) in (
      ap (λ (b : Bool). cond b (i ∷ filter (goes n) is) (filter (goes n) is)) off ∙ rest.0,
      ap (λ (b : Bool). cond (not b) (i ∷ stay_items n is) (stay_items n is)) off ∙ ap (λ (l : List Item). i ∷ l) rest.1,
    )

-- what a run is of a list with one more, where that one settles or not, and there or not
abbrev IsRun : ℕ → Item → List Item → Bool → Bool → Type 0
IsRun n i is b c = ((if b then (if c then i ∷ settling_in (Some n) is else []) else settling_in (Some n) is) ≡ cond (b && c) (i ∷ filter (goes n) is) (filter (goes n) is))
    × ((if b then (if c then others_in (Some n) is else i ∷ is) else i ∷ others_in (Some n) is) ≡ cond (not (b && c)) (i ∷ stay_items n is) (stay_items n is))

-- the run of those that settle in the lowest segment is all of them
run_is : (n : ℕ) (items : List Item) → AreFrom n items → AreInOrder (standing_at items) → (settling_in (Some n) items ≡ filter (goes n) items) × (others_in (Some n) items ≡ stay_items n items)
run_is n [] from order = (refl, refl)
run_is n (i ∷ is) from order =
    let rest = run_is n is from.1 (order_rest i.stand (standing_at is) order) in
    (elim (settles i) as (λ (b : Bool). settles i ≡ b → IsRun n i is b (segment_of i.stand == n)) [
      | true ↦ λ own. (elim (segment_of i.stand == n) as (λ (c : Bool). (segment_of i.stand == n) ≡ c → IsRun n i is true c) [
        | true ↦ λ same. (ap (λ (l : List Item). i ∷ l) rest.0, rest.1)
        | false ↦ λ other.
            let none = none_go n is (above own other) in
            (sym none.0, ap (λ (l : List Item). i ∷ l) (sym none.1))
      ]) refl
      | false ↦ λ other. (rest.0, ap (λ (l : List Item). i ∷ l) rest.1)
    ]) refl
  where
    above : settles i ≡ true → (segment_of i.stand == n) ≡ false → AllByRecursion (λ (j : Item). settles j ≡ true → n < segment_of j.stand) is
    above own other =
        let s = stand_is i own in
        let low = from.0 own in
        let number : segment_of i.stand ≡ s.0.segment = ap segment_of s.1 in
        let apart : segment_of i.stand ≡ n → ⊥ = λ e. false≢true (sym other ∙ eq-eqb (segment_of i.stand) n e) in
        let over : n < segment_of i.stand = over_of (segment_of i.stand) low apart in
        each_stands (λ (y : ℕ × ℕ). n < y.0) is (weaker (IsBefore (s.0.segment, s.0.at)) (λ (y : ℕ × ℕ). n < y.0) (standing_at is) (λ y before. let le = before.0 in omega (arith, le, number, over)) (before_rest i.stand s.0 (standing_at is) s.1 order))
      where
        over_of : (m : ℕ) → n ≤ m → (m ≡ n → ⊥) → n < m
        over_of m le apart = ⊎_elim (λ (lt : n < m). lt) (λ (ge : m ≤ n). absurd (apart (omega (arith, le, ge)))) (cases_lt n m)

pub settling_is : (n : ℕ) (items : List Item) → lowest_segment items ≡ Some n → AreInOrder (standing_at items) → settling_in (Some n) items ≡ filter (goes n) items
settling_is n items lowest order = (run_is n items (lowest_from n items lowest order) order).0

pub others_is : (n : ℕ) (items : List Item) → lowest_segment items ≡ Some n → AreInOrder (standing_at items) → others_in (Some n) items ≡ stay_items n items
others_is n items lowest order = (run_is n items (lowest_from n items lowest order) order).1

-- ---- the places of those that go

-- they are some,
pub some_go : (n : ℕ) (items : List Item) → lowest_segment items ≡ Some n → 0 < length (going n items)
some_go n [] lowest = absurd (none_some n lowest)
some_go n (i ∷ is) lowest = (elim (settles i) as (λ (b : Bool). settles i ≡ b → (if b then Some (segment_of i.stand) else lowest_segment is) ≡ Some n → 0 < length (map (λ (j : Item). at_of j.stand) (cond (b && segment_of i.stand == n) (i ∷ filter (goes n) is) (filter (goes n) is)))) [
  | true ↦ λ own here. subst (λ (c : Bool). 0 < length (map (λ (j : Item). at_of j.stand) (cond c (i ∷ filter (goes n) is) (filter (goes n) is)))) (sym (eq-eqb (segment_of i.stand) n (some_same (segment_of i.stand) n here))) (omega arith)
  | false ↦ λ other later. some_go n is later
]) refl lowest

-- they rise,
later_above : (n x : ℕ) (items : List Item) → AllByRecursion (λ (y : ℕ × ℕ). y.0 ≡ n → x < y.1) (standing_at items) → AllByRecursion (λ (y : ℕ). x < y) (going n items)
later_above n x items all = each items (each_stands (λ (y : ℕ × ℕ). y.0 ≡ n → x < y.1) items all)
  where
    each : (js : List Item) → AllByRecursion (λ (i : Item). settles i ≡ true → segment_of i.stand ≡ n → x < at_of i.stand) js → AllByRecursion (λ (y : ℕ). x < y) (going n js)
    each [] above = tt
    each (i ∷ is) above = (elim (goes n i) as (λ (b : Bool). goes n i ≡ b → AllByRecursion (λ (y : ℕ). x < y) (map (λ (j : Item). at_of j.stand) (cond b (i ∷ filter (goes n) is) (filter (goes n) is)))) [
      | true ↦ λ own. let parts = and_parts (settles i) (segment_of i.stand == n) own in (above.0 parts.0 (eqb-true (segment_of i.stand) n parts.1), each is above.1)
      | false ↦ λ other. each is above.1
    ]) refl

pub going_rise : (n : ℕ) (items : List Item) → AreInOrder (standing_at items) → IsStrictlyIncreasing (going n items)
going_rise n [] order = λ k lt. absurd (omega (arith, lt))
going_rise n (i ∷ is) order = (elim (goes n i) as (λ (b : Bool). goes n i ≡ b → IsStrictlyIncreasing (map (λ (j : Item). at_of j.stand) (cond b (i ∷ filter (goes n) is) (filter (goes n) is)))) [
  | true ↦ λ own.
      let parts = and_parts (settles i) (segment_of i.stand == n) own in
      let s = stand_is i parts.0 in
      let number : s.0.segment ≡ n = ap segment_of (sym s.1) ∙ eqb-true (segment_of i.stand) n parts.1 in
      let place : s.0.at ≡ at_of i.stand = ap at_of (sym s.1) in
      rising_more (at_of i.stand) (going n is)
      (later_above n (at_of i.stand) is (weaker (IsBefore (s.0.segment, s.0.at)) (λ (y : ℕ × ℕ). y.0 ≡ n → at_of i.stand < y.1) (standing_at is) (λ y before same. let lt = before.1 (number ∙ sym same) in omega (arith, lt, place)) (before_rest i.stand s.0 (standing_at is) s.1 order)))
      (going_rise n is (order_rest i.stand (standing_at is) order))
  | false ↦ λ other. going_rise n is (order_rest i.stand (standing_at is) order)
]) refl

-- and each is one of a present entry of their segment.
pub in_listed : (m : ℕ) (ks : List ℕ) (n k : ℕ) → IsIn (listed_in m ks) (n, k) → (m ≡ n) × Contains ks k
in_listed m [] n k there = absurd there
in_listed m (j ∷ ks) n k there = ⊎_elim
    (λ (here : (m, j) ≡ (n, k)). (ap (λ (y : ℕ × ℕ). y.0) here, (0, omega arith, ap (λ (y : ℕ × ℕ). y.1) here)))
    (λ later. let r = in_listed m ks n k later in let lt = r.1.1 in (r.0, (suc r.1.0, omega (arith, lt), r.1.2))) there

pub is_present : (ps : List QueueSegment) (i : ℕ) (p : QueueSegment) (n k : ℕ) → slice_get ps i ≡ Some p → p.number ≡ n → Rise ps → IsIn (listed ps) (n, k) → Contains (present_of p) k
is_present [] i p n k is num rise there = absurd there
is_present (q ∷ ps) zero p n k is num rise there =
    let e : q ≡ p = some_same q p is in
    let number : q.number ≡ n = ap (λ (r : QueueSegment). r.number) e ∙ num in
    ⊎_elim
    (λ own. subst (λ (r : QueueSegment). Contains (present_of r) k) e (in_listed q.number (present_of q) n k own).1)
    (λ later. let lt : q.number < n = all_in (λ (y : ℕ × ℕ). q.number < y.0) (listed ps) (n, k) (numbers_above q.number ps rise.0) later in absurd (omega (arith, lt, number)))
    (in_append (listed_in q.number (present_of q)) (listed ps) (n, k) there)
is_present (q ∷ ps) (suc i) p n k is num rise there =
    let lt : q.number < p.number = all_at (λ (s : QueueSegment). q.number < s.number) ps i p is rise.0 in
    ⊎_elim
    (λ own. let number : q.number ≡ n = (in_listed q.number (present_of q) n k own).0 in absurd (omega (arith, lt, number, num)))
    (λ later. is_present ps i p n k is num rise.1 later)
    (in_append (listed_in q.number (present_of q)) (listed ps) (n, k) there)

-- a segment that lists something is there
pub has_segment : (ps : List QueueSegment) (n k : ℕ) → IsIn (listed ps) (n, k) → (i : ℕ) × ((p : QueueSegment) × ((slice_get ps i ≡ Some p) × (p.number ≡ n)))
has_segment [] n k there = absurd there
has_segment (q ∷ ps) n k there = ⊎_elim
    (λ own. (0, (q, (refl, (in_listed q.number (present_of q) n k own).0))))
    (λ later. let r = has_segment ps n k later in (suc r.0, (r.1.0, r.1.1)))
    (in_append (listed_in q.number (present_of q)) (listed ps) (n, k) there)
