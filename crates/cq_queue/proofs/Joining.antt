-- The segments of a queue that are joined with the small stores of their numbers, from the last one on.
use Rattle.std.proofs.Common.{◌≡◌, ◌≢◌, ◌∙◌, ◌⊎◌, ℕ, zero, suc, ◌+◌, ◌<◌, Bool, true, false, cond, List, [], ◌∷◌, ◌++◌, length, map, Option, Some, None, refl, sym, ap, subst, arith, inl, inr}
use Rattle.std.specs.Prelude.{IsSome, is_some, slice_get, ◌==◌, ◌||◌}
use Rattle.std.specs.List.{AllByRecursion}
use Rattle.std.proofs.lemmas.Bool.{cases_Bool, cond-false, cond-true, eq-eqb, eqb-true, false≢true, or_cases, or_left, or_right}
use Rattle.std.proofs.lemmas.List.{append-nil, map-append}
use Rattle.std.proofs.lemmas.Option.{none-some, same_Some}
use Rattle.cq_disk.specs.declared.name.Name.{Name}
use Rattle.cq_disk.specs.File.{File}
use Rattle.cq_entry.specs.declared.entry.Entry.{Entry as IndexEntry}
use Rattle.cq_gate.specs.declared.gate.Gate.{Gate}
use Rattle.cq_gate.specs.Opened.{gate_len}
use Rattle.cq_small.specs.declared.store.SmallStore.{SmallStore}
use Rattle.cq_small.specs.Store as small
use Rattle.cq_index.specs.declared.segment.Segment.{Segment}
use Rattle.cq_index.specs.Opened.{IsBroken}
use Rattle.cq_index.specs.Places.{index_name}
use Rattle.cq_index.specs.Segments as index
use Rattle.cq_folder.specs.Held.{IsSettled}
use Rattle.cq_folder.specs.Queue.{IsIndexAt, IsSmallAt, RiseAs, has_number, indexes_of, stores_of}
use Rattle.cq_queue.specs.declared.segment.QueueSegment.{QueueSegment}
use Rattle.cq_queue.specs.declared.error.QueueError.{QueueError}
use Rattle.cq_queue.specs.declared.error.QueueError.TheVariants.{Fault, Memory, Damaged}
use Rattle.cq_queue.specs.QueueSegment.{IsOpen, KnowsFiles, small_file, small_len}
use Rattle.cq_queue.specs.Lists.{AreAt, AreSegments, Rise, has_number as has_segment}
use Rattle.cq_queue.specs.Opening.{AreFiles, AreJoined, AreOnDisk, CanBeFound, CantFindAny, HasRecords, HaveRecords, IfDamaged, IsOutside, IsUnreadable, TakesStore, len_in, made_of}
use Rattle.cq_queue.specs.Opening.TakesStore.{Last, Other, Empty}
use Rattle.cq_queue.proofs.Changes.{all_at, all_back, all_front}

-- ---- names that rise

rise_front : (name_at : ℕ → Name) (ns : List Name) (n : Name) → RiseAs name_at (ns ++ n ∷ []) → RiseAs name_at ns × AllByRecursion (λ m. m.number < n.number) ns
rise_front name_at [] n rise = (tt, tt)
rise_front name_at (m ∷ ns) n rise =
    let rest = rise_front name_at ns n rise.2 in
    ((rise.0, all_front (λ (k : Name). m.number < k.number) ns (n ∷ []) rise.1, rest.0), ((all_back (λ (k : Name). m.number < k.number) ns (n ∷ []) rise.1).0, rest.1))

has_front : (ns : List Name) (n : Name) (k : ℕ) → k ≢ n.number → has_number (ns ++ n ∷ []) k ≡ true → has_number ns k ≡ true
has_front [] n k other has = elim (or_cases _ _ has) [
  | inl same ↦ absurd (other (sym (eqb-true n.number k same)))
  | inr none ↦ none
]
has_front (m ∷ ns) n k other has = elim (or_cases _ _ has) [
  | inl same ↦ or_left (m.number == k) (has_number ns k) same
  | inr rest ↦ or_right (m.number == k) (has_number ns k) (has_front ns n k other rest)
]

has_below : (ns : List Name) (k n : ℕ) → AllByRecursion (λ (m : Name). m.number < n) ns → has_number ns k ≡ true → k < n
has_below [] k n below has = absurd (false≢true has)
has_below (m ∷ ns) k n below has = elim (or_cases _ _ has) [
  | inl same ↦ (let e = eqb-true m.number k same in let lt = below.0 in omega (arith, e, lt))
  | inr rest ↦ has_below ns k n below.1 rest
]

all_has : (ns ts : List Name) (n : Name) → AllByRecursion (λ (t : Name). t.number ≢ n.number) ts → AllByRecursion (λ (t : Name). has_number (ns ++ n ∷ []) t.number ≡ true) ts → AllByRecursion (λ (t : Name). has_number ns t.number ≡ true) ts
all_has ns [] n other has = tt
all_has ns (t ∷ ts) n other has = (has_front ns n t.number other.0 has.0, all_has ns ts n other.1 has.1)

apart_below : (ts : List Name) (k n : ℕ) → k < n → AllByRecursion (λ (t : Name). t.number < k) ts → AllByRecursion (λ (t : Name). t.number ≢ n) ts
apart_below [] k n lt below = tt
apart_below (t ∷ ts) k n lt below = ((λ same. let b = below.0 in absurd (omega (arith, lt, same, b))), apart_below ts k n lt below.1)

apart_from : (ts : List Name) (n : ℕ) → AllByRecursion (λ (t : Name). t.number < n) ts → AllByRecursion (λ (t : Name). t.number ≢ n) ts
apart_from [] n below = tt
apart_from (t ∷ ts) n below = ((λ same. let b = below.0 in absurd (omega (arith, same, b))), apart_from ts n below.1)

-- two rising lists of names, each number of the second being one of the first
pub record AreMatched (queue : ℕ) (indexes smalls : List Name) : Type 0 where
  pub rise : RiseAs (index_name queue) indexes
  pub small_rise : RiseAs (small.small_name queue) smalls
  pub matched : AllByRecursion (λ n. has_number indexes n.number ≡ true) smalls

-- the last of both go, of the same number
with_both : (queue : ℕ) (ns ts : List Name) (n t : Name) → t.number ≡ n.number → AreMatched queue (ns ++ n ∷ []) (ts ++ t ∷ []) → AreMatched queue ns ts
with_both queue ns ts n t same m =
    let below = rise_front (small.small_name queue) ts t m.small_rise in
    let fronts = all_front (λ (k : Name). has_number (ns ++ n ∷ []) k.number ≡ true) ts (t ∷ []) m.matched in
    record {
      rise = (rise_front (index_name queue) ns n m.rise).0;
      small_rise = below.0;
      matched = all_has ns ts n (apart_from ts n.number (subst (λ (k : ℕ). AllByRecursion (λ (x : Name). x.number < k) ts) same below.1)) fronts;
    }

-- the last index goes, whose number the last small store hasn't
with_index : (queue : ℕ) (ns ts : List Name) (n t : Name) → t.number ≢ n.number → AreMatched queue (ns ++ n ∷ []) (ts ++ t ∷ []) → AreMatched queue ns (ts ++ t ∷ [])
with_index queue ns ts n t other m =
    let rest = rise_front (index_name queue) ns n m.rise in
    let last = (all_back (λ (k : Name). has_number (ns ++ n ∷ []) k.number ≡ true) ts (t ∷ []) m.matched).0 in
    let lower = has_below ns t.number n.number rest.1 (has_front ns n t.number other last) in
    record {
      rise = rest.0;
      small_rise = m.small_rise;
      matched = all_has ns (ts ++ t ∷ []) n (both lower (rise_front (small.small_name queue) ts t m.small_rise).1) m.matched;
    }
  where
    push : (xs : List Name) → AllByRecursion (λ (x : Name). x.number ≢ n.number) xs → AllByRecursion (λ (x : Name). x.number ≢ n.number) (xs ++ t ∷ [])
    push [] a = (other, tt)
    push (x ∷ xs) a = (a.0, push xs a.1)

    both : t.number < n.number → AllByRecursion (λ (x : Name). x.number < t.number) ts → AllByRecursion (λ (x : Name). x.number ≢ n.number) (ts ++ t ∷ [])
    both lower below = push ts (apart_below ts t.number n.number lower below)

-- ---- one more segment is joined

push_assoc : {A : Type 0} (xs : List A) (x : A) (ys : List A) → (xs ++ x ∷ []) ++ ys ≡ xs ++ x ∷ ys
push_assoc [] x ys = refl
push_assoc (y ∷ xs) x ys = ap (λ zs. y ∷ zs) (push_assoc xs x ys)

-- what is left of both lists, and what was joined behind it
pub record JoinsTo (queue : ℕ) (all_segments : List Segment) (all_stores : List SmallStore) (segments : List Segment) (stores : List SmallStore) (list : List QueueSegment) : Type 0 where
  pub files : AreMatched queue (indexes_of segments) (stores_of stores)
  pub opens : AllByRecursion small.IsOpen stores
  pub indexes : segments ++ map (λ s. s.index) list ≡ all_segments
  pub smalls : stores ++ made_of list ≡ all_stores

pub join_first : (queue : ℕ) (segments : List Segment) (stores : List SmallStore) → AreFiles queue segments stores → JoinsTo queue segments stores segments stores []
join_first queue segments stores f = record {
  files = record { rise = f.indexes.rise; small_rise = f.smalls.rise; matched = f.smalls.matched };
  opens = f.smalls.are_open;
  indexes = append-nil segments;
  smalls = append-nil stores;
}

-- the last store's name is that of its number
pub last_named : (queue : ℕ) (stores : List SmallStore) (t : SmallStore) → RiseAs (small.small_name queue) (stores_of (stores ++ t ∷ [])) → small.name_of t ≡ small.small_name queue (small.name_of t).number
last_named queue [] t rise = rise.0
last_named queue (s ∷ stores) t rise = last_named queue stores t rise.2

pub last_index_named : (queue : ℕ) (segments : List Segment) (s : Segment) → RiseAs (index_name queue) (indexes_of (segments ++ s ∷ [])) → index.name_of s ≡ index_name queue (index.name_of s).number
last_index_named queue [] s rise = rise.0
last_index_named queue (r ∷ segments) s rise = last_index_named queue segments s rise.2

module _ (queue : ℕ) (all_segments : List Segment) (all_stores : List SmallStore) (segments : List Segment) (x : Segment) (old new : List SmallStore) (list : List QueueSegment) (q : QueueSegment)
    (j : JoinsTo queue all_segments all_stores (segments ++ x ∷ []) old list) (is : q.index ≡ x) where
  named : indexes_of (segments ++ x ∷ []) ≡ indexes_of segments ++ index.name_of x ∷ []
  named = map-append index.name_of segments (x ∷ [])

  stores_named : (ts : List SmallStore) (t : SmallStore) → stores_of (ts ++ t ∷ []) ≡ stores_of ts ++ small.name_of t ∷ []
  stores_named ts t = map-append small.name_of ts (t ∷ [])

  indexes_next : segments ++ map (λ (s : QueueSegment). s.index) (q ∷ list) ≡ all_segments
  indexes_next = ap (λ (y : Segment). segments ++ y ∷ map (λ (s : QueueSegment). s.index) list) is
      ∙ sym (push_assoc segments x (map (λ (s : QueueSegment). s.index) list)) ∙ j.indexes

  vacant_smalls : small.IsVacant q.small → made_of (q ∷ list) ≡ made_of list
  vacant_smalls none = ap (λ (o : Option Gate). cond (is_some o) (q.small ∷ made_of list) (made_of list)) none

  both_files : old ≡ new ++ q.small ∷ [] → (small.name_of q.small).number ≡ (index.name_of x).number → AreMatched queue (indexes_of segments) (stores_of new)
  both_files grown same = with_both queue (indexes_of segments) (stores_of new) (index.name_of x) (small.name_of q.small) same
      (subst (λ (ns : List Name). AreMatched queue ns (stores_of new ++ small.name_of q.small ∷ [])) named
      (subst (λ (ts : List Name). AreMatched queue (indexes_of (segments ++ x ∷ [])) ts) (ap stores_of grown ∙ stores_named new q.small) j.files))

  other_files : (front : List SmallStore) (last : SmallStore) → old ≡ front ++ last ∷ [] → (small.name_of last).number ≢ (index.name_of x).number → AreMatched queue (indexes_of segments) (stores_of old)
  other_files front last whole other = subst (λ (ts : List Name). AreMatched queue (indexes_of segments) ts) (sym (ap stores_of whole ∙ stores_named front last))
      (with_index queue (indexes_of segments) (stores_of front) (index.name_of x) (small.name_of last) other
      (subst (λ (ns : List Name). AreMatched queue ns (stores_of front ++ small.name_of last ∷ [])) named
      (subst (λ (ts : List Name). AreMatched queue (indexes_of (segments ++ x ∷ [])) ts) (ap stores_of whole ∙ stores_named front last) j.files)))

  rise_next : RiseAs (index_name queue) (indexes_of segments)
  rise_next = (rise_front (index_name queue) (indexes_of segments) (index.name_of x) (subst (RiseAs (index_name queue)) named j.files.rise)).0

  pub join_next : TakesStore (index.name_of x).number old new q.small → JoinsTo queue all_segments all_stores segments new (q ∷ list)
  join_next (Last grown same) =
      let opens = subst (AllByRecursion small.IsOpen) grown j.opens in
      let here = (all_back small.IsOpen new (q.small ∷ []) opens).0 in
      record {
        files = both_files grown same;
        opens = all_front small.IsOpen new (q.small ∷ []) opens;
        indexes = indexes_next;
        smalls = ap (λ (ts : List SmallStore). new ++ ts) (cond-true (is_some (small.gate_of q.small)) (q.small ∷ made_of list) (made_of list) here)
            ∙ sym (push_assoc new q.small (made_of list)) ∙ ap (λ (ts : List SmallStore). ts ++ made_of list) (sym grown) ∙ j.smalls;
      }
  join_next (Other front last whole other same none) = record {
    files = subst (λ (ts : List SmallStore). AreMatched queue (indexes_of segments) (stores_of ts)) (sym same) (other_files front last whole other);
    opens = subst (AllByRecursion small.IsOpen) (sym same) j.opens;
    indexes = indexes_next;
    smalls = ap (λ (ts : List SmallStore). ts ++ made_of (q ∷ list)) same ∙ ap (λ (ts : List SmallStore). old ++ ts) (vacant_smalls none) ∙ j.smalls;
  }
  join_next (Empty was now none) = record {
    files = subst (λ (ts : List SmallStore). AreMatched queue (indexes_of segments) (stores_of ts)) (sym now) (record { rise = rise_next; small_rise = tt; matched = tt });
    opens = subst (AllByRecursion small.IsOpen) (sym now) tt;
    indexes = indexes_next;
    smalls = ap (λ (ts : List SmallStore). ts ++ made_of (q ∷ list)) (now ∙ sym was) ∙ ap (λ (ts : List SmallStore). old ++ ts) (vacant_smalls none) ∙ j.smalls;
  }

-- ---- all are

pub all_joined : (queue : ℕ) (all_segments : List Segment) (all_stores stores : List SmallStore) (list : List QueueSegment) → JoinsTo queue all_segments all_stores [] stores list → AreJoined all_segments all_stores list
all_joined queue all_segments all_stores [] list j = record { indexes = j.indexes; smalls = j.smalls }
all_joined queue all_segments all_stores (t ∷ stores) list j = absurd (false≢true j.files.matched.0)

rising_list : (queue : ℕ) (list : List QueueSegment) → RiseAs (index_name queue) (indexes_of (map (λ s. s.index) list)) → AreSegments queue list
rising_list queue [] rise = (tt, tt)
rising_list queue (q ∷ list) rise =
    let rest = rising_list queue list rise.2 in
    ((sym (ap (λ (n : Name). n.queue) q.index_named) ∙ ap (λ (n : Name). n.queue) rise.0, rest.0), (above list rise.1, rest.1))
  where
    number_is : (r : QueueSegment) → (index.name_of r.index).number ≡ r.number
    number_is r = ap (λ (n : Name). n.number) r.index_named

    above : (rs : List QueueSegment) → AllByRecursion (λ (m : Name). (index.name_of q.index).number < m.number) (indexes_of (map (λ s. s.index) rs)) → AllByRecursion (λ (r : QueueSegment). q.number < r.number) rs
    above [] lt = tt
    above (r ∷ rs) lt = ((let a = number_is q in let b = number_is r in let l = lt.0 in omega (arith, a, b, l)), above rs lt.1)

pub joined_segments : (queue : ℕ) (segments : List Segment) (stores : List SmallStore) (list : List QueueSegment) → AreFiles queue segments stores → AreJoined segments stores list → AreSegments queue list
joined_segments queue segments stores list f j = rising_list queue list (subst (λ (ss : List Segment). RiseAs (index_name queue) (indexes_of ss)) (sym j.indexes) f.indexes.rise)

-- ---- one of them

all_from : {A : Type 0} (P : A → Type 0) (xs : List A) → ((i : ℕ) (x : A) → slice_get xs i ≡ Some x → P x) → AllByRecursion P xs
all_from P [] each = tt
all_from P (x ∷ xs) each = (each zero x refl, all_from P xs (λ i y is. each (suc i) y is))

all_map : {A B : Type 0} (P : B → Type 0) (f : A → B) (xs : List A) → AllByRecursion P (map f xs) → AllByRecursion (λ x. P (f x)) xs
all_map P f [] all = tt
all_map P f (x ∷ xs) all = (all.0, all_map P f xs all.1)

apart_eqb : (a b : ℕ) → a ≢ b → (a == b) ≡ false
apart_eqb a b apart = elim (cases_Bool (a == b)) [
  | inl same ↦ absurd (apart (eqb-true a b same))
  | inr other ↦ other
]

small_number : (s : QueueSegment) → (small.name_of s.small).number ≡ s.number
small_number s = ap (λ (n : Name). n.number) s.small_named

index_number : (s : QueueSegment) → (index.name_of s.index).number ≡ s.number
index_number s = ap (λ (n : Name). n.number) s.index_named

-- the small stores of one more segment: made, or vacant
made_first : (s : QueueSegment) (list : List QueueSegment) → small.IsOpen s.small → made_of (s ∷ list) ≡ s.small ∷ made_of list
made_first s list some = cond-true (is_some (small.gate_of s.small)) (s.small ∷ made_of list) (made_of list) some

made_rest : (s : QueueSegment) (list : List QueueSegment) → is_some (small.gate_of s.small) ≡ false → made_of (s ∷ list) ≡ made_of list
made_rest s list none = cond-false (is_some (small.gate_of s.small)) (s.small ∷ made_of list) (made_of list) none

-- another segment changes nothing of the length at a number, nor whether there is one
len_skip : (n : ℕ) (s : QueueSegment) (list : List QueueSegment) → s.number ≢ n → len_in n (made_of (s ∷ list)) ≡ len_in n (made_of list)
len_skip n s list other = elim (cases_Bool (is_some (small.gate_of s.small))) [
  | inl some ↦ ap (len_in n) (made_first s list some) ∙ cond-false ((small.name_of s.small).number == n) (small.len_of s.small) (len_in n (made_of list)) (apart_eqb (small.name_of s.small).number n (λ same. other (sym (small_number s) ∙ same)))
  | inr none ↦ ap (len_in n) (made_rest s list none)
]

has_skip : (n : ℕ) (s : QueueSegment) (list : List QueueSegment) → s.number ≢ n → has_number (stores_of (made_of (s ∷ list))) n ≡ has_number (stores_of (made_of list)) n
has_skip n s list other = elim (cases_Bool (is_some (small.gate_of s.small))) [
  | inl some ↦ ap (λ (ts : List SmallStore). has_number (stores_of ts) n) (made_first s list some) ∙ ap (λ (b : Bool). b || has_number (stores_of (made_of list)) n) (apart_eqb (small.name_of s.small).number n (λ same. other (sym (small_number s) ∙ same)))
  | inr none ↦ ap (λ (ts : List SmallStore). has_number (stores_of ts) n) (made_rest s list none)
]

len_none : (n : ℕ) (list : List QueueSegment) → AllByRecursion (λ (r : QueueSegment). n < r.number) list → len_in n (made_of list) ≡ 0
len_none n [] above = refl
len_none n (r ∷ list) above = len_skip n r list (λ same. let a = above.0 in absurd (omega (arith, a, same))) ∙ len_none n list above.1

has_none : (n : ℕ) (list : List QueueSegment) → AllByRecursion (λ (r : QueueSegment). n < r.number) list → has_number (stores_of (made_of list)) n ≡ false
has_none n [] above = refl
has_none n (r ∷ list) above = has_skip n r list (λ same. let a = above.0 in absurd (omega (arith, a, same))) ∙ has_none n list above.1

none_len : (o : Option Gate) → is_some o ≡ false → 0 ≡ gate_len o
none_len None none = refl
none_len (Some g) none = absurd (false≢true (sym none))

none_is : (o : Option Gate) → is_some o ≡ false → o ≡ None
none_is None none = refl
none_is (Some g) none = absurd (false≢true (sym none))

-- the length of a segment's small store is that of the store of its number
pub len_joined : (list : List QueueSegment) (i : ℕ) (s : QueueSegment) → Rise list → slice_get list i ≡ Some s → len_in s.number (made_of list) ≡ small_len s
len_joined [] i s rise is = absurd (none-some s is)
len_joined (p ∷ list) zero s rise is = subst (λ (r : QueueSegment). len_in r.number (made_of (p ∷ list)) ≡ small_len r) (same_Some p s is) (elim (cases_Bool (is_some (small.gate_of p.small))) [
  | inl some ↦ ap (len_in p.number) (made_first p list some) ∙ cond-true ((small.name_of p.small).number == p.number) (small.len_of p.small) (len_in p.number (made_of list)) (eq-eqb (small.name_of p.small).number p.number (small_number p))
  | inr none ↦ ap (len_in p.number) (made_rest p list none) ∙ len_none p.number list rise.0 ∙ none_len (small.gate_of p.small) none
])
len_joined (p ∷ list) (suc i) s rise is =
    len_skip s.number p list (λ same. let below = all_at (λ (r : QueueSegment). p.number < r.number) list i s is rise.0 in absurd (omega (arith, below, same))) ∙ len_joined list i s rise.1 is

no_store : (list : List QueueSegment) (i : ℕ) (s : QueueSegment) → Rise list → slice_get list i ≡ Some s → is_some (small.gate_of s.small) ≡ false → has_number (stores_of (made_of list)) s.number ≡ false
no_store [] i s rise is none = absurd (none-some s is)
no_store (p ∷ list) zero s rise is none =
    let e = same_Some p s is in
    ap (λ (ts : List SmallStore). has_number (stores_of ts) s.number) (made_rest p list (subst (λ (r : QueueSegment). is_some (small.gate_of r.small) ≡ false) (sym e) none))
    ∙ has_none s.number list (subst (λ (r : QueueSegment). AllByRecursion (λ (x : QueueSegment). r.number < x.number) list) e rise.0)
no_store (p ∷ list) (suc i) s rise is none =
    has_skip s.number p list (λ same. let below = all_at (λ (r : QueueSegment). p.number < r.number) list i s is rise.0 in absurd (omega (arith, below, same))) ∙ no_store list i s rise.1 is none

made_at : (P : SmallStore → Type 0) (list : List QueueSegment) (i : ℕ) (s : QueueSegment) → slice_get list i ≡ Some s → is_some (small.gate_of s.small) ≡ true → AllByRecursion P (made_of list) → P s.small
made_at P [] i s is some all = absurd (none-some s is)
made_at P (p ∷ list) zero s is some all =
    let e = same_Some p s is in
    subst (λ (r : QueueSegment). P r.small) e (subst (AllByRecursion P) (made_first p list (subst (λ (r : QueueSegment). is_some (small.gate_of r.small) ≡ true) (sym e) some)) all).0
made_at P (p ∷ list) (suc i) s is some all = elim (cases_Bool (is_some (small.gate_of p.small))) [
  | inl made ↦ made_at P list i s is some (subst (AllByRecursion P) (made_first p list made) all).1
  | inr none ↦ made_at P list i s is some (subst (AllByRecursion P) (made_rest p list none) all)
]

numbers_same : (list : List QueueSegment) (n : ℕ) → has_number (indexes_of (map (λ s. s.index) list)) n ≡ has_segment list n
numbers_same [] n = refl
numbers_same (s ∷ list) n = ap (λ (k : ℕ). (k == n) || has_number (indexes_of (map (λ (r : QueueSegment). r.index) list)) n) (index_number s) ∙ ap (λ (b : Bool). (s.number == n) || b) (numbers_same list n)

has_own : (list : List QueueSegment) (i : ℕ) (s : QueueSegment) → slice_get list i ≡ Some s → has_segment list s.number ≡ true
has_own [] i s is = absurd (none-some s is)
has_own (p ∷ list) zero s is = or_left (p.number == s.number) (has_segment list s.number) (eq-eqb p.number s.number (ap (λ (r : QueueSegment). r.number) (same_Some p s is)))
has_own (p ∷ list) (suc i) s is = or_right (p.number == s.number) (has_segment list s.number) (has_own list i s is)

-- ---- on a disk that tells its files

module _ (queue : ℕ) (segments : List Segment) (stores : List SmallStore) (list : List QueueSegment) (files : Name → Option File)
    (are : AreFiles queue segments stores) (j : AreJoined segments stores list) (at : AreOnDisk queue segments stores files) where
  all : AreSegments queue list
  all = joined_segments queue segments stores list are j

  one_knows : (i : ℕ) (s : QueueSegment) → slice_get list i ≡ Some s → KnowsFiles s files
  one_knows i s is = record {
    index = subst (λ (n : Name). IsIndexAt s.index (files n)) s.index_named (all_at (λ (r : QueueSegment). IsIndexAt r.index (files (index.name_of r.index))) list i s is
        (all_map (λ (x : Segment). IsIndexAt x (files (index.name_of x))) (λ (r : QueueSegment). r.index) list (subst (AllByRecursion (λ (x : Segment). IsIndexAt x (files (index.name_of x)))) (sym j.indexes) at.indexes.each)));
    small = elim (cases_Bool (is_some (small.gate_of s.small))) [
      | inl some ↦ subst (λ (n : Name). IsSmallAt s.small (files n)) s.small_named (made_at (λ (t : SmallStore). IsSmallAt t (files (small.name_of t))) list i s is some
          (subst (AllByRecursion (λ (t : SmallStore). IsSmallAt t (files (small.name_of t)))) (sym j.smalls) at.smalls.each))
      | inr none ↦ absent (none_is (small.gate_of s.small) none) (ap (λ (q : ℕ). files (small.small_name q s.number)) own ∙ at.smalls.none s.number here (subst (λ (ts : List SmallStore). has_number (stores_of ts) s.number ≡ false) j.smalls (no_store list i s all.1 is none)))
    ];
  }
    where
      own : s.queue ≡ queue
      own = all_at (λ (r : QueueSegment). r.queue ≡ queue) list i s is all.0

      here : has_number (indexes_of segments) s.number ≡ true
      here = subst (λ (ss : List Segment). has_number (indexes_of ss) s.number ≡ true) j.indexes (numbers_same list s.number ∙ has_own list i s is)

      no_file : (o : Option File) → o ≡ None → IsSettled o
      no_file o none f is = absurd (none-some f (sym none ∙ is))

      absent : small.gate_of s.small ≡ None → files (small_file s) ≡ None → IsSmallAt s.small (files (small_file s))
      absent vacant none = record {
        knows = record { absent = λ v. none; there = λ g some. absurd (none-some g (sym vacant ∙ some)) };
        all = no_file (files (small_file s)) none;
      }

  pub joined_know : AllByRecursion (λ (s : QueueSegment). KnowsFiles s files) list
  joined_know = all_from (λ (s : QueueSegment). KnowsFiles s files) list one_knows

  pub joined_at : AreAt queue list files
  joined_at = record {
    each = joined_know;
    none = λ n not. let index_none = at.indexes.none n (subst (λ (ss : List Segment). has_number (indexes_of ss) n ≡ false) j.indexes (numbers_same list n ∙ not)) in (index_none, at.no_stray n index_none);
  }

  pub joined_found : HaveRecords queue segments files → CanBeFound queue list files
  joined_found whole = record {
    know = joined_know;
    whole = all_map (HasRecords queue files) (λ (r : QueueSegment). r.index) list (subst (AllByRecursion (HasRecords queue files)) (sym j.indexes) whole);
  }

pub joined_open : (queue : ℕ) (segments : List Segment) (stores : List SmallStore) (list : List QueueSegment) → AreFiles queue segments stores → AreJoined segments stores list → AllByRecursion IsOpen list
joined_open queue segments stores list are j = all_map index.IsOpen (λ (r : QueueSegment). r.index) list (subst (AllByRecursion index.IsOpen) (sym j.indexes) are.indexes.are_open)

-- what can't be found of a segment can't be read of its file
pub cant_read : (Told : Type 0) (queue : ℕ) (segments : List Segment) (stores : List SmallStore) (list : List QueueSegment) → AreFiles queue segments stores → AreJoined segments stores list
    → (name : Name) (place found : ℕ) → CantFindAny Told list name place found → IsUnreadable Told queue stores name place found
cant_read Told queue segments stores list are j name place found cant =
    let all = joined_segments queue segments stores list are j in
    let s = cant.segment in
    let len : small_len s ≡ len_in s.number stores = sym (len_joined list cant.i s all.1 cant.is) ∙ ap (len_in s.number) j.smalls in
    record {
      untold = cant.cant.untold;
      number = s.number;
      name_is = cant.cant.name_is ∙ ap (λ (q : ℕ). index_name q s.number) (all_at (λ (r : QueueSegment). r.queue ≡ queue) list cant.i s cant.is all.0);
      at = cant.cant.at;
      cause = subst (λ (n : ℕ). IsBroken cant.cant.at place found ⊎ ((e : IndexEntry) × IsOutside n cant.cant.at e place found)) len cant.cant.cause;
    }

pub cant_open : (Told : Type 0) (queue : ℕ) (segments : List Segment) (stores : List SmallStore) (list : List QueueSegment) → AreFiles queue segments stores → AreJoined segments stores list
    → (error : QueueError) → IfDamaged error (CantFindAny Told list) → IfDamaged error (IsUnreadable Told queue stores)
cant_open Told queue segments stores list are j Fault h = tt
cant_open Told queue segments stores list are j Memory h = tt
cant_open Told queue segments stores list are j (Damaged name place found) h = cant_read Told queue segments stores list are j name place found h
