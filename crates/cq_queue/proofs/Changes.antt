-- The segments of a queue, as one of them changes.
use Prim.Native.Nat.{zero, suc}
use Rattle.std.proofs.Common.{Result, Ok, Err, OnOk, set, take, drop, ◌≡◌, ◌≢◌, ⊎_elim, ℕ, ◌+◌, ◌<◌, ◌≤◌, Bool, true, false, List, [], ◌∷◌, ◌++◌, Option, Some, None, Result, Ok, Err, IfOk, OnOk, OnErr, refl, sym, ap, ◌∙◌, subst, arith}
use Rattle.std.specs.Prelude.{◌==◌, ◌||◌, nat_lt, slice_get, OnSome, IfNone}
use Rattle.std.proofs.lemmas.Bool.Decides.{nat_tests}
use Rattle.std.specs.List.{AllByRecursion}
use Rattle.std.proofs.lemmas.Bool.{ne_eqb, eq-eqb, or_parts, or_from, false≢true, cases_eq}
use Rattle.cq_disk.specs.declared.name.Name.{Name}
use Rattle.cq_disk.specs.File.{File}
use Rattle.cq_small.specs.Store.{small_name}
use Rattle.cq_small.specs.declared.store.SmallStore.{SmallStore}
use Rattle.cq_index.specs.Places.{index_name}
use Rattle.cq_index.proofs.Known.{filed_as}
use Rattle.cq_queue.specs.declared.segment.QueueSegment.{QueueSegment}
use Rattle.cq_folder.specs.Queue.{IsSmallAt, IsIndexAt}
use Rattle.cq_queue.specs.Files.{IsGreatest}
use Rattle.cq_queue.specs.QueueSegment.{IsNew, IsSame, KnowsFiles, OthersStay}
use Rattle.cq_queue.specs.Lists.{has_number, AreAt, AreBelow, AreSame, AreSegments, Rise}
use Rattle.cq_queue.proofs.Files.{apart}

-- a segment knows its files; the files, but two, are as they were
abbrev Knows : (Name → Option File) → QueueSegment → Type 0
Knows files s = KnowsFiles s files

abbrev Others : ℕ → ℕ → (Name → Option File) → (Name → Option File) → Type 0
Others queue number old new = (n : Name) → n ≢ small_name queue number → n ≢ index_name queue number → new n ≡ old n

pub all_append : {A : Type 0} (P : A → Type 0) (xs ys : List A) → AllByRecursion P xs → AllByRecursion P ys → AllByRecursion P (xs ++ ys)
all_append P [] ys a b = b
all_append P (x ∷ xs) ys a b = (a.0, all_append P xs ys a.1 b)

pub all_front : {A : Type 0} (P : A → Type 0) (xs ys : List A) → AllByRecursion P (xs ++ ys) → AllByRecursion P xs
all_front P [] ys a = tt
all_front P (x ∷ xs) ys a = (a.0, all_front P xs ys a.1)

pub all_back : {A : Type 0} (P : A → Type 0) (xs ys : List A) → AllByRecursion P (xs ++ ys) → AllByRecursion P ys
all_back P [] ys a = a
all_back P (x ∷ xs) ys a = all_back P xs ys a.1

rise_push : (ps : List QueueSegment) (p : QueueSegment) → Rise ps → AreBelow p.number ps → Rise (ps ++ p ∷ [])
rise_push [] p rise below = (tt, tt)
rise_push (q ∷ ps) p rise below = (all_append (λ (r : QueueSegment). q.number < r.number) ps (p ∷ []) rise.0 (below.0, tt), rise_push ps p rise.1 below.1)

-- one part more at the end
pub parts_push : (queue : ℕ) (ps : List QueueSegment) (p : QueueSegment) → AreSegments queue ps → p.queue ≡ queue → AreBelow p.number ps → AreSegments queue (ps ++ p ∷ [])
parts_push queue ps p are own below = (
  all_append (λ (r : QueueSegment). r.queue ≡ queue) ps (p ∷ []) are.0 (own, tt),
  rise_push ps p are.1 below,
)

-- no later number is there
not_later : (ps : List QueueSegment) (p : QueueSegment) (k : ℕ) → AreBelow p.number ps → p.number < k → has_number (ps ++ p ∷ []) k ≡ false
not_later [] p k below gt = or_from (p.number == k) false (ne_eqb p.number k (λ same. omega (arith, same, gt))) refl
not_later (q ∷ ps) p k below gt = let lt = below.0 in or_from (q.number == k) (has_number (ps ++ p ∷ []) k) (ne_eqb q.number k (λ same. omega (arith, same, lt, gt))) (not_later ps p k below.1 gt)

pub is_greatest : (queue : ℕ) (ps : List QueueSegment) (p : QueueSegment) (files : Name → Option File) → AreAt queue (ps ++ p ∷ []) files → AreBelow p.number ps → IsGreatest files queue p.number
is_greatest queue ps p files at below k gt = (at.none k (not_later ps p k below gt)).0

-- the part at the end knows its files
pub last_knows : (queue : ℕ) (ps : List QueueSegment) (p : QueueSegment) (files : Name → Option File) → AreAt queue (ps ++ p ∷ []) files → Knows files p
last_knows queue ps p files at = (all_back (Knows files) ps (p ∷ []) at.each).0

-- a part knows files that are as they were
knows_as : (old new : Name → Option File) (p : QueueSegment) → new (small_name p.queue p.number) ≡ old (small_name p.queue p.number) → new (index_name p.queue p.number) ≡ old (index_name p.queue p.number) → Knows old p → Knows new p
knows_as old new p small idx k = record { small = subst (IsSmallAt p.small) (sym small) k.small; index = subst (IsIndexAt p.index) (sym idx) k.index }

same_number : (queue number q n : ℕ) → index_name q n ≡ index_name queue number → n ≡ number
same_number queue number q n e = ap (λ (m : Name). m.number) e

same_small : (queue number q n : ℕ) → small_name q n ≡ small_name queue number → n ≡ number
same_small queue number q n e = ap (λ (m : Name). m.number) e

module _ (queue number : ℕ) (old new : Name → Option File) (others : Others queue number old new) where
  index_stays : (q n : ℕ) → n ≢ number → new (index_name q n) ≡ old (index_name q n)
  index_stays q n other = others (index_name q n) (apart q n queue number) (λ e. other (same_number queue number q n e))

  small_stays : (q n : ℕ) → n ≢ number → new (small_name q n) ≡ old (small_name q n)
  small_stays q n other = others (small_name q n) (λ e. other (same_small queue number q n e)) (λ e. apart queue number q n (sym e))

  pub each_knows : (ps : List QueueSegment) → AllByRecursion (λ (p : QueueSegment). p.number ≢ number) ps → AllByRecursion (Knows old) ps → AllByRecursion (Knows new) ps
  each_knows [] apart each = tt
  each_knows (p ∷ ps) apart each = (knows_as old new p (small_stays p.queue p.number apart.0) (index_stays p.queue p.number apart.0) each.0, each_knows ps apart.1 each.1)

below_apart : (n : ℕ) (ps : List QueueSegment) → AreBelow n ps → AllByRecursion (λ (p : QueueSegment). p.number ≢ n) ps
below_apart n [] below = tt
below_apart n (p ∷ ps) below = let lt = below.0 in ((λ same. omega (arith, same, lt)), below_apart n ps below.1)

has_last : (ps : List QueueSegment) (p r : QueueSegment) (n : ℕ) → r.number ≡ p.number → has_number (ps ++ r ∷ []) n ≡ has_number (ps ++ p ∷ []) n
has_last [] p r n same = ap (λ (k : ℕ). k == n || false) same
has_last (q ∷ ps) p r n same = ap (λ (b : Bool). q.number == n || b) (has_last ps p r n same)

not_last : (ps : List QueueSegment) (p : QueueSegment) (n : ℕ) → has_number (ps ++ p ∷ []) n ≡ false → n ≢ p.number
not_last [] p n none same = absurd (false≢true (sym (or_parts (p.number == n) false none).0 ∙ eq-eqb p.number n (sym same)))
not_last (q ∷ ps) p n none same = not_last ps p n (or_parts (q.number == n) (has_number (ps ++ p ∷ []) n) none).1 same

-- the part at the end has changed, with its files
pub last_changed : (queue : ℕ) (ps : List QueueSegment) (p r : QueueSegment) (old new : Name → Option File) → p.queue ≡ queue → r.queue ≡ p.queue → r.number ≡ p.number → AreBelow p.number ps → Others p.queue p.number old new
    → KnowsFiles r new → AreAt queue (ps ++ p ∷ []) old → AreAt queue (ps ++ r ∷ []) new
last_changed queue ps p r old new own same_queue same below others knows at = record {
  each = all_append (Knows new) ps (r ∷ []) (each_knows p.queue p.number old new others ps (below_apart p.number ps below) (all_front (Knows old) ps (p ∷ []) at.each))
      (knows, tt);
  none = λ n not_there.
      let was : has_number (ps ++ p ∷ []) n ≡ false = sym (has_last ps p r n same) ∙ not_there in
      let other : n ≢ p.number = not_last ps p n was in
      (index_stays p.queue p.number old new others queue n other ∙ (at.none n was).0, small_stays p.queue p.number old new others queue n other ∙ (at.none n was).1);
}

-- ---- a part at a place

-- over any type, since a struct's values are large
pub some_same : {A : Type 0} (a b : A) → Some a ≡ Some b → a ≡ b
some_same a b e = cc

none_some : {A : Type 0} (a : A) → None ≡ Some a → ⊥
none_some a e = cc

pub all_at : {A : Type 0} (P : A → Type 0) (ps : List A) (i : ℕ) (p : A) → slice_get ps i ≡ Some p → AllByRecursion P ps → P p
all_at P [] i p is all = absurd (none_some p is)
all_at P (q ∷ ps) zero p is all = subst P (some_same q p is) all.0
all_at P (q ∷ ps) (suc i) p is all = all_at P ps i p is all.1

pub set_all : {A : Type 0} (P : A → Type 0) (ps : List A) (i : ℕ) (r : A) → P r → AllByRecursion P ps → AllByRecursion P (set ps i r)
set_all P [] i r has all = tt
set_all P (q ∷ ps) zero r has all = (has, all.1)
set_all P (q ∷ ps) (suc i) r has all = (all.0, set_all P ps i r has all.1)

-- the numbers rise still
pub set_rise : (ps : List QueueSegment) (i : ℕ) (p r : QueueSegment) → slice_get ps i ≡ Some p → r.number ≡ p.number → Rise ps → Rise (set ps i r)
set_rise [] i p r is same rise = tt
set_rise (q ∷ ps) zero p r is same rise = (let e : q ≡ p = some_same q p is in subst (λ (n : ℕ). AllByRecursion (λ (s : QueueSegment). n < s.number) ps) (ap (λ (s : QueueSegment). s.number) e ∙ sym same) rise.0, rise.1)
set_rise (q ∷ ps) (suc i) p r is same rise = (set_all (λ (s : QueueSegment). q.number < s.number) ps i r (subst (λ (n : ℕ). q.number < n) (sym same) (all_at (λ (s : QueueSegment). q.number < s.number) ps i p is rise.0)) rise.0, set_rise ps i p r is same rise.1)

has_set : (ps : List QueueSegment) (i : ℕ) (p r : QueueSegment) (n : ℕ) → slice_get ps i ≡ Some p → r.number ≡ p.number → has_number (set ps i r) n ≡ has_number ps n
has_set [] i p r n is same = refl
has_set (q ∷ ps) zero p r n is same = (let e : q ≡ p = some_same q p is in ap (λ (k : ℕ). k == n || has_number ps n) (same ∙ sym (ap (λ (s : QueueSegment). s.number) e)))
has_set (q ∷ ps) (suc i) p r n is same = ap (λ (b : Bool). q.number == n || b) (has_set ps i p r n is same)

not_at : (ps : List QueueSegment) (i : ℕ) (p : QueueSegment) (n : ℕ) → slice_get ps i ≡ Some p → has_number ps n ≡ false → n ≢ p.number
not_at [] i p n is none same = none_some p is
not_at (q ∷ ps) zero p n is none same = (let e : q ≡ p = some_same q p is in absurd (false≢true (sym (or_parts (q.number == n) (has_number ps n) none).0 ∙ eq-eqb q.number n (ap (λ (s : QueueSegment). s.number) e ∙ sym same))))
not_at (q ∷ ps) (suc i) p n is none same = not_at ps i p n is (or_parts (q.number == n) (has_number ps n) none).1 same

above_apart : (n : ℕ) (ps : List QueueSegment) → AllByRecursion (λ (s : QueueSegment). n < s.number) ps → AllByRecursion (λ (s : QueueSegment). s.number ≢ n) ps
above_apart n [] above = tt
above_apart n (p ∷ ps) above = let lt = above.0 in ((λ same. omega (arith, same, lt)), above_apart n ps above.1)

module _ (p : QueueSegment) (old new : Name → Option File) (others : Others p.queue p.number old new) where
  keeps_knowing : (q : QueueSegment) → q.number ≢ p.number → Knows old q → Knows new q
  keeps_knowing q other k = (each_knows p.queue p.number old new others (q ∷ []) (other, tt) (k, tt)).0

  each_set : (ps : List QueueSegment) (i : ℕ) (r : QueueSegment) → slice_get ps i ≡ Some p → Rise ps → Knows new r → AllByRecursion (Knows old) ps → AllByRecursion (Knows new) (set ps i r)
  each_set [] i r is rise knows each = tt
  each_set (q ∷ ps) zero r is rise knows each = (let e : q ≡ p = some_same q p is in
      (knows, each_knows p.queue p.number old new others ps (above_apart p.number ps (subst (λ (s : QueueSegment). AllByRecursion (λ (t : QueueSegment). s.number < t.number) ps) e rise.0)) each.1))
  each_set (q ∷ ps) (suc i) r is rise knows each =
      let lt : q.number < p.number = all_at (λ (s : QueueSegment). q.number < s.number) ps i p is rise.0 in
      (keeps_knowing q (λ same. omega (arith, same, lt)) each.0, each_set ps i r is rise.1 knows each.1)

  -- the part at a place has changed, with its files
  pub set_changed : (queue : ℕ) (ps : List QueueSegment) (i : ℕ) (r : QueueSegment) → slice_get ps i ≡ Some p → Rise ps → r.queue ≡ p.queue → r.number ≡ p.number → KnowsFiles r new → AreAt queue ps old → AreAt queue (set ps i r) new
  set_changed queue ps i r is rise same_queue same knows at = record {
    each = each_set ps i r is rise knows at.each;
    none = λ n not_there.
        let was : has_number ps n ≡ false = sym (has_set ps i p r n is same) ∙ not_there in
        let other : n ≢ p.number = not_at ps i p n is was in
        (index_stays p.queue p.number old new others queue n other ∙ (at.none n was).0, small_stays p.queue p.number old new others queue n other ∙ (at.none n was).1);
  }

  each_without : (ps : List QueueSegment) (i : ℕ) → slice_get ps i ≡ Some p → Rise ps → AllByRecursion (Knows old) ps → AllByRecursion (Knows new) (take i ps ++ drop (suc i) ps)
  each_without [] zero is rise each = tt
  each_without [] (suc i) is rise each = tt
  each_without (q ∷ ps) zero is rise each = (let e : q ≡ p = some_same q p is in each_knows p.queue p.number old new others ps (above_apart p.number ps (subst (λ (s : QueueSegment). AllByRecursion (λ (t : QueueSegment). s.number < t.number) ps) e rise.0)) each.1)
  each_without (q ∷ ps) (suc i) is rise each =
      let lt : q.number < p.number = all_at (λ (s : QueueSegment). q.number < s.number) ps i p is rise.0 in
      (keeps_knowing q (λ same. omega (arith, same, lt)) each.0, each_without ps i is rise.1 each.1)

  has_without : (ps : List QueueSegment) (i n : ℕ) → slice_get ps i ≡ Some p → n ≢ p.number → has_number (take i ps ++ drop (suc i) ps) n ≡ false → has_number ps n ≡ false
  has_without [] i n is other none = refl
  has_without (q ∷ ps) zero n is other none = (let e : q ≡ p = some_same q p is in or_from (q.number == n) (has_number ps n) (ne_eqb q.number n (λ same. other (sym same ∙ ap (λ (s : QueueSegment). s.number) e))) none)
  has_without (q ∷ ps) (suc i) n is other none =
      let parts = or_parts (q.number == n) (has_number (take i ps ++ drop (suc i) ps) n) none in
      or_from (q.number == n) (has_number ps n) parts.0 (has_without ps i n is other parts.1)

  -- the part at a place has gone, with its files
  pub without_changed : (queue : ℕ) (ps : List QueueSegment) (i : ℕ) → slice_get ps i ≡ Some p → Rise ps → p.queue ≡ queue → (new (index_name p.queue p.number) ≡ None) × (new (small_name p.queue p.number) ≡ None) → AreAt queue ps old → AreAt queue (take i ps ++ drop (suc i) ps) new
  without_changed queue ps i is rise own gone at = record {
    each = each_without ps i is rise at.each;
    none = λ n not_there. ⊎_elim
        (λ (here : n ≡ p.number). (ap new (λ j. index_name (sym own j) (here j)) ∙ gone.0, ap new (λ j. small_name (sym own j) (here j)) ∙ gone.1))
        (λ other.
        let was : has_number ps n ≡ false = has_without ps i n is other not_there in
        (index_stays p.queue p.number old new others queue n other ∙ (at.none n was).0, small_stays p.queue p.number old new others queue n other ∙ (at.none n was).1))
        (cases_eq n p.number);
  }

-- ---- without the part at a place

pub all_without : {A : Type 0} (P : A → Type 0) (ps : List A) (i : ℕ) → AllByRecursion P ps → AllByRecursion P (take i ps ++ drop (suc i) ps)
all_without P [] zero all = tt
all_without P [] (suc i) all = tt
all_without P (q ∷ ps) zero all = all.1
all_without P (q ∷ ps) (suc i) all = (all.0, all_without P ps i all.1)

rise_without : (ps : List QueueSegment) (i : ℕ) → Rise ps → Rise (take i ps ++ drop (suc i) ps)
rise_without [] zero rise = tt
rise_without [] (suc i) rise = tt
rise_without (q ∷ ps) zero rise = rise.1
rise_without (q ∷ ps) (suc i) rise = (all_without (λ (s : QueueSegment). q.number < s.number) ps i rise.0, rise_without ps i rise.1)

pub next : {A : Type 0} (P : List A → Type 0) (ps : List A) (i : ℕ) → P (take i ps ++ drop (suc i) ps) → P (take i ps ++ drop (i + 1) ps)
next P ps i is = let e : suc i ≡ i + 1 = omega arith in subst (λ (n : ℕ). P (take i ps ++ drop n ps)) e is

pub parts_without : (queue : ℕ) (ps : List QueueSegment) (i : ℕ) → AreSegments queue ps → AreSegments queue (take i ps ++ drop (suc i) ps)
parts_without queue ps i are = (all_without (λ (p : QueueSegment). p.queue ≡ queue) ps i are.0, rise_without ps i are.1)

-- ---- the part that is taken out

front_below : (ps : List QueueSegment) (p : QueueSegment) → Rise (ps ++ p ∷ []) → AreBelow p.number ps × Rise ps
front_below [] p rise = (tt, tt)
front_below (q ∷ ps) p rise = let r = front_below ps p rise.1 in (((all_back (λ (s : QueueSegment). q.number < s.number) ps (p ∷ []) rise.0).0, r.0), (all_front (λ (s : QueueSegment). q.number < s.number) ps (p ∷ []) rise.0, r.1))

pub parts_front : (queue : ℕ) (ps : List QueueSegment) (p : QueueSegment) → AreSegments queue (ps ++ p ∷ []) → AreSegments queue ps × ((p.queue ≡ queue) × AreBelow p.number ps)
parts_front queue ps p are = let r = front_below ps p are.1 in ((all_front (λ (s : QueueSegment). s.queue ≡ queue) ps (p ∷ []) are.0, r.1), ((all_back (λ (s : QueueSegment). s.queue ≡ queue) ps (p ∷ []) are.0).0, r.0))

pub same_self : (p : QueueSegment) → IsSame p p
same_self p = record { number = record { queue = refl; number = refl }; small = refl; index = record { name = refl; gate = refl; count = refl; present = refl } }

pub same_parts : (ps : List QueueSegment) → AreSame ps ps
same_parts [] = tt
same_parts (p ∷ ps) = (same_self p, same_parts ps)

pub same_push : (ps : List QueueSegment) (p r : QueueSegment) → IsSame p r → AreSame (ps ++ p ∷ []) (ps ++ r ∷ [])
same_push [] p r same = (same, tt)
same_push (q ∷ ps) p r same = (same_self q, same_push ps p r same)

pub knows_same : (files : Name → Option File) (p r : QueueSegment) → IsSame p r → Knows files p → Knows files r
knows_same files p r same k =
    let small_same : small_name r.queue r.number ≡ small_name p.queue p.number = λ i. small_name (same.number.queue i) (same.number.number i) in
    let index_same : index_name r.queue r.number ≡ index_name p.queue p.number = λ i. index_name (same.number.queue i) (same.number.number i) in
    record {
      small = subst (λ (n : Name). IsSmallAt r.small (files n)) (sym small_same) (subst (λ (s : SmallStore). IsSmallAt s (files (small_name p.queue p.number))) (sym same.small) k.small);
      index = subst (λ (n : Name). IsIndexAt r.index (files n)) (sym index_same) (record { knows = filed_as p.index r.index (files (index_name p.queue p.number)) same.index.gate same.index.count same.index.present k.index.knows; all = k.index.all });
    }

pub at_same : (queue : ℕ) (ps : List QueueSegment) (p r : QueueSegment) (files : Name → Option File) → IsSame p r → AreAt queue (ps ++ p ∷ []) files → AreAt queue (ps ++ r ∷ []) files
at_same queue ps p r files same at = record {
  each = all_append (Knows files) ps (r ∷ []) (all_front (Knows files) ps (p ∷ []) at.each) (knows_same files p r same (all_back (Knows files) ps (p ∷ []) at.each).0, tt);
  none = λ n not_there. at.none n (sym (has_last ps p r n same.number.number) ∙ not_there);
}

fresh_number : (ps : List QueueSegment) (n : ℕ) → AreBelow n ps → has_number ps n ≡ false
fresh_number [] n below = refl
fresh_number (q ∷ ps) n below = let lt = below.0 in or_from (q.number == n) (has_number ps n) (ne_eqb q.number n (λ same. omega (arith, same, lt))) (fresh_number ps n below.1)

front_none : (ps : List QueueSegment) (p : QueueSegment) (n : ℕ) → has_number (ps ++ p ∷ []) n ≡ false → has_number ps n ≡ false
front_none [] p n none = refl
front_none (q ∷ ps) p n none = let parts = or_parts (q.number == n) (has_number (ps ++ p ∷ []) n) none in or_from (q.number == n) (has_number ps n) parts.0 (front_none ps p n parts.1)

pub at_next : (queue number : ℕ) (ps : List QueueSegment) (r : QueueSegment) (files : Name → Option File) → IsNew queue number r → AreBelow r.number ps → AreAt queue ps files → AreAt queue (ps ++ r ∷ []) files
at_next queue number ps r files new below at =
    let none = at.none r.number (fresh_number ps r.number below) in
    let no_index : files (index_name r.queue r.number) ≡ None = ap (λ (q : ℕ). files (index_name q r.number)) new.queue ∙ none.0 in
    let no_store : files (small_name r.queue r.number) ≡ None = ap (λ (q : ℕ). files (small_name q r.number)) new.queue ∙ none.1 in
    record {
      each = all_append (Knows files) ps (r ∷ []) at.each (
        record {
          small = record { knows = record { absent = λ e. no_store; there = λ g e. absurd (none_some g (sym new.vacant.small ∙ e)) }; all = λ f e. absurd (none_some f (sym no_store ∙ e)) };
          index = record { knows = record { absent = λ e. no_index; there = λ g e. absurd (none_some g (sym new.vacant.index ∙ e)) }; all = λ f e. absurd (none_some f (sym no_index ∙ e)) };
        },
        tt,
      );
      none = λ n not_there. at.none n (front_none ps r n not_there);
    }

-- numbers below the last one's, and the last one's, are below the next
pub below_next : (ps : List QueueSegment) (p : QueueSegment) (n : ℕ) → AreBelow p.number ps → n ≡ p.number + 1 → AreBelow n (ps ++ p ∷ [])
below_next [] p n below is = (omega (arith, is), tt)
below_next (q ∷ ps) p n below is = let lt = below.0 in (omega (arith, is, lt), below_next ps p n below.1 is)

pub if_ok : {T E : Type 0} (r : Result T E) (P R : T → Type 0) (A : Type 0) → IfOk r P → OnOk r A → ((v : T) → P v → A → R v) → IfOk r R
if_ok (Ok v) P R A p a step = step v p a
if_ok (Err e) P R A p a step = tt

pub if_only : {T E : Type 0} (r : Result T E) (P R : T → Type 0) → IfOk r P → ((v : T) → P v → R v) → IfOk r R
if_only (Ok v) P R p step = step v p
if_only (Err e) P R p step = tt

pub if_both : {T E : Type 0} (r : Result T E) (P Q R : T → Type 0) → IfOk r P → IfOk r Q → ((v : T) → P v → Q v → R v) → IfOk r R
if_both (Ok v) P Q R p q step = step v p q
if_both (Err e) P Q R p q step = tt

pub if_three : {T E : Type 0} (r : Result T E) (P Q R : T → Type 0) (A : Type 0) → IfOk r P → IfOk r Q → OnOk r A → ((v : T) → P v → Q v → A → R v) → IfOk r R
if_three (Ok v) P Q R A p q a step = step v p q a
if_three (Err e) P Q R A p q a step = tt

pub if_each : {T E : Type 0} (r : Result T E) (P Q S R : T → Type 0) → IfOk r P → IfOk r Q → IfOk r S → ((v : T) → P v → Q v → S v → R v) → IfOk r R
if_each (Ok v) P Q S R p q s step = step v p q s
if_each (Err e) P Q S R p q s step = tt

pub ge_of : (a b : ℕ) → nat_lt a b ≡ false → b ≤ a
ge_of a b test = grind (arith, nat_tests)

pub on_err : {T E : Type 0} (r : Result T E) (A : Type 0) → A → OnErr r A
on_err (Ok v) A a = tt
on_err (Err e) A a = a

pub lt_of : (a b : ℕ) → nat_lt a b ≡ true → a < b
lt_of a b test = grind (arith, nat_tests)

pub either : {T E : Type 0} (r : Result T E) (A B C : Type 0) → OnOk r A → OnErr r B → (A → C) → (B → C) → C
either (Ok v) A B C a b ok err = ok a
either (Err e) A B C a b ok err = err b

pub either_slot : {T : Type 0} (slot : Option T) (A B C : Type 0) → OnSome slot A → IfNone slot B → (A → C) → (B → C) → C
either_slot (Some v) A B C a b some none = some a
either_slot None A B C a b some none = none b

-- the files of other queues are as they were
pub other_queues : (queue : ℕ) (s : QueueSegment) (old new : Name → Option File) → s.queue ≡ queue → OthersStay s old new → (n : Name) → n.queue ≢ queue → new n ≡ old n
other_queues queue s old new own others n other = others n (λ same. other (ap (λ (m : Name). m.queue) same ∙ own)) (λ same. other (ap (λ (m : Name). m.queue) same ∙ own))
