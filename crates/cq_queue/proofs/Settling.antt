-- Entries that were settled have left the list of a segment as their messages have left memory.
use Prim.Native.Nat.{zero, suc}
use Rattle.std.proofs.Common.{◌≡◌, ◌≢◌, inl, inr, ⊎_elim, ℕ, ◌+◌, ◌≤◌, ◌<◌, Bool, true, false, not, cond, List, [], ◌∷◌, ◌++◌, filter, map, set, Option, Some, None, refl, sym, ap, ◌∙◌, subst, arith}
use Rattle.std.specs.Prelude.{is_some, Contains, ◌==◌, ◌&&◌, ◌||◌, slice_get}
use Rattle.std.specs.List.{AllByRecursion}
use Rattle.std.proofs.lemmas.Bool.{false≢true, eq-eqb, ne_eqb, eqb-true, and_parts, cases_eq}
use Rattle.std.proofs.lemmas.List.Elements.{filter-append}
use Rattle.cq_bytes.specs.Numbers.{contains}
use Rattle.cq_disk.specs.declared.name.Name.{Name}
use Rattle.cq_disk.specs.File.{File}
use Rattle.cq_small.specs.declared.store.SmallStore.{SmallStore}
use Rattle.cq_small.specs.Store.{small_name, len_of}
use Rattle.cq_index.specs.Places.{index_name}
use Rattle.cq_journal.specs.Lists.{IsIn}
use Rattle.cq_folder.specs.Holding.{IsAt}
use Rattle.cq_folder.specs.Queue.{content_in, listed_in}
use Rattle.cq_folder.proofs.Sublists.{all_in, or_true}
use Rattle.cq_items.specs.Item.{Item}
use Rattle.cq_items.specs.declared.item.Stand.{Stand}
use Rattle.cq_items.specs.Items.{at_of, is_gone, segment_of, undecided, undecided_items}
use Rattle.cq_queue.specs.declared.segment.QueueSegment.{QueueSegment}
use Rattle.cq_queue.specs.Files.{KeepsOtherEntries}
use Rattle.cq_queue.specs.QueueSegment.{IsLess, IsOpen, index_file, index_in, present_of, small_file, small_len}
use Rattle.cq_queue.specs.Lists.{Rise}
use Rattle.cq_queue.specs.Passing.{IsReady}
use Rattle.cq_queue.specs.Tied.{listed, listing_of, standing_at, AreSplit, IsWithin, IsTied, entry_at, IsWholeRecord, IsInPlace, AreInPlace}
use Rattle.cq_queue.proofs.Files.{apart}
use Rattle.cq_queue.proofs.Changes.{some_same, all_at, set_all}
use Rattle.cq_queue.proofs.Removing.{in_other}
use Rattle.cq_queue.proofs.Order.{AreApart}
use Rattle.cq_queue.proofs.Lowest.{goes, stay_items, going}

-- whether what is listed stays, where entries of a segment at these places go
abbrev pub stays_listed : ℕ → List ℕ → (ℕ × ℕ) → Bool
stays_listed n at l = not (l.0 == n && contains at l.1)

-- ---- the segments

other_stays : (n m : ℕ) (at ks : List ℕ) → m ≢ n → filter (stays_listed n at) (listed_in m ks) ≡ listed_in m ks
other_stays n m at [] other = refl
other_stays n m at (k ∷ ks) other =
    ap (λ (b : Bool). cond (not (b && contains at k)) ((m, k) ∷ filter (stays_listed n at) (listed_in m ks)) (filter (stays_listed n at) (listed_in m ks))) (ne_eqb m n other)
    ∙ ap (λ (l : List (ℕ × ℕ)). (m, k) ∷ l) (other_stays n m at ks other)

in_own : (n : ℕ) (at ks : List ℕ) → filter (stays_listed n at) (listed_in n ks) ≡ listed_in n (filter (λ k. not (contains at k)) ks)
in_own n at [] = refl
in_own n at (k ∷ ks) =
    ap (λ (b : Bool). cond (not (b && contains at k)) ((n, k) ∷ filter (stays_listed n at) (listed_in n ks)) (filter (stays_listed n at) (listed_in n ks))) (eq-eqb n n refl)
    ∙ (elim (contains at k) as (λ (b : Bool). cond (not b) ((n, k) ∷ filter (stays_listed n at) (listed_in n ks)) (filter (stays_listed n at) (listed_in n ks)) ≡ listed_in n (cond (not b) (k ∷ filter (λ k. not (contains at k)) ks) (filter (λ k. not (contains at k)) ks))) [
      | true ↦ in_own n at ks
      | false ↦ ap (λ (l : List (ℕ × ℕ)). (n, k) ∷ l) (in_own n at ks)
    ])

above_other : (n : ℕ) (at : List ℕ) (ps : List QueueSegment) → AllByRecursion (λ (s : QueueSegment). n < s.number) ps → filter (stays_listed n at) (listed ps) ≡ listed ps
above_other n at [] above = refl
above_other n at (q ∷ ps) above =
    let lt = above.0 in
    filter-append (stays_listed n at) (listed_in q.number (present_of q)) (listed ps)
    ∙ ap (λ (l : List (ℕ × ℕ)). l ++ filter (stays_listed n at) (listed ps)) (other_stays n q.number at (present_of q) (λ same. omega (arith, same, lt)))
    ∙ ap (λ (l : List (ℕ × ℕ)). listed_in q.number (present_of q) ++ l) (above_other n at ps above.1)

-- one segment lists fewer
pub listed_less : (n : ℕ) (at : List ℕ) (ps : List QueueSegment) (i : ℕ) (p less : QueueSegment) → slice_get ps i ≡ Some p → p.number ≡ n → less.number ≡ n → present_of less ≡ filter (λ k. not (contains at k)) (present_of p) → Rise ps
    → filter (stays_listed n at) (listed ps) ≡ listed (set ps i less)
listed_less n at [] i p less is num own fewer rise = no_part p is
  where
    no_part : {A : Type 0} {B : Type 0} (a : A) → None ≡ Some a → B
    no_part a e = cc
listed_less n at (q ∷ ps) zero p less is num own fewer rise =
    let e : q ≡ p = some_same q p is in
    let qn : q.number ≡ n = ap (λ (r : QueueSegment). r.number) e ∙ num in
    filter-append (stays_listed n at) (listed_in q.number (present_of q)) (listed ps)
    ∙ ap (λ (r : QueueSegment). filter (stays_listed n at) (listed_in r.number (present_of r)) ++ filter (stays_listed n at) (listed ps)) e
    ∙ ap (λ (m : ℕ). filter (stays_listed n at) (listed_in m (present_of p)) ++ filter (stays_listed n at) (listed ps)) num
    ∙ ap (λ (l : List (ℕ × ℕ)). l ++ filter (stays_listed n at) (listed ps)) (in_own n at (present_of p) ∙ ap (listed_in n) (sym fewer) ∙ ap (λ (m : ℕ). listed_in m (present_of less)) (sym own))
    ∙ ap (λ (l : List (ℕ × ℕ)). listed_in less.number (present_of less) ++ l) (above_other n at ps (subst (λ (m : ℕ). AllByRecursion (λ (s : QueueSegment). m < s.number) ps) qn rise.0))
listed_less n at (q ∷ ps) (suc i) p less is num own fewer rise =
    let lt : q.number < p.number = all_at (λ (s : QueueSegment). q.number < s.number) ps i p is rise.0 in
    filter-append (stays_listed n at) (listed_in q.number (present_of q)) (listed ps)
    ∙ ap (λ (l : List (ℕ × ℕ)). l ++ filter (stays_listed n at) (listed ps)) (other_stays n q.number at (present_of q) (λ same. omega (arith, same, lt, num)))
    ∙ ap (λ (l : List (ℕ × ℕ)). listed_in q.number (present_of q) ++ l) (listed_less n at ps i p less is num own fewer rise.1)

-- ---- the messages

-- a committed message is one of those that go exactly where its place is one of theirs
abbrev pub IsTold : ℕ → List ℕ → Item → Type 0
IsTold n at i = (s : Stand) → i.stand ≡ Some s → (s.segment == n && contains at s.at) ≡ goes n i

one_less : (n : ℕ) (at : List ℕ) (i : Item) (is : List Item) → IsTold n at i → standing_at (stay_items n is) ≡ filter (stays_listed n at) (standing_at is) → (o : Option Stand) → i.stand ≡ o → standing_at (stay_items n (i ∷ is)) ≡ filter (stays_listed n at) (standing_at (i ∷ is))
one_less n at i is told rest None e =
    let no' : goes n i ≡ false = ap (λ (o : Option Stand). (is_some o && is_gone i.holder) && segment_of o == n) e in
    ap (λ (b : Bool). standing_at (cond (not b) (i ∷ stay_items n is) (stay_items n is))) no'
    ∙ ap (λ (o : Option Stand). listing_of o ++ standing_at (stay_items n is)) e
    ∙ rest
    ∙ sym (ap (λ (o : Option Stand). filter (stays_listed n at) (listing_of o ++ standing_at is)) e)
one_less n at i is told rest (Some s) e = (elim (goes n i) as (λ (b : Bool). goes n i ≡ b → standing_at (cond (not b) (i ∷ stay_items n is) (stay_items n is)) ≡ filter (stays_listed n at) (standing_at (i ∷ is))) [
  | true ↦ λ yes'. rest ∙ sym (after true yes')
  | false ↦ λ no'. ap (λ (o : Option Stand). listing_of o ++ standing_at (stay_items n is)) e ∙ ap (λ (l : List (ℕ × ℕ)). (s.segment, s.at) ∷ l) rest ∙ sym (after false no')
]) refl
  where
    after : (b : Bool) → goes n i ≡ b → filter (stays_listed n at) (standing_at (i ∷ is)) ≡ cond (not b) ((s.segment, s.at) ∷ filter (stays_listed n at) (standing_at is)) (filter (stays_listed n at) (standing_at is))
    after b is_b = ap (λ (o : Option Stand). filter (stays_listed n at) (listing_of o ++ standing_at is)) e
        ∙ ap (λ (c : Bool). cond (not c) ((s.segment, s.at) ∷ filter (stays_listed n at) (standing_at is)) (filter (stays_listed n at) (standing_at is))) (told s e ∙ is_b)

-- so the messages that stay stand where entries are listed that stay
pub standing_less : (n : ℕ) (at : List ℕ) (items : List Item) → AllByRecursion (IsTold n at) items → standing_at (stay_items n items) ≡ filter (stays_listed n at) (standing_at items)
standing_less n at [] told = refl
standing_less n at (i ∷ is) told = one_less n at i is told.0 (standing_less n at is told.1) i.stand refl

-- ---- where the messages that go stand

pub stands_in : (items : List Item) (k : Item) (t : Stand) → IsIn items k → k.stand ≡ Some t → IsIn (standing_at items) (t.segment, t.at)
stands_in [] k t there at = absurd there
stands_in (i ∷ is) k t there at = ⊎_elim
    (λ (here : i ≡ k). subst (λ (o : Option Stand). IsIn (listing_of o ++ standing_at is) (t.segment, t.at)) (sym (ap (λ (j : Item). j.stand) here ∙ at)) (inl refl))
    (λ later. behind i.stand (stands_in is k t later at)) there
  where
    behind : (o : Option Stand) → IsIn (standing_at is) (t.segment, t.at) → IsIn (listing_of o ++ standing_at is) (t.segment, t.at)
    behind None there = there
    behind (Some s) there = inr there

apart_rest : (o : Option Stand) (rest : List (ℕ × ℕ)) → AreApart (listing_of o ++ rest) → AreApart rest
apart_rest None rest apart = apart
apart_rest (Some s) rest apart = apart.1

-- one place is that of one message
one_item : (items : List Item) (j k : Item) (s t : Stand) → AreApart (standing_at items) → IsIn items j → IsIn items k → j.stand ≡ Some s → k.stand ≡ Some t → s.segment ≡ t.segment → s.at ≡ t.at → j ≡ k
one_item [] j k s t apart here there is_s is_t segment at = absurd here
one_item (i ∷ is) j k s t apart here there is_s is_t segment at = ⊎_elim
    (λ (j_is : i ≡ j). ⊎_elim
    (λ (k_is : i ≡ k). sym j_is ∙ k_is)
    (λ later. absurd (all_in (λ (y : ℕ × ℕ). s.segment ≡ y.0 → s.at ≡ y.1 → ⊥) (standing_at is) (t.segment, t.at) (head j s j_is is_s) (stands_in is k t later is_t) segment at)) there)
    (λ earlier. ⊎_elim
    (λ (k_is : i ≡ k). absurd (all_in (λ (y : ℕ × ℕ). t.segment ≡ y.0 → t.at ≡ y.1 → ⊥) (standing_at is) (s.segment, s.at) (head k t k_is is_t) (stands_in is j s earlier is_s) (sym segment) (sym at)))
    (λ later. one_item is j k s t (apart_rest i.stand (standing_at is) apart) earlier later is_s is_t segment at) there) here
  where
    head : (l : Item) (u : Stand) → i ≡ l → l.stand ≡ Some u → AllByRecursion (λ (y : ℕ × ℕ). u.segment ≡ y.0 → u.at ≡ y.1 → ⊥) (standing_at is)
    head l u same is_u = (subst (λ (o : Option Stand). AreApart (listing_of o ++ standing_at is)) (ap (λ (m : Item). m.stand) same ∙ is_u) apart).0

-- a place of one that goes
pub found_going : (n : ℕ) (items : List Item) (x : ℕ) → contains (going n items) x ≡ true → (k : Item) × (IsIn items k × ((goes n k ≡ true) × (at_of k.stand ≡ x)))
found_going n [] x has = absurd (false≢true has)
found_going n (i ∷ is) x has = (elim (goes n i) as (λ (b : Bool). goes n i ≡ b → contains (map (λ (i : Item). at_of i.stand) (cond b (i ∷ filter (goes n) is) (filter (goes n) is))) x ≡ true → (k : Item) × (IsIn (i ∷ is) k × ((goes n k ≡ true) × (at_of k.stand ≡ x)))) [
  | true ↦ λ yes' any. (elim (at_of i.stand == x) as (λ (b : Bool). (at_of i.stand == x) ≡ b → (b || contains (going n is) x) ≡ true → (k : Item) × (IsIn (i ∷ is) k × ((goes n k ≡ true) × (at_of k.stand ≡ x)))) [
    | true ↦ λ same found. (i, (inl refl, (yes', eqb-true (at_of i.stand) x same)))
    | false ↦ λ other later. let r = found_going n is x later in (r.0, (inr r.1.0, r.1.1))
  ]) refl any
  | false ↦ λ no' later. let r = found_going n is x later in (r.0, (inr r.1.0, r.1.1))
]) refl has

has_going : (n : ℕ) (items : List Item) (j : Item) → IsIn items j → goes n j ≡ true → contains (going n items) (at_of j.stand) ≡ true
has_going n [] j there yes' = absurd there
has_going n (i ∷ is) j there yes' = (elim (goes n i) as (λ (b : Bool). goes n i ≡ b → contains (map (λ (i : Item). at_of i.stand) (cond b (i ∷ filter (goes n) is) (filter (goes n) is))) (at_of j.stand) ≡ true) [
  | true ↦ λ own. ⊎_elim
      (λ (here : i ≡ j). ap (λ (b : Bool). b || contains (going n is) (at_of j.stand)) (eq-eqb (at_of i.stand) (at_of j.stand) (ap (λ (k : Item). at_of k.stand) here)))
      (λ later. or_true (at_of i.stand == at_of j.stand) (contains (going n is) (at_of j.stand)) (has_going n is j later yes')) there
  | false ↦ λ other. ⊎_elim
      (λ (here : i ≡ j). absurd (false≢true (sym other ∙ ap (goes n) here ∙ yes')))
      (λ later. has_going n is j later yes') there
]) refl

module _ (n : ℕ) (items : List Item) (apart : AreApart (standing_at items)) where
  told_one : (j : Item) → IsIn items j → IsTold n (going n items) j
  told_one j there s is = (elim (goes n j) as (λ (b : Bool). goes n j ≡ b → (s.segment == n && contains (going n items) s.at) ≡ b) [
    | true ↦ λ yes'. both (s.segment == n) (contains (going n items) s.at)
        (subst (λ (o : Option Stand). (segment_of o == n) ≡ true) is (and_parts (is_some j.stand && is_gone j.holder) (segment_of j.stand == n) yes').1)
        (subst (λ (o : Option Stand). contains (going n items) (at_of o) ≡ true) is (has_going n items j there yes'))
    | false ↦ λ no'. none (s.segment == n) (contains (going n items) s.at) (λ own has.
        let k = found_going n items s.at has in
        of_stand k.0 k.1.0 k.1.1.0 k.1.1.1 own no' k.0.stand refl)
  ]) refl
    where
      both : (a b : Bool) → a ≡ true → b ≡ true → (a && b) ≡ true
      both true b yes' is_b = is_b
      both false b no' is_b = absurd (false≢true no')

      none : (a b : Bool) → (a ≡ true → b ≡ true → ⊥) → (a && b) ≡ false
      none true true no_way = absurd (no_way refl refl)
      none true false no_way = refl
      none false b no_way = refl

      of_stand : (k : Item) → IsIn items k → goes n k ≡ true → at_of k.stand ≡ s.at → (s.segment == n) ≡ true → goes n j ≡ false → (o : Option Stand) → k.stand ≡ o → ⊥
      of_stand k k_there yes_goes at own stays None k_is = false≢true (sym (ap (λ (o : Option Stand). (is_some o && is_gone k.holder) && segment_of o == n) k_is) ∙ yes_goes)
      of_stand k k_there yes_goes at own stays (Some t) k_is =
          let segment : (t.segment == n) ≡ true = subst (λ (o : Option Stand). (segment_of o == n) ≡ true) k_is (and_parts (is_some k.stand && is_gone k.holder) (segment_of k.stand == n) yes_goes).1 in
          let same : j ≡ k = one_item items j k s t apart there k_there is k_is (eqb-true s.segment n own ∙ sym (eqb-true t.segment n segment)) (sym at ∙ ap at_of k_is) in
          false≢true (sym stays ∙ ap (goes n) same ∙ yes_goes)

  pub all_told : AllByRecursion (IsTold n (going n items)) items
  all_told = each items (λ j there. there)
    where
      each : (rest : List Item) → ((j : Item) → IsIn rest j → IsIn items j) → AllByRecursion (IsTold n (going n items)) rest
      each [] within = tt
      each (i ∷ is) within = (told_one i (within i (inl refl)), each is (λ j there. within j (inr there)))

-- So the list of the segments follows: the messages but those that go, and the parts with one that lists fewer.
pub listing_less : (n : ℕ) (items : List Item) (ps : List QueueSegment) (i : ℕ) (p less : QueueSegment) → standing_at items ≡ listed ps → AreApart (standing_at items) → slice_get ps i ≡ Some p → p.number ≡ n → less.number ≡ n
    → present_of less ≡ filter (λ k. not (contains (going n items) k)) (present_of p) → Rise ps → standing_at (stay_items n items) ≡ listed (set ps i less)
listing_less n items ps i p less listing apart is num own fewer rise =
    standing_less n (going n items) items (all_told n items apart) ∙ ap (filter (stays_listed n (going n items))) listing ∙ listed_less n (going n items) ps i p less is num own fewer rise

-- ---- what still holds afterwards

all_kept : (P Q : Item → Type 0) (n : ℕ) (items : List Item) → AllByRecursion P items → ((i : Item) → goes n i ≡ false → P i → Q i) → AllByRecursion Q (stay_items n items)
all_kept P Q n [] all step = tt
all_kept P Q n (i ∷ is) all step = (elim (goes n i) as (λ (b : Bool). goes n i ≡ b → AllByRecursion Q (cond (not b) (i ∷ stay_items n is) (stay_items n is))) [
  | true ↦ λ own. all_kept P Q n is all.1 step
  | false ↦ λ stays. (step i stays all.0, all_kept P Q n is all.1 step)
]) refl

within_less : (n : ℕ) (items : List Item) (ps : List QueueSegment) (i : ℕ) (p less : QueueSegment) → slice_get ps i ≡ Some p → less.number ≡ p.number → less.small ≡ p.small → AllByRecursion (IsWithin ps) items → AllByRecursion (IsWithin (set ps i less)) (stay_items n items)
within_less n items ps i p less is num small within = all_kept (IsWithin ps) (IsWithin (set ps i less)) n items within (λ j stays was s at kind.
    let near = was s at kind in
    set_all (λ (r : QueueSegment). r.number ≡ s.segment → s.place + j.len + 5 ≤ small_len r) ps i less
    (λ own. subst (λ (o : SmallStore). s.place + j.len + 5 ≤ len_of o) (sym small) (all_at (λ (r : QueueSegment). r.number ≡ s.segment → s.place + j.len + 5 ≤ small_len r) ps i p is near (sym num ∙ own))) near)

split_less : (n : ℕ) (items : List Item) → AreSplit items → AreSplit (stay_items n items)
split_less n [] split = tt
split_less n (i ∷ is) split = (elim (goes n i) as (λ (b : Bool). AreSplit (cond (not b) (i ∷ stay_items n is) (stay_items n is))) [
  | true ↦ split_less n is split.1
  | false ↦ (
    (λ open_one. all_kept (λ (j : Item). is_some j.stand ≡ false) (λ (j : Item). is_some j.stand ≡ false) n is (split.0 open_one) (λ j stays was. was)),
    split_less n is split.1,
  )
])

-- nothing undecided goes
undecided_less : (n : ℕ) (items : List Item) → undecided_items (stay_items n items) ≡ undecided_items items
undecided_less n [] = refl
undecided_less n (i ∷ is) = (elim (goes n i) as (λ (b : Bool). goes n i ≡ b → undecided_items (cond (not b) (i ∷ stay_items n is) (stay_items n is)) ≡ undecided_items (i ∷ is)) [
  | true ↦ λ own.
      let decided : is_some i.stand ≡ true = (and_parts (is_some i.stand) (is_gone i.holder) (and_parts (is_some i.stand && is_gone i.holder) (segment_of i.stand == n) own).0).0 in
      undecided_less n is ∙ sym (ap (λ (b : Bool). cond (not b) (i ∷ undecided_items is) (undecided_items is)) decided)
  | false ↦ λ stays. ap (λ (l : List Item). cond (undecided i) (i ∷ l) l) (undecided_less n is)
]) refl

-- So the messages that stay are tied to the segments.
pub tied_less : (n : ℕ) (items : List Item) (ps : List QueueSegment) (i : ℕ) (p less : QueueSegment) (at : List ℕ) → AreApart (standing_at items) → slice_get ps i ≡ Some p → p.number ≡ n → IsLess p less at → at ≡ going n items → Rise ps → IsTied items ps → IsTied (stay_items n items) (set ps i less)
tied_less n items ps i p less at apart is num has at_is rise tied = record {
  listing = listing_less n items ps i p less tied.listing apart is num (has.number.number ∙ num) (has.index.left ∙ ap (λ (l : List ℕ). filter (λ k. not (contains l k)) (present_of p)) at_is) rise;
  made = set_all IsOpen ps i less (has.index.opened (all_at IsOpen ps i p is tied.made)) tied.made;
  within = within_less n items ps i p less is has.number.number has.small tied.within;
  split = split_less n items tied.split;
  ready = subst (AllByRecursion IsReady) (sym (undecided_less n items)) tied.ready;
}

pub has_contains : (xs : List ℕ) (k : ℕ) → Contains xs k → contains xs k ≡ true
has_contains [] k has = absurd (omega (arith, has.1))
has_contains (x ∷ xs) k (zero, lt, is) = ap (λ (b : Bool). b || contains xs k) (eq-eqb x k is)
has_contains (x ∷ xs) k (suc j, lt, is) = or_true (x == k) (contains xs k) (has_contains xs k (j, omega (arith, lt), is))

module _ (queue : ℕ) (p : QueueSegment) (at : List ℕ) (old new : Name → Option File) (own : p.queue ≡ queue) (others : (n : Name) → n ≢ index_file p → new n ≡ old n) (keeps : KeepsOtherEntries at (index_in old p) (index_in new p)) where
  stand_one : (i : Item) (s : Stand) → (s.segment ≡ p.number → Contains at s.at → ⊥) → IsInPlace queue old i s → IsInPlace queue new i s
  stand_one i s off is = ⊎_elim
      (λ (here : s.segment ≡ p.number).
      let index_is : index_name p.queue p.number ≡ index_name queue s.segment = λ j. index_name (own j) (sym here j) in
      let small_is : small_name p.queue p.number ≡ small_name queue s.segment = λ j. small_name (own j) (sym here j) in
      let small : new (small_file p) ≡ old (small_file p) = others (small_file p) (λ e. apart p.queue p.number p.queue p.number (sym e)) in
      record {
        entry = subst (λ (m : Name). IsAt (content_in (new m)) s.at (entry_at i s)) index_is (keeps s.at (entry_at i s) (off here) (subst (λ (m : Name). IsAt (content_in (old m)) s.at (entry_at i s)) (sym index_is) is.entry));
        record_is = λ kind. subst (λ (m : Name). IsWholeRecord (content_in (new m)) s.place i.len) small_is
            (subst (λ (o : Option File). IsWholeRecord (content_in o) s.place i.len) (sym small) (subst (λ (m : Name). IsWholeRecord (content_in (old m)) s.place i.len) (sym small_is) (is.record_is kind)));
      })
      (λ other. in_other queue p old new (λ n not_small not_index. others n not_index) i s other is)
      (cases_eq s.segment p.number)

  -- And each stands where it stood.
  pub stand_less : (n : ℕ) (items : List Item) → p.number ≡ n → at ≡ going n items → AreApart (standing_at items) → AreInPlace queue old items → AreInPlace queue new (stay_items n items)
  stand_less n items num at_is apart stands = all_kept (λ (i : Item). IsTold n (going n items) i × ((s : Stand) → i.stand ≡ Some s → IsInPlace queue old i s)) (λ (i : Item). (s : Stand) → i.stand ≡ Some s → IsInPlace queue new i s) n items (both (IsTold n (going n items)) (λ (i : Item). (s : Stand) → i.stand ≡ Some s → IsInPlace queue old i s) items (all_told n items apart) stands)
      (λ i remains was s is. stand_one i s (λ here has.
      let there : contains (going n items) s.at ≡ true = subst (λ (l : List ℕ). contains l s.at ≡ true) at_is (has_contains at s.at has) in
      let no_way : (s.segment == n && contains (going n items) s.at) ≡ true = ap (λ (b : Bool). b && contains (going n items) s.at) (eq-eqb s.segment n (here ∙ num)) ∙ there in
      false≢true (sym remains ∙ sym (was.0 s is) ∙ no_way)) (was.1 s is))
    where
      both : (P Q : Item → Type 0) (xs : List Item) → AllByRecursion P xs → AllByRecursion Q xs → AllByRecursion (λ x. P x × Q x) xs
      both P Q [] a b = tt
      both P Q (x ∷ xs) a b = ((a.0, b.0), both P Q xs a.1 b.1)
