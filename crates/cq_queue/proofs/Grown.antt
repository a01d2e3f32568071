-- The messages of a queue and its segments are tied after a commit.
use Rattle.std.proofs.Common.{◌≡◌, ℕ, ◌+◌, ◌<◌, ◌≤◌, List, [], ◌∷◌, ◌++◌, length, Option, Some, None, sym, ap, ◌∙◌, subst, arith, append_assoc}
use Rattle.std.specs.Prelude.{IsSome}
use Rattle.std.specs.List.{AllByRecursion}
use Rattle.cq_gate.specs.declared.gate.Gate.{Gate}
use Rattle.cq_entry.specs.declared.entry.EntryKind.{EntryKind}
use Rattle.cq_entry.specs.declared.entry.EntryKind.TheVariants.{Small, Shared as SharedEntry}
use Rattle.cq_small.specs.declared.store.SmallStore.{SmallStore}
use Rattle.cq_small.specs.Store.{len_of}
use Rattle.cq_items.specs.Item.{Item}
use Rattle.cq_items.specs.declared.item.Stand.{Stand}
use Rattle.cq_items.specs.Items.{undecided_items}
use Rattle.cq_queue.specs.declared.segment.QueueSegment.{QueueSegment}
use Rattle.cq_queue.specs.Laid.{place_of, next_of}
use Rattle.cq_queue.specs.Lists.{AreBelow, AreSame, IsPicked}
use Rattle.cq_queue.specs.Lists.IsPicked.{Last, Next, First}
use Rattle.cq_queue.specs.Passing.{IsReady, bytes_of, commit_items, kept_items}
use Rattle.cq_queue.specs.QueueSegment.{IsMore, IsOpen, IsSame, SameNumber, count_of, end_of, present_of, small_len}
use Rattle.cq_folder.specs.Queue.{listed_in}
use Rattle.cq_queue.specs.Tied.{IsTied, IsWithin, listed, listing_of, standing_at}
use Rattle.cq_queue.proofs.Changes.{all_append, all_front, all_back, some_same}
use Rattle.cq_queue.proofs.Committed.{Comes, commit_all, commit_lists, commit_split, commit_undecided}
use Rattle.cq_queue.proofs.Picked.{Climbs, listed_append, listed_in-append, picked_listed, present_more, right_nil, upto}

-- ---- the segments before and after

pub all_same : (P : QueueSegment → Type 0) → ((s r : QueueSegment) → IsSame s r → P s → P r) → (a b : List QueueSegment) → AreSame a b → AllByRecursion P a → AllByRecursion P b
all_same P to [] [] same all = tt
all_same P to [] (r ∷ b) same all = absurd same
all_same P to (s ∷ a) [] same all = absurd same
all_same P to (s ∷ a) (r ∷ b) same all = (to s r same.0 all.0, all_same P to a b same.1 all.1)

below_back : (n : ℕ) (a b : List QueueSegment) → AreSame a b → AreBelow n b → AreBelow n a
below_back n [] [] same all = tt
below_back n [] (r ∷ b) same all = absurd same
below_back n (s ∷ a) [] same all = absurd same
below_back n (s ∷ a) (r ∷ b) same all = (subst (λ (k : ℕ). k < n) same.0.number.number all.0, below_back n a b same.1 all.1)

-- what holds of each of a queue's segments holds of those beside the picked one
picked_front : (P : QueueSegment → Type 0) → ((s r : QueueSegment) → IsSame s r → P s → P r) → (queue most : ℕ) (old front : List QueueSegment) (segment : QueueSegment) → IsPicked queue most old front segment → AllByRecursion P old → AllByRecursion P front
picked_front P to queue most old front segment (Last last is same less) all = all_front P front (last ∷ []) (subst (AllByRecursion P) is all)
picked_front P to queue most old front segment (Next before last is full same fresh) all = all_same P to old front same all
picked_front P to queue most old front segment (First is none fresh) all = subst (AllByRecursion P) (sym none) tt

pub open_same : (s r : QueueSegment) → IsSame s r → IsOpen s → IsOpen r
open_same s r same is = subst (λ (g : Option Gate). IsSome g) (sym same.index.gate) is

-- ---- which segments messages stand in

listed_below : (n m : ℕ) (ks : List ℕ) → m < n → AllByRecursion (λ (q : ℕ × ℕ). q.0 < n) (listed_in m ks)
listed_below n m [] less = tt
listed_below n m (k ∷ ks) less = (less, listed_below n m ks less)

all_listed : (n : ℕ) (list : List QueueSegment) → AreBelow n list → AllByRecursion (λ (q : ℕ × ℕ). q.0 < n) (listed list)
all_listed n [] below = tt
all_listed n (s ∷ list) below = all_append (λ (q : ℕ × ℕ). q.0 < n) (listed_in s.number (present_of s)) (listed list) (listed_below n s.number (present_of s) below.0) (all_listed n list below.1)

abbrev StandsBelow : ℕ → Item → Type 0
StandsBelow n i = (s : Stand) → i.stand ≡ Some s → s.segment < n

none_some : {A : Type 0} (a : A) → None ≡ Some a → ⊥
none_some a e = cc

one_below : (n : ℕ) (o : Option Stand) → AllByRecursion (λ (q : ℕ × ℕ). q.0 < n) (listing_of o) → (s : Stand) → o ≡ Some s → s.segment < n
one_below n None all s is = absurd (none_some s is)
one_below n (Some t) all s is = subst (λ (u : Stand). u.segment < n) (some_same t s is) all.0

all_stand_below : (n : ℕ) (items : List Item) → AllByRecursion (λ (q : ℕ × ℕ). q.0 < n) (standing_at items) → AllByRecursion (StandsBelow n) items
all_stand_below n [] all = tt
all_stand_below n (i ∷ is) all = (
  one_below n i.stand (all_front (λ (q : ℕ × ℕ). q.0 < n) (listing_of i.stand) (standing_at is) all),
  all_stand_below n is (all_back (λ (q : ℕ × ℕ). q.0 < n) (listing_of i.stand) (standing_at is) all),
)

-- ---- within the small stores

next_sum : (kind : EntryKind) (base len : ℕ) → next_of kind base len ≡ base + next_of kind 0 len
next_sum Small base len = omega arith
next_sum SharedEntry base len = omega arith

abbrev pub IsLong : ℕ → ℕ → QueueSegment → Type 0
IsLong n end p = p.number ≡ n → end ≤ small_len p

pub long_same : (n end : ℕ) (s r : QueueSegment) → IsSame s r → IsLong n end s → IsLong n end r
long_same n end s r same long is = subst (λ (k : SmallStore). end ≤ len_of k) (sym same.small) (long (sym same.number.number ∙ is))

module _ (queue most : ℕ) (old front : List QueueSegment) (segment last : QueueSegment) (more bytes : ℕ) (picked : IsPicked queue most old front segment) (below : AreBelow segment.number front) (number : SameNumber segment last) (grown : IsMore segment last more bytes) where
  -- a new segment's number is above all others
  of_pick : (n end : ℕ) → AllByRecursion (IsLong n end) old → ((s : ℕ) → AreBelow s old → n < s) → IsPicked queue most old front segment → IsLong n end last
  of_pick n end all under (Last before is same less) = λ at.
      let long : end ≤ small_len before = (all_back (IsLong n end) front (before ∷ []) (subst (AllByRecursion (IsLong n end)) is all)).0 (sym same.number.number ∙ sym number.number ∙ at) in
      let kept : small_len segment ≡ small_len before = ap (λ (k : SmallStore). len_of k) same.small in
      let longer = grown.longer in
      omega (arith, long, kept, longer)
  of_pick n end all under (Next others before is full same fresh) = λ at.
      let less : n < segment.number = under segment.number (below_back segment.number old front same below) in
      let e : segment.number ≡ n = sym number.number ∙ at in
      absurd (omega (arith, less, e))
  of_pick n end all under (First is none fresh) = λ at.
      let less : n < segment.number = under segment.number (subst (AreBelow segment.number) (sym is) tt) in
      let e : segment.number ≡ n = sym number.number ∙ at in
      absurd (omega (arith, less, e))

  old_long : (n end : ℕ) → AllByRecursion (IsLong n end) old → ((s : ℕ) → AreBelow s old → n < s) → IsLong n end last
  old_long n end all under = of_pick n end all under picked

  one_within : (i : Item) → IsWithin old i → ((s : ℕ) → AreBelow s old → StandsBelow s i) → IsWithin (front ++ last ∷ []) i
  one_within i within under s at small =
      let end : ℕ = s.place + i.len + 5 in
      all_append (IsLong s.segment end) front (last ∷ [])
      (picked_front (IsLong s.segment end) (long_same s.segment end) queue most old front segment picked (within s at small))
      (old_long s.segment end (within s at small) (λ n all. under n all s at), tt)

  all_within : (items : List Item) → AllByRecursion (IsWithin old) items → ((s : ℕ) → AreBelow s old → AllByRecursion (StandsBelow s) items) → AllByRecursion (IsWithin (front ++ last ∷ [])) items
  all_within [] within under = tt
  all_within (i ∷ is) within under = (one_within i within.0 (λ s all. (under s all).0), all_within is within.1 (λ s all. (under s all).1))

  -- no other segment has the number
  front_long : (end : ℕ) (list : List QueueSegment) → AreBelow segment.number list → AllByRecursion (IsLong segment.number end) list
  front_long end [] all = tt
  front_long end (p ∷ list) all = ((λ is. (let less = all.0 in absurd (omega (arith, less, is)))), front_long end list all.1)

  come_within : (at place : ℕ) (ks : List Item) → place + bytes_of ks ≤ end_of last → (0 < bytes_of ks → 0 < bytes) → Comes (IsWithin (front ++ last ∷ [])) segment.number at place ks
  come_within at place [] fits some = tt
  come_within at place (i ∷ ks) fits some =
      let n : ℕ = next_of i.kind 0 i.len in
      let here : Stand = record { segment = segment.number; at = at; place = place_of i.kind place } in (
        (λ (s : Stand) is_at small.
            let own : n ≡ 0 + i.len + 5 = ap (λ (k : EntryKind). next_of k 0 i.len) small in
            let place_is : place_of i.kind place ≡ place = ap (λ (k : EntryKind). place_of k place) small in
            let room = grown.room (some (omega (arith, own))) in
            let end : place_of i.kind place + i.len + 5 ≤ small_len last = omega (arith, place_is, own, fits, room) in
            subst (λ (t : Stand). AllByRecursion (IsLong t.segment (t.place + i.len + 5)) (front ++ last ∷ [])) (some_same here s is_at)
            (all_append (IsLong segment.number (place_of i.kind place + i.len + 5)) front (last ∷ []) (front_long (place_of i.kind place + i.len + 5) front below) ((λ is. end), tt))),
        come_within (at + 1) (next_of i.kind place i.len) ks (let s = next_sum i.kind place i.len in omega (arith, fits, s)) (λ more_some. some (omega (arith, more_some))),
      )

  -- so they are tied
  pub grown_tied : (skip : List ℕ) (room place : ℕ) (items : List Item) → place ≡ end_of segment → more ≡ length (kept_items skip room (undecided_items items)) → bytes ≡ bytes_of (kept_items skip room (undecided_items items))
      → Climbs (present_of segment) → Climbs (present_of last) → AllByRecursion (λ (k : ℕ). k < count_of segment) (present_of segment)
      → IsTied items old → IsTied (commit_items skip room segment.number (count_of segment) place items) (front ++ last ∷ [])
  grown_tied skip room place items place_is more_is bytes_is rise_old rise_new low tied =
      let ks = kept_items skip room (undecided_items items) in
      let present : present_of last ≡ present_of segment ++ upto (count_of segment) (length ks) = present_more segment last more bytes rise_old rise_new low grown ∙ ap (λ (n : ℕ). present_of segment ++ upto (count_of segment) n) more_is in
      record {
        listing =
            commit_lists skip segment.number room (count_of segment) place items tied.split
            ∙ ap (λ l. l ++ listed_in segment.number (upto (count_of segment) (length ks))) (tied.listing ∙ picked_listed queue most old front segment picked)
            ∙ append_assoc (listed front) (listed_in segment.number (present_of segment)) (listed_in segment.number (upto (count_of segment) (length ks)))
            ∙ ap (λ l. listed front ++ l) (sym (listed_in-append segment.number (present_of segment) (upto (count_of segment) (length ks))) ∙ ap (listed_in segment.number) (sym present) ∙ ap (λ (n : ℕ). listed_in n (present_of last)) (sym number.number) ∙ sym (right_nil (listed_in last.number (present_of last))))
            ∙ sym (listed_append front (last ∷ []));
        made = all_append IsOpen front (last ∷ []) (picked_front IsOpen open_same queue most old front segment picked tied.made) (grown.is_open, tt);
        within = commit_all skip segment.number (IsWithin (front ++ last ∷ [])) room (count_of segment) place items
            (all_within items tied.within (λ s all. all_stand_below s items (subst (AllByRecursion (λ (q : ℕ × ℕ). q.0 < s)) (sym tied.listing) (all_listed s old all))))
            (come_within (count_of segment) place ks (let e = grown.end in omega (arith, e, place_is, bytes_is)) (λ some. omega (arith, some, bytes_is)));
        split = commit_split skip segment.number room (count_of segment) place items tied.split;
        ready = commit_undecided skip segment.number IsReady room (count_of segment) place items tied.ready;
      }
