-- The messages that present entries give, and what ties them to the segments.
use Rattle.std.proofs.Common.{◌≡◌, ◌∙◌, ℕ, zero, suc, ◌+◌, ◌-◌, ◌*◌, ◌<◌, ◌≤◌, Bool, true, false, not, cond, List, [], ◌∷◌, ◌++◌, length, filter, map, take, drop, Option, Some, None, refl, sym, ap, subst, arith, inl, inr}
use Rattle.std.specs.Prelude.{All, Contains, option_map, is_some, slice_get, ◌&&◌}
use Rattle.std.specs.List.{AllByRecursion, AllZip}
use Rattle.std.proofs.lemmas.Bool.{and_parts, cases_Bool, cond-true, cond-false, false≢true}
use Rattle.std.proofs.lemmas.List.{append-nil, append_assoc}
use Rattle.std.proofs.lemmas.List.Elements.{All-contains_itself, All-head, All-tail, filter-append}
use Rattle.std.proofs.lemmas.Option.{none-some, same_Some, slice_get-map}
use Rattle.cq_disk.specs.declared.name.Name.{Name}
use Rattle.cq_disk.specs.File.{File}
use Rattle.cq_entry.specs.declared.entry.Entry.{Entry}
use Rattle.cq_entry.specs.declared.entry.EntryKind.TheVariants.{Small}
use Rattle.cq_small.specs.Store.{small_name}
use Rattle.cq_index.specs.Places.{index_name}
use Rattle.cq_index.specs.Segments as index
use Rattle.cq_folder.specs.Holding.{IsAt}
use Rattle.cq_folder.specs.Queue.{content_in, listed_in}
use Rattle.cq_items.specs.Item.{Item}
use Rattle.cq_items.specs.declared.item.Stand.{Stand}
use Rattle.cq_items.specs.Items.{at_of, committed, found_item, fresh_items, segment_of, undecided, undecided_items}
use Rattle.cq_items.specs.Queue.{Queue}
use Rattle.cq_queue.specs.declared.segment.QueueSegment.{QueueSegment}
use Rattle.cq_queue.specs.QueueSegment.{IsOpen, index_in, present_of, small_len}
use Rattle.cq_queue.specs.Lists.{AreSegments, Rise}
use Rattle.cq_queue.specs.Passing.{IsReady}
use Rattle.cq_queue.specs.Tied.{entry_at, AreInPlace, AreSplit, IsInPlace, IsTied, IsWholeRecord, IsWithin, listed, standing_at}
use Rattle.cq_queue.specs.Opening.{FindsMore, HasFound, HasRecords, IsFound, LiesIn, found_of, listed_as, record_of}
use Rattle.cq_queue.proofs.Changes.{all_append, all_at}
use Rattle.cq_queue.proofs.Alike.{standing_append}

-- ---- a message that was never handed out is committed

passing : {A : Type 0} (p : A → Bool) (xs : List A) → AllByRecursion (λ x. p x ≡ true) (filter p xs)
passing p [] = tt
passing p (x ∷ xs) = elim (cases_Bool (p x)) [
  | inl t ↦ subst (AllByRecursion (λ y. p y ≡ true)) (sym (cond-true (p x) (x ∷ filter p xs) (filter p xs) t)) (t, passing p xs)
  | inr f ↦ subst (AllByRecursion (λ y. p y ≡ true)) (sym (cond-false (p x) (x ∷ filter p xs) (filter p xs) f)) (passing p xs)
]

pub fresh_stands : (items : List Item) (at : ℕ) (i : Item) → slice_get (fresh_items items) at ≡ Some i → is_some i.stand ≡ true
fresh_stands items at i is = (and_parts (committed i) i.fresh (all_at (λ (j : Item). (committed j && j.fresh) ≡ true) (fresh_items items) at i is (passing (λ (j : Item). committed j && j.fresh) items))).0

-- ---- one entry more

pub found_more : (n : ℕ) (ks : List ℕ) (es : List Entry) (i k : ℕ) (e : Entry) → slice_get ks i ≡ Some k → slice_get es i ≡ Some e
    → found_of n (take (suc i) ks) (take (suc i) es) ≡ found_of n (take i ks) (take i es) ++ found_of n (k ∷ []) (e ∷ [])
found_more n [] es i k e at is = absurd (none-some k at)
found_more n (j ∷ ks) [] i k e at is = absurd (none-some e is)
found_more n (j ∷ ks) (d ∷ es) zero k e at is = ap (λ (y : ℕ). found_of n (y ∷ []) (d ∷ [])) (same_Some j k at) ∙ ap (λ (y : Entry). found_of n (k ∷ []) (y ∷ [])) (same_Some d e is)
found_more n (j ∷ ks) (d ∷ es) (suc i) k e at is = ap (λ (is : List Item). found_item d.id d.kind d.len (record { segment = n; at = j; place = d.place }) ∷ is) (found_more n ks es i k e at is)

pub found_decided : (n : ℕ) (ks : List ℕ) (es : List Entry) → undecided_items (found_of n ks es) ≡ []
found_decided n [] es = refl
found_decided n (k ∷ ks) [] = refl
found_decided n (k ∷ ks) (e ∷ es) = found_decided n ks es

pub still_decided : (items : List Item) (n : ℕ) (ks : List ℕ) (es : List Entry) → undecided_items items ≡ [] → undecided_items (items ++ found_of n ks es) ≡ []
still_decided items n ks es none = filter-append undecided items (found_of n ks es) ∙ ap (λ (is : List Item). is ++ undecided_items (found_of n ks es)) none ∙ found_decided n ks es

-- ---- what they are

pub found_standing : (n : ℕ) (ks : List ℕ) (es : List Entry) → length es ≡ length ks → standing_at (found_of n ks es) ≡ listed_in n ks
found_standing n [] es long = refl
found_standing n (k ∷ ks) [] long = absurd (omega (arith, long))
found_standing n (k ∷ ks) (e ∷ es) long = ap (λ (xs : List (ℕ × ℕ)). (n, k) ∷ xs) (found_standing n ks es (omega (arith, long)))

pub found_are : (n : ℕ) (ks : List ℕ) (es : List Entry) → AllByRecursion IsFound (found_of n ks es)
found_are n [] es = tt
found_are n (k ∷ ks) [] = tt
found_are n (k ∷ ks) (e ∷ es) = (record { stands = refl; waits = refl; fresh = refl }, found_are n ks es)

pub none_undecided : (items : List Item) → AllByRecursion IsFound items → undecided_items items ≡ []
none_undecided [] are = refl
none_undecided (i ∷ is) are = cond-false (undecided i) (i ∷ undecided_items is) (undecided_items is) (ap not are.0.stands) ∙ none_undecided is are.1

-- ---- the segments so far

pub listed_more : (list : List QueueSegment) (i : ℕ) (s : QueueSegment) → slice_get list i ≡ Some s → listed (take (suc i) list) ≡ listed (take i list) ++ listed_in s.number (present_of s)
listed_more [] i s is = absurd (none-some s is)
listed_more (p ∷ list) zero s is = append-nil (listed_in p.number (present_of p)) ∙ ap (λ (r : QueueSegment). listed_in r.number (present_of r)) (same_Some p s is)
listed_more (p ∷ list) (suc i) s is =
    ap (λ (xs : List (ℕ × ℕ)). listed_in p.number (present_of p) ++ xs) (listed_more list i s is)
    ∙ sym (append_assoc (listed_in p.number (present_of p)) (listed (take i list)) (listed_in s.number (present_of s)))

above_near : (n end : ℕ) (list : List QueueSegment) → AllByRecursion (λ (r : QueueSegment). n < r.number) list → AllByRecursion (λ (r : QueueSegment). r.number ≡ n → end ≤ small_len r) list
above_near n end [] above = tt
above_near n end (r ∷ list) above = ((λ same. let a = above.0 in absurd (omega (arith, a, same))), above_near n end list above.1)

near : (end : ℕ) (list : List QueueSegment) (i : ℕ) (s : QueueSegment) → Rise list → slice_get list i ≡ Some s → end ≤ small_len s → AllByRecursion (λ (r : QueueSegment). r.number ≡ s.number → end ≤ small_len r) list
near end [] i s rise is inside = absurd (none-some s is)
near end (p ∷ list) zero s rise is inside = (
  (λ same. subst (λ (r : QueueSegment). end ≤ small_len r) (sym (same_Some p s is)) inside),
  above_near s.number end list (subst (λ (r : QueueSegment). AllByRecursion (λ (x : QueueSegment). r.number < x.number) list) (same_Some p s is) rise.0),
)
near end (p ∷ list) (suc i) s rise is inside = (
  (λ same. let below = all_at (λ (r : QueueSegment). p.number < r.number) list i s is rise.0 in absurd (omega (arith, below, same))),
  near end list i s rise.1 is inside,
)

module _ (list : List QueueSegment) (i : ℕ) (s : QueueSegment) (rise : Rise list) (is : slice_get list i ≡ Some s) where
  pub found_within : (ks : List ℕ) (es : List Entry) → All (LiesIn (small_len s)) es → AllByRecursion (IsWithin list) (found_of s.number ks es)
  found_within [] es lie = tt
  found_within (k ∷ ks) [] lie = tt
  found_within (k ∷ ks) (e ∷ es) lie = (
    (λ t stands small. subst (λ (u : Stand). AllByRecursion (λ (r : QueueSegment). r.number ≡ u.segment → u.place + e.len + 5 ≤ small_len r) list) (same_Some (here k e) t stands)
        (near (e.place + e.len + 5) list i s rise is (All-head (LiesIn (small_len s)) e es lie small).1)),
    found_within ks es (All-tail (LiesIn (small_len s)) e es lie),
  )
    where
      here : ℕ → Entry → Stand
      here j d = record { segment = s.number; at = j; place = d.place }

module _ (queue : ℕ) (files : Name → Option File) (s : QueueSegment) (own : s.queue ≡ queue) (has : HasRecords queue files s.index) where
  index_is : index.name_of s.index ≡ index_name queue s.number
  index_is = s.index_named ∙ ap (λ (q : ℕ). index_name q s.number) own

  content_is : index_in files s ≡ content_in (files (index_name queue s.number))
  content_is = ap (λ (q : ℕ). content_in (files (index_name q s.number))) own

  pub record_there : (k : ℕ) (e : Entry) → Contains (present_of s) k → IsAt (index_in files s) k e → e.kind ≡ Small → IsWholeRecord (content_in (files (small_name queue s.number))) e.place e.len
  record_there k e listed at small = subst (λ (n : ℕ). IsWholeRecord (content_in (files (small_name queue n))) e.place e.len) (ap (λ (n : Name). n.number) index_is)
      (has k listed e (subst (λ (c : List ℕ). IsAt c k e) (content_is ∙ ap (λ (n : Name). content_in (files n)) (sym index_is)) at) small)

  one_in_place : (k : ℕ) (e : Entry) → Contains (present_of s) k → IsAt (index_in files s) k e → (t : Stand) → Some (record { segment = s.number; at = k; place = e.place }) ≡ Some t
      → IsInPlace queue files (found_item e.id e.kind e.len (record { segment = s.number; at = k; place = e.place })) t
  one_in_place k e listed at t stands = subst (IsInPlace queue files (found_item e.id e.kind e.len here)) (same_Some here t stands) (record {
    entry = subst (λ (c : List ℕ). IsAt c k e) content_is at;
    record_is = record_there k e listed at;
  })
    where
      here : Stand
      here = record { segment = s.number; at = k; place = e.place }

  pub found_in_place : (ks : List ℕ) (es : List Entry) → All (Contains (present_of s)) ks → AllZip (λ k e. IsAt (index_in files s) k e) ks es → AreInPlace queue files (found_of s.number ks es)
  found_in_place [] es listed at = tt
  found_in_place (k ∷ ks) [] listed at = tt
  found_in_place (k ∷ ks) (e ∷ es) listed at = (
    one_in_place k e (All-head (Contains (present_of s)) k ks listed) at.0,
    found_in_place ks es (All-tail (Contains (present_of s)) k ks listed) at.1,
  )

pub opens_none : (Told : Type 0) (queue : ℕ) (files : Name → Option File) (list : List QueueSegment) → HasFound Told queue files list [] (record { items = []; reserved = 0 })
opens_none Told queue files list = record { reserved = refl; listing = refl; found = tt; within = tt; stands = λ told. tt }

pub opens_more : (Told : Type 0) (queue : ℕ) (files : Name → Option File) (list : List QueueSegment) (i : ℕ) (s : QueueSegment) (old new : Queue) → AreSegments queue list → slice_get list i ≡ Some s
    → (Told → HasRecords queue files s.index) → HasFound Told queue files list (take i list) old → FindsMore Told files s old new → HasFound Told queue files list (take (suc i) list) new
opens_more Told queue files list i s old new are is has so_far finds =
    let more : List Item = found_of s.number (present_of s) finds.entries in
    let own : s.queue ≡ queue = all_at (λ (r : QueueSegment). r.queue ≡ queue) list i s is are.0 in
    subst (λ (q : Queue). HasFound Told queue files list (take (suc i) list) q) (sym finds.queue) (record {
      reserved = refl;
      listing = standing_append old.items more ∙ ap (λ (xs : List (ℕ × ℕ)). xs ++ standing_at more) so_far.listing
          ∙ ap (λ (xs : List (ℕ × ℕ)). listed (take i list) ++ xs) (found_standing s.number (present_of s) finds.entries finds.len) ∙ sym (listed_more list i s is);
      found = all_append IsFound old.items more so_far.found (found_are s.number (present_of s) finds.entries);
      within = all_append (IsWithin list) old.items more so_far.within (found_within list i s are.1 is (present_of s) finds.entries finds.within);
      stands = λ told. all_append (λ (j : Item). (t : Stand) → j.stand ≡ Some t → IsInPlace queue files j t) old.items more (so_far.stands told)
          (found_in_place queue files s own (has told) (present_of s) finds.entries (All-contains_itself (present_of s)) (finds.stand told));
    })

-- ---- all of them

split_found : (items : List Item) → AllByRecursion IsFound items → AreSplit items
split_found [] are = tt
split_found (i ∷ is) are = ((λ none. absurd (false≢true (sym none ∙ are.0.stands))), split_found is are.1)

pub opened_tied : (Told : Type 0) (queue : ℕ) (files : Name → Option File) (list : List QueueSegment) (q : Queue) → AllByRecursion IsOpen list → HasFound Told queue files list list q → IsTied q.items list
opened_tied Told queue files list q opens are = record {
  listing = are.listing;
  made = opens;
  within = are.within;
  split = split_found q.items are.found;
  ready = subst (AllByRecursion IsReady) (sym (none_undecided q.items are.found)) tt;
}

-- the message that is told of is the one at its place
pub shown_is : (queue : ℕ) (items : List Item) (at : ℕ) (i : Item) (t : Stand) → slice_get (fresh_items items) at ≡ Some i → i.stand ≡ Some t
    → slice_get (map (listed_as queue) (fresh_items items)) at ≡ Some (index_name queue t.segment, t.at, entry_at i t)
shown_is queue items at i t is stands = slice_get-map (listed_as queue) (fresh_items items) at ∙ ap (option_map (listed_as queue)) is
    ∙ ap (λ (o : Option Stand). Some (index_name queue (segment_of o), at_of o, record { kind = i.kind; len = i.len; id = i.id; place = record_of o })) stands
