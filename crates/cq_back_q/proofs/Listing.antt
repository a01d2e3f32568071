-- Entries that stand at the places that a segment lists are the present ones of its content.
use Prim.Native.Nat.{zero, suc}
use Rattle.std.proofs.Common.{◌≡◌, inl, inr, ℕ, ◌+◌, ◌*◌, ◌/◌, ◌≤◌, ◌<◌, List, [], ◌∷◌, ◌++◌, length, refl, sym, ◌∙◌, ap, subst, arith}
use Rattle.std.specs.Prelude.{All, Contains, slice_index}
use Rattle.std.specs.List.{AllByRecursion, AllZip}
use Rattle.std.specs.List.Sorted.{IsStrictlyIncreasing}
use Rattle.cq_disk.specs.Call.{Image}
use Rattle.cq_journal.specs.Lists.{IsIn}
use Rattle.cq_entry.specs.declared.entry.Entry.{Entry}
use Rattle.cq_entry.specs.declared.entry.Seen.{Seen}
use Rattle.cq_index.specs.Codec.{IsForm, entry_len, most_entries}
use Rattle.cq_index.specs.Opened.{piece_at}
use Rattle.cq_index.specs.Places.{index_name}
use Rattle.cq_index.specs.declared.segment.Segment.{Segment}
use Rattle.cq_index.specs.Segments.{count_of, present_of}
use Rattle.cq_folder.specs.Folder.{AreEntries, present, Spot, spots}
use Rattle.cq_folder.specs.Held.{contents_of}
use Rattle.cq_folder.specs.Holding.{IsAt}
use Rattle.cq_back_q.specs.declared.found.HeldEntry.{HeldEntry}
use Rattle.cq_folder.specs.Queue.{listed_in}
use Rattle.cq_back_q.specs.Found.{places_of}
use Rattle.cq_back_q.specs.Sound.{IsHeldAt}
use Rattle.cq_back_q.proofs.Entries.{AreSmall, Rises, all_wider, entries_from, length-from, present_from, seen_from}

-- the entries of a whole content
abbrev pub seen_in : List ℕ → List Seen
seen_in c = seen_from c 0 (length c / entry_len)

-- The content of a segment's file, as the segment knows it: so many entries of the form, of which these are present.
pub record IsKnown (c : List ℕ) (s : Segment) : Type 0 where
  pub few : count_of s ≤ most_entries
  pub len : length c ≡ entry_len * count_of s
  pub small : AreSmall c
  pub formed : (k : ℕ) → k < count_of s → IsForm (piece_at c k)
  pub listed : (k : ℕ) → k < count_of s → slice_index (piece_at c k) 0 ≡ 1 → Contains (present_of s) k

-- ---- numbers

rising_tail : (x : ℕ) (xs : List ℕ) → IsStrictlyIncreasing (x ∷ xs) → IsStrictlyIncreasing xs
rising_tail x xs rise k lt =
    let e : suc k + 1 ≡ suc (k + 1) = omega arith in
    subst (λ (m : ℕ). slice_index (x ∷ xs) (suc k) < slice_index (x ∷ xs) m) e (rise (suc k) (omega (arith, lt)))

above_head : (x : ℕ) (xs : List ℕ) → IsStrictlyIncreasing (x ∷ xs) → AllByRecursion (λ (y : ℕ). x < y) xs
above_head x [] rise = tt
above_head x (y ∷ xs) rise =
    let first : x < y = rise 0 (omega arith) in
    (first, all_wider (λ (z : ℕ). y < z) (λ (z : ℕ). x < z) xs (λ z lt. omega (arith, lt, first)) (above_head y xs (rising_tail x (y ∷ xs) rise)))

rises : (xs : List ℕ) → IsStrictlyIncreasing xs → Rises xs
rises [] rise = tt
rises (x ∷ xs) rise = (above_head x xs rise, rises xs (rising_tail x xs rise))

all_of : (P : ℕ → Type 0) (xs : List ℕ) → All P xs → AllByRecursion P xs
all_of P [] all = tt
all_of P (x ∷ xs) all = (all 0 x (omega arith), all_of P xs (λ k d lt. all (suc k) d (omega (arith, lt))))

contains_in : (xs : List ℕ) (k : ℕ) → Contains xs k → IsIn xs k
contains_in [] k (j, lt, is) = absurd (omega (arith, lt))
contains_in (x ∷ xs) k (zero, lt, is) = inl is
contains_in (x ∷ xs) k (suc j, lt, is) = inr (contains_in xs k (j, omega (arith, lt), is))

-- ---- one content

module _ (c : List ℕ) (s : Segment) (known : IsKnown c s) where
  counted : length c / entry_len ≡ count_of s
  counted = let len = known.len in omega (arith, len)

  pub whole : AreEntries c (seen_in c)
  whole = subst (λ (n : ℕ). AreEntries c (seen_from c 0 n)) (sym counted)
      (let len = known.len in entries_from c 0 (count_of s) (omega (arith, len)) known.small (λ k lt. known.formed k (omega (arith, lt))))

  pub seen_few : length (seen_in c) ≤ most_entries
  seen_few = let len = length-from c 0 (length c / entry_len) in let few = known.few in omega (arith, len, counted, few)

  pub listed_present : (es : List Entry) → AllZip (IsAt c) (present_of s) es → present (seen_in c) ≡ es
  listed_present es zip = ap (λ (n : ℕ). present (seen_from c 0 n)) counted
      ∙ present_from c 0 (count_of s) (present_of s) es zip (rises (present_of s) s.rising) low high (λ k from to one. contains_in (present_of s) k (known.listed k (omega (arith, to)) one))
    where
      below : AllByRecursion (λ (k : ℕ). k < count_of s) (present_of s)
      below = all_of (λ (k : ℕ). k < count_of s) (present_of s) s.below

      high : AllByRecursion (λ (k : ℕ). k < 0 + count_of s) (present_of s)
      high = all_wider (λ (k : ℕ). k < count_of s) (λ (k : ℕ). k < 0 + count_of s) (present_of s) (λ k lt. omega (arith, lt)) below

      low : AllByRecursion (λ (k : ℕ). 0 ≤ k) (present_of s)
      low = all_wider (λ (k : ℕ). k < count_of s) (λ (k : ℕ). 0 ≤ k) (present_of s) (λ k lt. omega arith) below

-- ---- entries that are held

abbrev pub entries_of : List HeldEntry → List Entry
entries_of [] = []
entries_of (h ∷ held) = h.entry ∷ entries_of held

abbrev pub spots_of : List HeldEntry → List Spot
spots_of [] = []
spots_of (h ∷ held) = record { segment = h.segment; entry = h.entry } ∷ spots_of held

-- an entry of the queue that stands at its place
pub record IsOwn (queue : ℕ) (image : Image) (h : HeldEntry) : Type 0 where
  pub of_queue : h.queue ≡ queue
  pub at : IsHeldAt image h

head_of : {A : Type 0} (x y : A) (xs ys : List A) → x ∷ xs ≡ y ∷ ys → x ≡ y
head_of x y xs ys e = cc

tail_of : {A : Type 0} (x y : A) (xs ys : List A) → x ∷ xs ≡ y ∷ ys → xs ≡ ys
tail_of x y xs ys e = cc

pub nil_cons : {A : Type 0} (x : A) (xs : List A) → [] ≡ x ∷ xs → ⊥
nil_cons x xs e = cc

module _ (queue : ℕ) (image : Image) (n : ℕ) where
  pub stand_at : (ks : List ℕ) (held : List HeldEntry) → places_of held ≡ listed_in n ks → AllByRecursion (IsOwn queue image) held
      → AllZip (IsAt (contents_of image (index_name queue n))) ks (entries_of held) × (spots_of held ≡ spots n (entries_of held))
  stand_at [] [] is all = (tt, refl)
  stand_at [] (h ∷ held) is all = absurd (nil_cons _ _ (sym is))
  stand_at (k ∷ ks) [] is all = absurd (nil_cons _ _ is)
  stand_at (k ∷ ks) (h ∷ held) is all =
      let here : (h.segment, h.at) ≡ (n, k) = head_of (h.segment, h.at) (n, k) (places_of held) (listed_in n ks) is in
      let rest = stand_at ks held (tail_of (h.segment, h.at) (n, k) (places_of held) (listed_in n ks) is) all.1 in
      let segment : h.segment ≡ n = ap (λ (p : ℕ × ℕ). p.0) here in
      let at : h.at ≡ k = ap (λ (p : ℕ × ℕ). p.1) here in
      let by_queue = subst (λ (q : ℕ). IsAt (contents_of image (index_name q h.segment)) h.at h.entry) all.0.of_queue all.0.at in
      let by_segment = subst (λ (m : ℕ). IsAt (contents_of image (index_name queue m)) h.at h.entry) segment by_queue in (
        (subst (λ (j : ℕ). IsAt (contents_of image (index_name queue n)) j h.entry) at by_segment, rest.0),
        ap (λ (m : ℕ). record { segment = m; entry = h.entry } ∷ spots_of held) segment ∙ ap (λ (l : List Spot). record { segment = n; entry = h.entry } ∷ l) rest.1,
      )

-- entries that are held, in two parts
pub record Parts (held : List HeldEntry) (here more : List (ℕ × ℕ)) : Type 0 where
  pub front : List HeldEntry
  pub back : List HeldEntry
  pub is : held ≡ front ++ back
  pub first : places_of front ≡ here
  pub rest : places_of back ≡ more

pub parts_of : (held : List HeldEntry) (here more : List (ℕ × ℕ)) → places_of held ≡ here ++ more → Parts held here more
parts_of held [] more is = record { front = []; back = held; is = refl; first = refl; rest = is }
parts_of [] (p ∷ here) more is = absurd (nil_cons _ _ is)
parts_of (h ∷ held) (p ∷ here) more is =
    let parts = parts_of held here more (tail_of (h.segment, h.at) p (places_of held) (here ++ more) is) in
    let same : (h.segment, h.at) ≡ p = head_of (h.segment, h.at) p (places_of held) (here ++ more) is in
    record {
      front = h ∷ parts.front;
      back = parts.back;
      is = ap (λ (l : List HeldEntry). h ∷ l) parts.is;
      first = (let rest = parts.first in λ i. same i ∷ rest i);
      rest = parts.rest;
    }
