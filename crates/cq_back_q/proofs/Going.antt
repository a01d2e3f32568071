-- How the reading goes on, from one entry and from one segment to the next.
use Rattle.std.proofs.Common.{◌≡◌, ◌⊎◌, ◌∙◌, inl, inr, ⊎_elim, ℕ, zero, suc, ◌+◌, ◌<◌, List, [], ◌∷◌, ◌++◌, length, take, get_or, Option, Some, None, Result, Ok, Err, refl, sym, ap, subst, arith}
use Rattle.std.specs.Prelude.{IfErr}
use Rattle.std.specs.List.{AllByRecursion, AllPairs, AllZip}
use Rattle.std.proofs.lemmas.List.{append-nil, append_assoc}
use Rattle.std.proofs.lemmas.List.Kept.{AllPairs-from_increasing}
use Rattle.std.proofs.lemmas.Option.{none-some}
use Rattle.cq_disk.specs.declared.disk.Disk.{Ghosts}
use Rattle.cq_disk.specs.declared.name.Name.{Name}
use Rattle.cq_disk.specs.File.{File}
use Rattle.cq_disk.specs.Files.{Among, SameFiles}
use Rattle.cq_gate.specs.declared.gate.Gate.{Gate}
use Rattle.cq_gate.specs.Format.{content}
use Rattle.cq_gate.proofs.Gates.{end_is}
use Rattle.cq_entry.specs.declared.entry.Entry.{Entry}
use Rattle.cq_entry.specs.Entry.{IsPresent}
use Rattle.cq_small.specs.declared.store.SmallStore.{SmallStore}
use Rattle.cq_small.specs.Store as small
use Rattle.cq_index.specs.declared.error.SegmentError.{SegmentError}
use Rattle.cq_index.specs.declared.error.SegmentError.TheVariants.{Fault as segment_fault, Memory as segment_memory, Damaged as segment_damaged}
use Rattle.cq_index.specs.declared.segment.Segment.{Segment}
use Rattle.cq_index.specs.Opened.{IfDamaged as IfSegmentDamaged}
use Rattle.cq_index.specs.Places.{entry_at, index_name}
use Rattle.cq_index.specs.Segments.{IsFiled, count_of, name_of, present_of}
use Rattle.cq_index.proofs.Entries.{entry_in}
use Rattle.cq_bulk.specs.declared.bodies.Bodies.{Bodies}
use Rattle.cq_bulk.specs.Bodies.{IsWindow}
use Rattle.cq_bulk.specs.Entries.{AreRead, IsMisreadOf}
use Rattle.cq_folder.specs.Held.{as_read, bytes_in, content_of}
use Rattle.cq_folder.specs.Holding.{IsAt}
use Rattle.cq_folder.proofs.Below.{all_append}
use Rattle.cq_back_q.specs.declared.found.HeldEntry.{HeldEntry}
use Rattle.cq_back_q.specs.declared.error.BackError.{BackError}
use Rattle.cq_back_q.specs.declared.error.BackError.TheVariants.{Fault, Memory, Damaged}
use Rattle.cq_back_q.specs.declared.taken.Taken.{Taken}
use Rattle.cq_folder.specs.Queue.{listed_in}
use Rattle.cq_back_q.specs.Found.{places_of}
use Rattle.cq_back_q.specs.Read.{HaveStood}
use Rattle.cq_back_q.specs.Damage.{IfDamaged, IsBefore, IsMisread, IsUnfit}
use Rattle.cq_back_q.specs.Damage.HasCause.{OfEntry}
use Rattle.cq_back_q.specs.Reading.{ArePair, CanTake, HaveRead, KnowBoth, ReadsMore, error_of}

-- ---- files that are the same

module _ (Told : Type 0) (queue : ℕ) (a b : Name → Option File) (same : Told → a ≡ b) where
  pub read_on : (taken : Taken) → HaveRead Told queue a taken → HaveRead Told queue b taken
  read_on taken read = record {
    fit = read.fit;
    once = read.once;
    ids = read.ids;
    stand = λ told. subst (λ (files : Name → Option File). HaveStood (as_read files) taken.held.items taken.bodies.items) (same told) (read.stand told);
  }

  pub more_on : (places : List (ℕ × ℕ)) (old new : Taken) → ReadsMore Told queue a places old new → ReadsMore Told queue b places old new
  more_on places old new more = record { read = read_on new more.read; listing = more.listing }

  pub misread_on : (error : BackError) → IfDamaged error (IsMisread Told queue (as_read a)) → IfDamaged error (IsMisread Told queue (as_read b))
  misread_on Fault h = tt
  misread_on Memory h = tt
  misread_on (Damaged name place found) h = record {
    own = h.own;
    cause = h.cause;
    told = λ told. subst (λ (files : Name → Option File). IsUnfit queue (as_read files) name place found) (same told) (h.told told);
  }

  pub misread_err : {T : Type 0} (result : Result T BackError) → IfErr result (λ error. IfDamaged error (IsMisread Told queue (as_read a))) → IfErr result (λ error. IfDamaged error (IsMisread Told queue (as_read b)))
  misread_err (Ok v) h = tt
  misread_err (Err error) h = misread_on error h

-- entries that were read still stand after a call that only reads
pub read_later : {D : Type 0} (g : Ghosts D) (segment : Segment) (old new : D) (es : List Entry) → (g.tells → SameFiles (g.files old) (g.files new)) → AreRead g segment old es → AreRead g segment new es
read_later g segment old new es same read = record {
  len = read.len;
  valid = read.valid;
  stand = λ told. subst (λ (slot : Option File). AllZip (λ k e. Among slot (λ f. IsPresent (entry_at f.reads k) e)) (present_of segment) es) (sym (same told (name_of segment))) (read.stand told);
}

-- ---- one after another

pub more_none : (Told : Type 0) (queue : ℕ) (files : Name → Option File) (taken : Taken) → HaveRead Told queue files taken → ReadsMore Told queue files [] taken taken
more_none Told queue files taken read = record { read = read; listing = sym (append-nil (places_of taken.held.items)) }

pub more_then : (Told : Type 0) (queue : ℕ) (files : Name → Option File) (first second : List (ℕ × ℕ)) (old mid new : Taken) → ReadsMore Told queue files first old mid → ReadsMore Told queue files second mid new → ReadsMore Told queue files (first ++ second) old new
more_then Told queue files first second old mid new one two = record {
  read = two.read;
  listing = two.listing ∙ ap (λ (ps : List (ℕ × ℕ)). ps ++ second) one.listing ∙ append_assoc (places_of old.held.items) first second;
}

pub listed_more : (n : ℕ) (ks : List ℕ) (i d : ℕ) → i < length ks → listed_in n (take (suc i) ks) ≡ listed_in n (take i ks) ++ (n, get_or ks i d) ∷ []
listed_more n [] i d lt = absurd (omega (arith, lt))
listed_more n (k ∷ ks) zero d lt = refl
listed_more n (k ∷ ks) (suc i) d lt = ap (λ (ps : List (ℕ × ℕ)). (n, k) ∷ ps) (listed_more n ks i d (omega (arith, lt)))

-- ---- where entries stand

-- of a place: it is before another
abbrev pub IsPlaceBefore : ℕ → ℕ → ℕ × ℕ → Type 0
IsPlaceBefore segment at p = (p.0 < segment) ⊎ ((p.0 ≡ segment) × (p.1 < at))

held_before : (segment at : ℕ) (held : List HeldEntry) → AllByRecursion (IsPlaceBefore segment at) (places_of held) → AllByRecursion (λ h. IsBefore h segment at) held
held_before segment at [] before = tt
held_before segment at (h ∷ held) before = (before.0, held_before segment at held before.1)

earlier_before : (segment at : ℕ) (held : List HeldEntry) → AllByRecursion (λ h. IsBefore h segment 0) held → AllByRecursion (IsPlaceBefore segment at) (places_of held)
earlier_before segment at [] earlier = tt
earlier_before segment at (h ∷ held) earlier = (⊎_elim (λ (lower : h.segment < segment). inl lower) (λ none. (let lt = none.1 in absurd (omega (arith, lt)))) earlier.0, earlier_before segment at held earlier.1)

listed_before : (segment at : ℕ) (ks : List ℕ) → AllByRecursion (λ k. k < at) ks → AllByRecursion (IsPlaceBefore segment at) (listed_in segment ks)
listed_before segment at [] below = tt
listed_before segment at (k ∷ ks) below = (inr (refl, below.0), listed_before segment at ks below.1)

rising_before : (ks : List ℕ) → AllPairs (λ x y. x < y) ks → (i d : ℕ) → i < length ks → AllByRecursion (λ k. k < get_or ks i d) (take i ks)
rising_before [] pairs i d lt = absurd (omega (arith, lt))
rising_before (k ∷ ks) pairs zero d lt = tt
rising_before (k ∷ ks) pairs (suc i) d lt = (pairs 0 (suc i) d (omega arith) lt, rising_before ks (λ a b e less within. pairs (suc a) (suc b) e (omega (arith, less)) (omega (arith, within))) i d (omega (arith, lt)))

-- the entries of earlier segments, and those of this one so far, stand before the next
pub all_before : (Told : Type 0) (queue : ℕ) (files : Name → Option File) (segment : ℕ) (ks : List ℕ) (i d : ℕ) (old now : Taken) → AllPairs (λ x y. x < y) ks → i < length ks → AllByRecursion (λ h. IsBefore h segment 0) old.held.items → ReadsMore Told queue files (listed_in segment (take i ks)) old now
    → AllByRecursion (λ h. IsBefore h segment (get_or ks i d)) now.held.items
all_before Told queue files segment ks i d old now pairs lt earlier more = held_before segment (get_or ks i d) now.held.items (subst (AllByRecursion (IsPlaceBefore segment (get_or ks i d))) (sym more.listing)
    (all_append (IsPlaceBefore segment (get_or ks i d)) (places_of old.held.items) (listed_in segment (take i ks)) (earlier_before segment (get_or ks i d) old.held.items earlier) (listed_before segment (get_or ks i d) (take i ks) (rising_before ks pairs i d lt))))

-- ---- an entry stands at its place

pub zip_at : {A B : Type 0} (R : A → B → Type 0) (xs : List A) (ys : List B) (i : ℕ) (d : A) (e : B) → i < length xs → AllZip R xs ys → R (get_or xs i d) (get_or ys i e)
zip_at R [] ys i d e lt all = absurd (omega (arith, lt))
zip_at R (x ∷ xs) [] i d e lt all = absurd all
zip_at R (x ∷ xs) (y ∷ ys) zero d e lt all = all.0
zip_at R (x ∷ xs) (y ∷ ys) (suc i) d e lt all = zip_at R xs ys i d e (omega (arith, lt)) all.1

pub stands_at : (segment : Segment) (slot : Option File) (k : ℕ) (e : Entry) → IsFiled segment slot → k < count_of segment → Among slot (λ f. IsPresent (entry_at f.reads k) e) → IsAt (content_of (bytes_in slot)) k e
stands_at segment None k e filed below there = absurd there
stands_at segment (Some f) k e filed below there = of_gate segment.gate refl
  where
    of_gate : (o : Option Gate) → segment.gate ≡ o → IsAt (content f.reads) k e
    of_gate None is = absurd (none-some f (sym (filed.absent is)))
    of_gate (Some g) is =
        let here = ((filed.there g is).has f refl).0 in
        let ends = (segment.gated g is).end_is in
        let long = end_is g f here in
        record { inside = omega (arith, ends, long, below); is = subst (λ (p : List ℕ). IsPresent p e) (entry_in g f segment.count k here ends below) there }

-- ---- the next entry of a segment

module _ {D : Type 0} (g : Ghosts D) (queue number : ℕ) (segment : Segment) (ks : List ℕ) (ks_are : ks ≡ present_of segment) (number_is : number ≡ (name_of segment).number) (i : ℕ) where
  -- it can be taken in
  pub next_taken : g.tells → (disk : D) (now : Name → Option File) (store : SmallStore) (window : Bodies) (entries : List Entry) (d : Entry) → now ≡ g.files disk → ArePair queue segment store → KnowBoth segment store (g.files disk) → AreRead g segment disk entries → IsWindow window (g.files disk (small.name_of store)) → i < length entries
      → CanTake (record { queue = queue; segment = number; at = get_or ks i 0; entry = get_or entries i d }) store window now
  next_taken told disk now store window entries d same pair know read is_window lt =
      let inside : i < length (present_of segment) = let len = read.len in omega (arith, len, lt) in
      let k = get_or (present_of segment) i 0 in
      let e = get_or entries i d in
      let there = zip_at (λ j x. Among (g.files disk (name_of segment)) (λ f. IsPresent (entry_at f.reads j) x)) (present_of segment) entries i 0 d inside (read.stand told) in
      let at = stands_at segment (g.files disk (name_of segment)) k e know.index_knows (segment.below i 0 inside) there in
      let name : name_of segment ≡ index_name queue number = pair.index_is ∙ ap (index_name queue) (sym number_is) in
      subst (λ (files : Name → Option File). CanTake (record { queue = queue; segment = number; at = get_or ks i 0; entry = e }) store window files) (sym same) (record {
        at = subst (λ (ns : List ℕ). IsAt (content_of (bytes_in (g.files disk (index_name queue number)))) (get_or ns i 0) e) (sym ks_are) (subst (λ (n : Name). IsAt (content_of (bytes_in (g.files disk n))) k e) name at);
        knows = record { is = know.small_knows; window = is_window };
      })

  -- all others stand before it
  pub next_before : (files : Name → Option File) (old now : Taken) → i < length (present_of segment) → AllByRecursion (λ h. IsBefore h (name_of segment).number 0) old.held.items → ReadsMore g.tells queue files (listed_in (name_of segment).number (take i (present_of segment))) old now → AllByRecursion (λ h. IsBefore h number (get_or ks i 0)) now.held.items
  next_before files old now lt earlier more = subst (λ (ns : List ℕ). AllByRecursion (λ h. IsBefore h number (get_or ns i 0)) now.held.items) (sym ks_are) (subst (λ (n : ℕ). AllByRecursion (λ h. IsBefore h n (get_or (present_of segment) i 0)) now.held.items) (sym number_is)
      (all_before g.tells queue files (name_of segment).number (present_of segment) i 0 old now (AllPairs-from_increasing (present_of segment) segment.rising) lt earlier more))

  -- and it joins them
  pub next_more : (start now : Name → Option File) (old mid new : Taken) → (g.tells → now ≡ start) → i < length (present_of segment) → ReadsMore g.tells queue start (listed_in (name_of segment).number (take i (present_of segment))) old mid → ReadsMore g.tells queue now ((number, get_or ks i 0) ∷ []) mid new
      → ReadsMore g.tells queue start (listed_in (name_of segment).number (take (i + 1) (present_of segment))) old new
  next_more start now old mid new same lt so_far more =
      let n = (name_of segment).number in
      let ns = present_of segment in
      let up : suc i ≡ i + 1 = omega arith in
      let here : (number, get_or ks i 0) ≡ (n, get_or ns i 0) = (λ j. (number_is j, get_or (ks_are j) i 0)) in
      let listed_is : listed_in n (take i ns) ++ (number, get_or ks i 0) ∷ [] ≡ listed_in n (take (i + 1) ns) = ap (λ (p : ℕ × ℕ). listed_in n (take i ns) ++ p ∷ []) here ∙ sym (listed_more n ns i 0 lt) ∙ ap (λ (m : ℕ). listed_in n (take m ns)) up in
      subst (λ (ps : List (ℕ × ℕ)). ReadsMore g.tells queue start ps old new) listed_is
      (more_then g.tells queue start (listed_in n (take i ns)) ((number, get_or ks i 0) ∷ []) old mid new so_far (more_on g.tells queue now start same ((number, get_or ks i 0) ∷ []) mid new more))

-- ---- an entry that was read as a wrong one

pub misread_in : (Told : Type 0) (queue number : ℕ) (files : Name → Option File) (present : List ℕ) (error : SegmentError) → IfSegmentDamaged error (IsMisreadOf Told present) → IfDamaged (error_of (index_name queue number) error) (IsMisread Told queue (as_read files))
misread_in Told queue number files present segment_fault h = tt
misread_in Told queue number files present segment_memory h = tt
misread_in Told queue number files present (segment_damaged place found) h = record { own = refl; cause = OfEntry refl h.at h.misread.broken; told = λ told. absurd (h.misread.untold told) }
