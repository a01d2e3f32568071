-- Indexes that were read, as images show them.
use Prim.Native.Nat.{zero, suc}
use Rattle.std.proofs.Common.{◌≡◌, ◌∙◌, ℕ, ◌+◌, ◌*◌, ◌-◌, ◌≤◌, ◌<◌, Bool, true, false, List, [], ◌∷◌, length, take, drop, Option, Some, None, refl, sym, ap, subst, arith}
use Rattle.std.specs.Prelude.{◌==◌, ◌||◌, nat_lt, if◌then◌else◌, slice_index}
use Rattle.std.specs.List.{AllByRecursion}
use Rattle.std.proofs.lemmas.Bool.{false≢true, eqb-true}
use Rattle.cq_disk.specs.declared.name.Name.{Name}
use Rattle.cq_disk.specs.Call.{Image}
use Rattle.cq_disk.specs.File.{File, IsFileImage}
use Rattle.cq_disk.specs.Files.{IsThere}
use Rattle.cq_gate.specs.Format.{content, content_to, word_at, slot_of, kind_byte, IsFormed, IsGated}
use Rattle.cq_gate.specs.declared.gate.Gate.{Gate}
use Rattle.cq_gate.specs.Opened.{IsThereGate}
use Rattle.cq_index.specs.Codec.{IsForm, entry_len, most_entries}
use Rattle.cq_index.specs.Opened.{IsIndex, piece_at}
use Rattle.cq_index.specs.Places.{entry_at}
use Rattle.cq_index.specs.declared.segment.Segment.{Segment}
use Rattle.cq_index.specs.Segments.{Knows, count_of, name_of, present_of}
use Rattle.cq_folder.specs.Folder.{AreEntries}
use Rattle.cq_folder.specs.Held.{IsFormedAs, as_read, bytes_in, content_of, contents_of}
use Rattle.cq_folder.specs.Queue.{RiseAs, has_number, indexes_of}
use Rattle.cq_folder.proofs.FadedFiles.{piece_is}
use Rattle.cq_back_q.proofs.Entries.{AreSmall, small_drop, small_take}
use Rattle.cq_back_q.proofs.Listing.{IsKnown, seen_few, seen_in, whole}

front : {A : Type 0} (m : ℕ) (xs : List A) → take m xs ≡ take (length (take m xs)) xs
front zero xs = refl
front (suc m) [] = refl
front (suc m) (x ∷ xs) = ap (λ l. x ∷ l) (front m xs)

-- a content stands in its file, behind the header
pub content_front : (file : List ℕ) → content file ≡ take (length (content file)) (drop 128 file)
content_front file = elim (nat_lt 128 (length file)) as (λ (b : Bool). (if b then content_to (word_at file (slot_of file)) file else []) ≡ take (length (if b then content_to (word_at file (slot_of file)) file else [])) (drop 128 file)) [
  | true ↦ front (word_at file (slot_of file) - 128) (drop 128 file)
  | false ↦ refl
]

-- an entry of a content stands in its file
pub piece_entry : (file : List ℕ) (k : ℕ) → entry_len * k + entry_len ≤ length (content file) → piece_at (content file) k ≡ entry_at file k
piece_entry file k inside = ap (λ (l : List ℕ). piece_at l k) (content_front file) ∙ piece_is file (length (content file)) k inside

small_content : (file : List ℕ) → AreSmall file → AreSmall (content file)
small_content file small = subst AreSmall (sym (content_front file)) (small_take (length (content file)) (drop 128 file) (small_drop 128 file small))

-- ---- one index

-- An index of an image is of its form, and its content is the entries that stand in it.
pub record IsSound (image : Image) (name : Name) : Type 0 where
  pub formed : IsFormedAs name (image name)
  pub entries : AreEntries (contents_of image name) (seen_in (contents_of image name))
  pub short : length (seen_in (contents_of image name)) ≤ most_entries

-- an index that isn't there
pub none_sound : (image : Image) (name : Name) → image name ≡ None → IsSound image name
none_sound image name none = record {
  formed = subst (IsFormedAs name) (sym none) tt;
  entries = subst (λ (o : Option (List ℕ)). AreEntries (content_of o) (seen_in (content_of o))) (sym none) refl;
  short = subst (λ (o : Option (List ℕ)). length (seen_in (content_of o)) ≤ most_entries) (sym none) (omega arith);
}

module _ (s : Segment) where
  of_index : (file : List ℕ) (o : Option Gate) → AreSmall file → IsThereGate o (λ gate. IsIndex gate (count_of s) (present_of s) file) → IsKnown (content file) s
  of_index file None small none = absurd none
  of_index file (Some gate) small is =
      let len = is.entries.len in
      let same : (k : ℕ) → k < count_of s → piece_at (content file) k ≡ entry_at file k = λ k lt. piece_entry file k (omega (arith, len, lt)) in
      record {
        few = is.entries.few;
        len = len;
        small = small_content file small;
        formed = λ k lt. subst IsForm (sym (same k lt)) (is.lists.formed k lt);
        listed = λ k lt one. (is.lists.listed k lt).1 (ap (λ (l : List ℕ). slice_index l 0) (sym (same k lt)) ∙ one);
      }

  of_gate : (file : List ℕ) (o : Option Gate) → s.gate ≡ o → IsThereGate o (λ gate. IsIndex gate (count_of s) (present_of s) file) → IsGated (kind_byte (name_of s).kind) file
  of_gate file None made none long = absurd none
  of_gate file (Some gate) made is long =
      let len = is.shows.len in
      subst (λ (m : Name). IsFormed (kind_byte m.kind) file) (s.gated gate made).name_is (is.shows.selected (omega (arith, long, len))).formed

  known_slot : (slot : Option File) → ((f : File) → slot ≡ Some f → IsFileImage f f.reads) → IsThere slot (Knows s) → IsKnown (content_of (bytes_in slot)) s
  known_slot None readable there = absurd (false≢true there.is_some)
  known_slot (Some f) readable there = of_index f.reads s.gate (readable f refl).bytes (there.has f refl)

  formed_slot : (slot : Option File) → IsThere slot (Knows s) → IsFormedAs (name_of s) (bytes_in slot)
  formed_slot None there = tt
  formed_slot (Some f) there = of_gate f.reads s.gate refl (there.has f refl)

  sound_content : (image : Image) → IsFormedAs (name_of s) (image (name_of s)) → IsKnown (contents_of image (name_of s)) s → IsSound image (name_of s)
  sound_content image formed known = record {
    formed = formed;
    entries = whole (contents_of image (name_of s)) s known;
    short = seen_few (contents_of image (name_of s)) s known;
  }

-- ---- all indexes of a queue

module _ (files : Name → Option File) (readable : (n : Name) (f : File) → files n ≡ Some f → IsFileImage f f.reads) where
  pub all_known : (segments : List Segment) → AllByRecursion (λ (s : Segment). IsThere (files (name_of s)) (Knows s)) segments → AllByRecursion (λ (s : Segment). IsKnown (contents_of (as_read files) (name_of s)) s) segments
  all_known [] all = tt
  all_known (s ∷ segments) all = (known_slot s (files (name_of s)) (readable (name_of s)) all.0, all_known segments all.1)

  pub all_sound : (segments : List Segment) → AllByRecursion (λ (s : Segment). IsThere (files (name_of s)) (Knows s)) segments → AllByRecursion (λ (s : Segment). IsSound (as_read files) (name_of s)) segments
  all_sound [] all = tt
  all_sound (s ∷ segments) all = (
    sound_content s (as_read files) (formed_slot s (files (name_of s)) all.0) (known_slot s (files (name_of s)) (readable (name_of s)) all.0),
    all_sound segments all.1,
  )

-- what is so of each index that is listed, is so of the index of each number that is
pub at_number : (P : Name → Type 0) (name_at : ℕ → Name) (segments : List Segment) → RiseAs name_at (indexes_of segments) → AllByRecursion (λ (s : Segment). P (name_of s)) segments
    → (n : ℕ) → has_number (indexes_of segments) n ≡ true → P (name_at n)
at_number P name_at [] rise all n has = absurd (false≢true has)
at_number P name_at (s ∷ segments) rise all n has = (elim ((name_of s).number == n) as (λ (b : Bool). ((name_of s).number == n) ≡ b → (b || has_number (indexes_of segments) n) ≡ true → P (name_at n)) [
  | true ↦ λ same any. subst P (rise.0 ∙ ap name_at (eqb-true (name_of s).number n same)) all.0
  | false ↦ λ other later. at_number P name_at segments rise.2 all.1 n later
]) refl has
