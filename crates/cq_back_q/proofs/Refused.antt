-- A queue with an entry that doesn't fit isn't sound, and the byte that is told stands in its index.
use Prim.Native.Nat.{zero, suc}
use Rattle.std.proofs.Common.{◌≡◌, ◌⊎◌, inl, inr, ⊎_elim, ℕ, ◌+◌, ◌*◌, ◌≤◌, ◌<◌, List, [], ◌∷◌, ◌++◌, Option, Some, None, length, take, drop, get_or, sym, ◌∙◌, ap, subst, arith, length-drop}
use Rattle.std.specs.Prelude.{slice_index}
use Rattle.std.specs.List.{AllZip}
use Rattle.std.proofs.lemmas.Bool.{cases_eq, cases_lt}
use Rattle.std.proofs.lemmas.List.{length-take}
use Rattle.cq_disk.specs.declared.name.Name.{Name}
use Rattle.cq_disk.specs.Call.{Image}
use Rattle.cq_disk.specs.Files.{AmongBytes}
use Rattle.cq_gate.specs.Format.{content}
use Rattle.cq_entry.specs.declared.entry.Entry.{Entry}
use Rattle.cq_entry.specs.declared.entry.Seen.{Seen}
use Rattle.cq_entry.specs.declared.entry.Seen.TheVariants.{Gone, Present}
use Rattle.cq_entry.specs.Entry.{IsPresent, IsSeen, entry_bytes}
use Rattle.cq_entry.specs.EntryLemmas.{one_entry}
use Rattle.cq_index.specs.Codec.{entry_len}
use Rattle.cq_index.specs.Places.{index_name, place_of}
use Rattle.cq_index.proofs.Looked.{byte_of}
use Rattle.cq_journal.specs.declared.event.Message.{Message}
use Rattle.cq_journal.specs.History.{has_id}
use Rattle.cq_journal.specs.Lists.{HasDistinctIds, IsIn}
use Rattle.cq_folder.specs.Folder.{AreEntries, Folder, IsMessageOf, Sharing, Spot, below, folder_of, present, spots}
use Rattle.cq_folder.specs.Held.{content_of, contents_of}
use Rattle.cq_folder.specs.Holding.{IsAt}
use Rattle.cq_folder.proofs.Entries.{entry_seen, length-seen}
use Rattle.cq_folder.proofs.Members.{below_in, entry_held, in_behind, in_front, spot_in, zip_right}
use Rattle.cq_folder.proofs.Sublists.{clash, in_has}
use Rattle.cq_back_q.specs.Sound.{QueueSoundBy}
use Rattle.cq_back_q.specs.Damage.{IsUnfit, Misfits}
use Rattle.cq_back_q.specs.Damage.Misfits.{Repeated, Lacking}
use Rattle.cq_back_q.proofs.Entries.{status_of}
use Rattle.cq_back_q.proofs.Indexes.{content_front, piece_entry}

-- ---- an entry that stands at a place is among the present ones

gone_present : (e : Entry) → Gone ≡ Present e → ⊥
gone_present e is = cc

same_present : (e f : Entry) → Present e ≡ Present f → e ≡ f
same_present e f is = cc

one_seen : (bytes : List ℕ) (s : Seen) (e : Entry) → IsSeen bytes s → IsPresent bytes e → s ≡ Present e
one_seen bytes Gone e seen is = absurd (seen (status_of bytes e is))
one_seen bytes (Present f) e seen is = ap Present (one_entry bytes f e seen.1 is)

seen_at : (c : List ℕ) (xs : List Seen) (k : ℕ) (e : Entry) → AreEntries c xs → IsAt c k e → get_or xs k Gone ≡ Present e
seen_at c xs k e are at =
    let len = length-seen c xs are in
    let inside = at.inside in
    one_seen (take entry_len (drop (entry_len * k) c)) (get_or xs k Gone) e (entry_seen c xs k are (omega (arith, len, inside))) at.is

in_present : (xs : List Seen) (k : ℕ) (e : Entry) → get_or xs k Gone ≡ Present e → IsIn (present xs) e
in_present [] k e is = absurd (gone_present e is)
in_present (Gone ∷ xs) zero e is = absurd (gone_present e is)
in_present (Present f ∷ xs) zero e is = inl (same_present f e is)
in_present (Gone ∷ xs) (suc k) e is = in_present xs k e is
in_present (Present f ∷ xs) (suc k) e is = inr (in_present xs k e is)

-- ---- spots of different messages

-- no two have one id
abbrev AreApart : List Spot → Type 0
AreApart [] = Unit {0}
AreApart (s ∷ ss) = ((t : Spot) → IsIn ss t → s.entry.id ≡ t.entry.id → ⊥) × AreApart ss

spots_apart : (F : Folder) (q : ℕ) (ss : List Spot) (ms : List Message) → AllZip (IsMessageOf F q) ss ms → HasDistinctIds ms → AreApart ss
spots_apart F q [] [] zip once = tt
spots_apart F q [] (m ∷ ms) zip once = absurd zip
spots_apart F q (s ∷ ss) [] zip once = absurd zip
spots_apart F q (s ∷ ss) (m ∷ ms) zip once = (
  (λ t there same.
      let k = zip_right (IsMessageOf F q) ss ms t zip.1 there in
      clash (has_id ms m.id) once.0 (ap (has_id ms) (zip.0.id ∙ same ∙ sym k.1.1.id) ∙ in_has ms k.0 k.1.0)),
  spots_apart F q ss ms zip.1 once.1,
)

apart_front : (xs ys : List Spot) → AreApart (xs ++ ys) → AreApart xs
apart_front [] ys apart = tt
apart_front (x ∷ xs) ys apart = ((λ t there same. apart.0 t (in_front xs ys t there) same), apart_front xs ys apart.1)

apart_back : (xs ys : List Spot) → AreApart (xs ++ ys) → AreApart ys
apart_back [] ys apart = apart
apart_back (x ∷ xs) ys apart = apart_back xs ys apart.1

apart_across : (xs ys : List Spot) (s t : Spot) → AreApart (xs ++ ys) → IsIn xs s → IsIn ys t → s.entry.id ≡ t.entry.id → ⊥
apart_across [] ys s t apart here there same = here
apart_across (x ∷ xs) ys s t apart here there same = ⊎_elim
    (λ (is : x ≡ s). apart.0 t (in_behind xs ys t there) (ap (λ (z : Spot). z.entry.id) is ∙ same))
    (λ later. apart_across xs ys s t apart.1 later there same) here

below_apart : (f : ℕ → List Spot) (bound n : ℕ) → n < bound → AreApart (below f bound) → AreApart (f n)
below_apart f zero n lt apart = absurd (omega (arith, lt))
below_apart f (suc b) n lt apart = ⊎_elim
    (λ (same : n ≡ b). subst (λ (k : ℕ). AreApart (f k)) (sym same) (apart_back (below f b) (f b) apart))
    (λ other. below_apart f b n (omega (arith, lt, other)) (apart_front (below f b) (f b) apart))
    (cases_eq n b)

below_across : (f : ℕ → List Spot) (bound n m : ℕ) (s t : Spot) → n < m → m < bound → AreApart (below f bound) → IsIn (f n) s → IsIn (f m) t → s.entry.id ≡ t.entry.id → ⊥
below_across f zero n m s t before lt apart here there same = omega (arith, lt)
below_across f (suc b) n m s t before lt apart here there same = ⊎_elim
    (λ (last : m ≡ b). apart_across (below f b) (f b) s t apart (below_in f b n s (omega (arith, before, last)) here) (subst (λ (k : ℕ). IsIn (f k) t) last there) same)
    (λ other. below_across f b n m s t before (omega (arith, lt, other)) (apart_front (below f b) (f b) apart) here there same)
    (cases_eq m b)

-- two places of one segment
seen_apart : (n : ℕ) (xs : List Seen) (j k : ℕ) (a b : Entry) → j < k → get_or xs j Gone ≡ Present a → get_or xs k Gone ≡ Present b → AreApart (spots n (present xs)) → a.id ≡ b.id → ⊥
seen_apart n [] j k a b lt is_a is_b apart same = gone_present a is_a
seen_apart n (x ∷ xs) j zero a b lt is_a is_b apart same = omega (arith, lt)
seen_apart n (Gone ∷ xs) zero (suc k) a b lt is_a is_b apart same = gone_present a is_a
seen_apart n (Present f ∷ xs) zero (suc k) a b lt is_a is_b apart same =
    apart.0 (record { segment = n; entry = b }) (spot_in n (present xs) b (in_present xs k b is_b)) (ap (λ (e : Entry). e.id) (same_present f a is_a) ∙ same)
seen_apart n (Gone ∷ xs) (suc j) (suc k) a b lt is_a is_b apart same = seen_apart n xs j k a b (omega (arith, lt)) is_a is_b apart same
seen_apart n (Present f ∷ xs) (suc j) (suc k) a b lt is_a is_b apart same = seen_apart n xs j k a b (omega (arith, lt)) is_a is_b apart.1 same

-- ---- a queue that is sound

module _ (queue : ℕ) (image : Image) (sharing : Sharing) (ms : List Message) (sound : QueueSoundBy queue image sharing ms) where
  abbrev spots_in : ℕ → List Spot
  spots_in n = spots n (present (sound.held.seen n))

  abbrev content_at : ℕ → List ℕ
  content_at n = contents_of image (index_name queue n)

  all_apart : AreApart (below spots_in sound.held.most)
  all_apart = spots_apart (folder_of sharing (contents_of image)) queue (below spots_in sound.held.most) ms sound.held.each sound.once

  stands_in : (n k : ℕ) (e : Entry) → IsAt (content_at n) k e → IsIn (present (sound.held.seen n)) e
  stands_in n k e at = in_present (sound.held.seen n) k e (seen_at (content_at n) (sound.held.seen n) k e (sound.held.entries n) at)

  before_most : (n k : ℕ) (e : Entry) → IsAt (content_at n) k e → n < sound.held.most
  before_most n k e at = ⊎_elim
      (λ lt. lt)
      (λ ge. absurd (subst (λ (es : List Entry). IsIn es e) (sound.held.none n ge) (stands_in n k e at)))
      (cases_lt n sound.held.most)

  spot_at : (n k : ℕ) (e : Entry) → IsAt (content_at n) k e → IsIn (spots_in n) (record { segment = n; entry = e })
  spot_at n k e at = spot_in n (present (sound.held.seen n)) e (stands_in n k e at)

  -- no id stands at two places
  not_twice : (n j m k : ℕ) (a b : Entry) → IsAt (content_at n) j a → IsAt (content_at m) k b → (n < m) ⊎ ((n ≡ m) × (j < k)) → a.id ≡ b.id → ⊥
  not_twice n j m k a b at_a at_b before same = ⊎_elim
      (λ (lt : n < m). below_across spots_in sound.held.most n m (record { segment = n; entry = a }) (record { segment = m; entry = b }) lt (before_most m k b at_b) all_apart (spot_at n j a at_a) (spot_at m k b at_b) same)
      (λ (here : (n ≡ m) × (j < k)).
      let own : IsAt (content_at m) j a = subst (λ (i : ℕ). IsAt (content_at i) j a) here.0 at_a in
      seen_apart m (sound.held.seen m) j k a b here.1 (seen_at (content_at m) (sound.held.seen m) j a (sound.held.entries m) own) (seen_at (content_at m) (sound.held.seen m) k b (sound.held.entries m) at_b)
      (below_apart spots_in sound.held.most m (before_most m k b at_b) all_apart) same) before

  no_misfit : (segment at byte : ℕ) (e : Entry) → IsAt (content_at segment) at e → Misfits queue image segment at e byte → ⊥
  no_misfit segment at byte e is (Repeated is_byte h of_queue held before same) =
      not_twice h.segment h.at segment at h.entry e (subst (λ (q : ℕ). IsAt (contents_of image (index_name q h.segment)) h.at h.entry) of_queue held) is before same
  no_misfit segment at byte e is (Lacking is_byte small lacks) =
      let m = entry_held (folder_of sharing (contents_of image)) queue ms sound.held segment (sound.held.seen segment) e (sound.held.entries segment) (stands_in segment at e is) in
      lacks m.0.body m.1.1.len (m.1.1.stands small)

pub not_sound : (queue : ℕ) (image : Image) (name : Name) (place found : ℕ) → IsUnfit queue image name place found → (sharing : Sharing) (ms : List Message) → QueueSoundBy queue image sharing ms → ⊥
not_sound queue image name place found unfit sharing ms sound = no_misfit queue image sharing ms sound unfit.segment unfit.at unfit.byte unfit.entry unfit.is unfit.misfits

-- ---- the byte that is told

content_inside : (file : List ℕ) → length (content file) ≤ length (drop 128 file)
content_inside file =
    let same = ap length (content_front file) in
    let short = length-take (length (content file)) (drop 128 file) in
    omega (arith, same, short)

-- a byte of an entry that stands in a content
byte_at : (o : Option (List ℕ)) (at byte : ℕ) (e : Entry) → byte < 32 → IsAt (content_of o) at e
    → AmongBytes o (λ file. (place_of at + byte < length file) × (slice_index (entry_bytes e) byte ≡ slice_index file (place_of at + byte)))
byte_at None at byte e lt is = let inside = is.inside in absurd (omega (arith, inside))
byte_at (Some file) at byte e lt is =
    let inside = is.inside in
    let within = content_inside file in
    let len = length-drop 128 file in (
      omega (arith, lt, inside, within, len),
      ap (λ (bytes : List ℕ). slice_index bytes byte) (sym is.is.spelled ∙ piece_entry file at inside) ∙ byte_of file at byte lt,
    )

pub byte_stands : (queue : ℕ) (image : Image) (name : Name) (place found : ℕ) → IsUnfit queue image name place found
    → AmongBytes (image name) (λ file. (place < length file) × (found ≡ slice_index file place))
byte_stands queue image name place found unfit =
    subst (λ (n : Name). AmongBytes (image n) (λ file. (place < length file) × (found ≡ slice_index file place))) (sym unfit.name_is)
    (subst (λ (p : ℕ). AmongBytes (image (index_name queue unfit.segment)) (λ file. (p < length file) × (found ≡ slice_index file p))) (sym unfit.place_is)
    (subst (λ (b : ℕ). AmongBytes (image (index_name queue unfit.segment)) (λ file. (place_of unfit.at + unfit.byte < length file) × (b ≡ slice_index file (place_of unfit.at + unfit.byte)))) (sym unfit.found_is)
    (byte_at (image (index_name queue unfit.segment)) unfit.at unfit.byte unfit.entry unfit.short unfit.is)))
