-- A queue with a file that breaks its form isn't sound.
use Rattle.std.proofs.Common.{◌≡◌, ⊎_elim, ℕ, zero, suc, ◌-◌, ◌≤◌, ◌<◌, Bool, true, false, List, [], ◌∷◌, Option, Some, None, length, take, drop, refl, sym, ◌∙◌, ap, subst, arith}
use Rattle.std.specs.Prelude.{nat_lt, if◌then◌else◌, slice_index}
use Rattle.cq_disk.specs.Call.{Image}
use Rattle.cq_disk.specs.Files.{AmongBytes}
use Rattle.cq_gate.specs.Format.{content, content_to, word_at, slot_of, IsFormed, BreaksAt, BreaksFixed, BreaksEnd, BreaksPlan}
use Rattle.cq_entry.specs.declared.entry.Seen.{Seen}
use Rattle.cq_index.specs.Codec.{IsForm, most_entries}
use Rattle.cq_index.specs.Places.{entry_at, index_name}
use Rattle.cq_index.specs.Opened.{BreaksIndex, BreaksLength, BreaksEntry, piece_at}
use Rattle.cq_index.proofs.Looked.{piece_of}
use Rattle.cq_small.specs.Store.{small_name}
use Rattle.cq_journal.specs.declared.event.Message.{Message}
use Rattle.cq_folder.specs.Held.{content_of, IsFormedAs}
use Rattle.cq_folder.specs.Folder.{AreEntries, Sharing}
use Rattle.cq_folder.proofs.Entries.{length-seen, entries_formed}
use Rattle.cq_back_q.specs.Sound.{QueueSoundBy}

gate_breaks : (kind : ℕ) (file : List ℕ) (place : ℕ) → IsFormed kind file → BreaksAt kind file place → ⊥
gate_breaks kind file place formed breaks = ⊎_elim
    (λ (b : BreaksFixed kind file place). b.differs (formed.fixed place b.fixed))
    (λ rest. ⊎_elim
    (λ (b : BreaksEnd kind file place).
    let past = b.outside (subst (λ (n : ℕ). 128 ≤ word_at file n) (sym b.place_is) formed.slot.from) in
    let here : word_at file place ≡ word_at file (slot_of file) = ap (word_at file) b.place_is in
    let to = formed.slot.to in
    omega (arith, past, to, here))
    (λ (b : BreaksPlan kind file place). b.no_plan formed.slot.plan) rest) breaks

front : {A : Type 0} (m : ℕ) (xs : List A) → take m xs ≡ take (length (take m xs)) xs
front zero xs = refl
front (suc m) [] = refl
front (suc m) (x ∷ xs) = ap (λ l. x ∷ l) (front m xs)

pub content_front : (file : List ℕ) → content file ≡ take (length (content file)) (drop 128 file)
content_front file = elim (nat_lt 128 (length file)) as (λ (b : Bool). (if b then content_to (word_at file (slot_of file)) file else []) ≡ take (length (if b then content_to (word_at file (slot_of file)) file else [])) (drop 128 file)) [
  | true ↦ front (word_at file (slot_of file) - 128) (drop 128 file)
  | false ↦ refl
]

-- an entry of the content stands at its place of the file
piece_entry : (file : List ℕ) (seen : List Seen) (k : ℕ) → AreEntries (content file) seen → k < length seen → piece_at (content file) k ≡ entry_at file k
piece_entry file seen k are lt =
    ap (λ (l : List ℕ). piece_at l k) (content_front file ∙ ap (λ (n : ℕ). take n (drop 128 file)) (length-seen (content file) seen are))
    ∙ piece_of file (length seen) k lt

-- ---- one file

entries_break : (file : List ℕ) (place : ℕ) (seen : List Seen) → AreEntries (content file) seen → BreaksEntry file place → ⊥
entries_break file place seen are b =
    let f = b.first in
    let len = length-seen (content file) seen are in
    let total = b.entries.len in
    let inside = f.inside in
    let lt : f.at < length seen = omega (arith, len, total, inside) in
    let form : IsForm (entry_at file f.at) = subst IsForm (piece_entry file seen f.at are lt) (entries_formed (content file) seen f.at are lt) in
    f.breaks.broken (form f.breaks.present f.byte)

in_index : (o : Option (List ℕ)) (queue number place found : ℕ) (seen : List Seen) → IsFormedAs (index_name queue number) o → AreEntries (content_of o) seen → length seen ≤ most_entries → AmongBytes o (λ file. BreaksIndex file place × (found ≡ slice_index file place)) → ⊥
in_index None queue number place found seen formed are few none = none
in_index (Some file) queue number place found seen formed are few breaks = ⊎_elim (λ gate. gate_breaks 1 file place (formed gate.0) gate.1)
    (λ rest. ⊎_elim
    (λ (b : BreaksLength file place). b.uneven (length seen) (record { few = few; len = length-seen (content file) seen are }))
    (entries_break file place seen are) rest) breaks.0

in_small : (o : Option (List ℕ)) (queue number place found : ℕ) → IsFormedAs (small_name queue number) o → AmongBytes o (λ file. ((128 < length file) × BreaksAt 2 file place) × (found ≡ slice_index file place)) → ⊥
in_small None queue number place found formed none = none
in_small (Some file) queue number place found formed breaks = gate_breaks 2 file place (formed breaks.0.0) breaks.0.1

-- ---- the queue

module _ (queue : ℕ) (image : Image) (number place found : ℕ) (sharing : Sharing) (ms : List Message) (sound : QueueSoundBy queue image sharing ms) where
  -- an index breaks its form, or that of an entry
  pub index_unsound : AmongBytes (image (index_name queue number)) (λ file. BreaksIndex file place × (found ≡ slice_index file place)) → ⊥
  index_unsound = let h = sound.held in
      in_index (image (index_name queue number)) queue number place found (h.seen number) (sound.indexes number) (h.entries number) (h.short number)

  -- a small store breaks its form
  pub small_unsound : AmongBytes (image (small_name queue number)) (λ file. ((128 < length file) × BreaksAt 2 file place) × (found ≡ slice_index file place)) → ⊥
  small_unsound = in_small (image (small_name queue number)) queue number place found (sound.smalls number)
