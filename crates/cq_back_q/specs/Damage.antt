-- Why the files of a queue are refused.
use Rattle.std.specs.Prelude.{◌≡◌, ◌⊎◌, ℕ, ◌+◌, ◌<◌, List, length, slice_index}
use Rattle.cq_disk.specs.declared.name.Name.{Name}
use Rattle.cq_disk.specs.declared.name.Kind.TheVariants.{Index, Small}
use Rattle.cq_disk.specs.Call.{Image}
use Rattle.cq_disk.specs.Files.{AmongBytes}
use Rattle.cq_gate.specs.Calls.{WasRead}
use Rattle.cq_entry.specs.declared.entry.Entry.{Entry}
use Rattle.cq_entry.specs.declared.entry.EntryKind.TheVariants.{Small as SmallEntry}
use Rattle.cq_entry.specs.Entry.{IsEntry, entry_bytes}
use Rattle.cq_small.specs.Record.{StandsIn}
use Rattle.cq_small.specs.Store.{small_name}
use Rattle.cq_index.specs.Calls.{WasWrong}
use Rattle.cq_index.specs.Opened.{IsBroken}
use Rattle.cq_index.specs.Places.{index_name, place_of}
use Rattle.cq_journal.specs.declared.event.Message.{Message}
use Rattle.cq_folder.specs.Folder.{Sharing}
use Rattle.cq_folder.specs.Held.{contents_of}
use Rattle.cq_folder.specs.Holding.{IsAt}
use Rattle.cq_back_q.specs.declared.found.HeldEntry.{HeldEntry}
use Rattle.cq_back_q.specs.declared.error.BackError.{BackError}
use Rattle.cq_back_q.specs.declared.error.BackError.TheVariants.{Fault, Memory, Damaged}
use Rattle.cq_back_q.specs.Sound.{IsHeldAt, QueueSoundBy}

-- a fact of the file, the place and the byte that are told
abbrev pub IfDamaged : BackError → (Name → ℕ → ℕ → Type 0) → Type 0
IfDamaged Fault P = Unit {0}
IfDamaged Memory P = Unit {0}
IfDamaged (Damaged name place found) P = P name place found

-- ---- what was read, on any disk

-- An entry that was read doesn't fit, for its field that begins at this byte: its id, which was read before; or its place,
-- where it is a small one and no record of its length was found.
pub data WasUnfit (e : Entry) (byte : ℕ) : Type 0 where
  Repeated : byte ≡ 8 → WasUnfit e byte
  Lacking : byte ≡ 24 → e.kind ≡ SmallEntry → WasUnfit e byte

-- a valid entry was read at a place of an index that doesn't fit: its field's first byte is told
pub record ReadUnfit (place found : ℕ) : Type 0 where
  pub at : ℕ
  pub entry : Entry
  pub valid : IsEntry entry
  pub byte : ℕ
  pub unfit : WasUnfit entry byte
  pub place_is : place ≡ place_of at + byte
  pub found_is : found ≡ slice_index (entry_bytes entry) byte

-- What was read of this file breaks a rule at this place, where this byte stood: an index when it was opened, a small
-- store's header, an entry's form, or an entry that doesn't fit.
pub data HasCause (name : Name) (place found : ℕ) : Type 0 where
  OfIndex : name.kind ≡ Index → WasWrong place found → HasCause name place found
  OfSmall : name.kind ≡ Small → WasRead 2 place found → HasCause name place found
  OfEntry : name.kind ≡ Index → (at : ℕ) → IsBroken at place found → HasCause name place found
  OfUnfit : name.kind ≡ Index → ReadUnfit place found → HasCause name place found

-- ---- what is so, where the disk tells its files

-- an entry stands before this place of a segment
abbrev pub IsBefore : HeldEntry → ℕ → ℕ → Type 0
IsBefore h segment at = (h.segment < segment) ⊎ ((h.segment ≡ segment) × (h.at < at))

-- An entry at a place of a segment doesn't fit, for its field that begins at this byte: its id stands before; or it is a
-- small one, and no record of its length stands at its place.
pub data Misfits (queue : ℕ) (image : Image) (segment at : ℕ) (e : Entry) (byte : ℕ) : Type 0 where
  Repeated : byte ≡ 8 → (h : HeldEntry) → h.queue ≡ queue → IsHeldAt image h → IsBefore h segment at → h.entry.id ≡ e.id
      → Misfits queue image segment at e byte
  Lacking : byte ≡ 24 → e.kind ≡ SmallEntry
      → ((body : List ℕ) → length body ≡ e.len → StandsIn (contents_of image (small_name queue segment)) e.place body → ⊥)
      → Misfits queue image segment at e byte

-- an entry of the queue doesn't fit: its field's first byte is told
pub record IsUnfit (queue : ℕ) (image : Image) (name : Name) (place found : ℕ) : Type 0 where
  pub segment : ℕ
  pub at : ℕ
  pub entry : Entry
  pub is : IsAt (contents_of image (index_name queue segment)) at entry
  pub byte : ℕ
  pub short : byte < 32
  pub misfits : Misfits queue image segment at entry byte
  pub name_is : name ≡ index_name queue segment
  pub place_is : place ≡ place_of at + byte
  pub found_is : found ≡ slice_index (entry_bytes entry) byte

-- what refuses the entries that were read
pub record IsMisread (Told : Type 0) (queue : ℕ) (image : Image) (name : Name) (place found : ℕ) : Type 0 where
  pub own : name.queue ≡ queue
  pub cause : HasCause name place found
  pub told : Told → IsUnfit queue image name place found

-- Why a queue is refused: what was read of one of its files breaks a rule. Where the disk tells its files, the byte stands
-- there, and the queue isn't sound, whatever shared files there are.
pub record IsDamaged (Told : Type 0) (queue : ℕ) (image : Image) (name : Name) (place found : ℕ) : Type 0 where
  pub own : name.queue ≡ queue
  pub cause : HasCause name place found
  pub byte : Told → AmongBytes (image name) (λ file. (place < length file) × (found ≡ slice_index file place))
  pub refuses : Told → (sharing : Sharing) (ms : List Message) → QueueSoundBy queue image sharing ms → ⊥
