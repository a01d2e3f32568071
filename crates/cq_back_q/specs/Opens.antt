-- Why a folder is refused, and what its opening keeps.
use Rattle.std.specs.Prelude.{◌≡◌, ◌⊎◌, ℕ, ◌+◌, ◌<◌, List, [], ◌∷◌, length, Option, Some, None, slice_index}
use Rattle.cq_disk.specs.declared.disk.Disk.{Ghosts}
use Rattle.cq_disk.specs.declared.name.Name.{Name}
use Rattle.cq_disk.specs.declared.name.Kind.TheVariants.{Index, Shared}
use Rattle.cq_disk.specs.Call.{Image}
use Rattle.cq_disk.specs.Files.{AmongBytes, IsImage}
use Rattle.cq_disk.specs.Run.{LeavesOnly}
use Rattle.cq_entry.specs.declared.entry.Entry.{Entry}
use Rattle.cq_entry.specs.declared.entry.EntryKind.TheVariants.{Shared as SharedEntry}
use Rattle.cq_entry.specs.Entry.{IsEntry, entry_bytes}
use Rattle.cq_index.specs.Places.{index_name, place_of}
use Rattle.cq_journal.specs.declared.event.Message.{Message}
use Rattle.cq_journal.specs.Lists.{IsIn}
use Rattle.cq_folder.specs.Held.{as_read}
use Rattle.cq_folder.specs.Standing.{StillSound}
use Rattle.cq_folder.specs.Steady.{IsUnsound, SoundBy}
use Rattle.cq_back_q.specs.declared.error.BackError.{BackError}
use Rattle.cq_back_q.specs.declared.error.BackError.TheVariants.{Fault}
use Rattle.cq_back_q.specs.declared.found.HeldEntry.{HeldEntry}
use Rattle.cq_back_q.specs.declared.found.ListedQueue.{ListedQueue}
use Rattle.cq_back_q.specs.Damage.{HasCause, IfDamaged}
use Rattle.cq_back_q.specs.Folder.{HasNoShelf, IsImageOrWithout, ReadsSame}
use Rattle.cq_back_q.specs.Listed.{messages_in}

-- ---- entries that don't agree

-- An entry doesn't fit messages that are known, for its field that begins at this byte: it is a shared one; or its id is
-- known with another body.
pub data IsOdd (known : Message → Type 0) (h : HeldEntry) (body : Option (List ℕ)) (byte : ℕ) : Type 0 where
  OfShared : byte ≡ 1 → body ≡ None → IsOdd known h body byte
  OfOther : byte ≡ 8 → (own : List ℕ) → body ≡ Some own → (m : Message) → known m → m.id ≡ h.entry.id → (m.body ≡ own → ⊥)
      → IsOdd known h body byte

-- the field of this entry is told
pub record IsToldOf (h : HeldEntry) (byte : ℕ) (name : Name) (place found : ℕ) : Type 0 where
  pub name_is : name ≡ index_name h.queue h.segment
  pub place_is : place ≡ place_of h.at + byte
  pub found_is : found ≡ slice_index (entry_bytes h.entry) byte

-- an entry doesn't fit messages that are known, and is told
pub record IsOddEntry (known : Message → Type 0) (h : HeldEntry) (body : Option (List ℕ)) (name : Name) (place found : ℕ) : Type 0 where
  pub byte : ℕ
  pub odd : IsOdd known h body byte
  pub told : IsToldOf h byte name place found

-- an entry stands beside a body
abbrev pub IsPairIn : List HeldEntry → List (Option (List ℕ)) → HeldEntry → Option (List ℕ) → Type 0
IsPairIn (h ∷ held) (body ∷ bodies) g b = ((h ≡ g) × (body ≡ b)) ⊎ IsPairIn held bodies g b
IsPairIn _ _ g b = ⊥

-- some entry of a queue doesn't fit messages that are known, and is told
pub record IsOddIn (known : Message → Type 0) (l : ListedQueue) (name : Name) (place found : ℕ) : Type 0 where
  pub held : HeldEntry
  pub body : Option (List ℕ)
  pub is_in : IsPairIn l.found.held.items l.found.bodies.items held body
  pub odd : IsOddEntry known held body name place found

-- a message of one of these queues
pub record IsAmong (queues : List ListedQueue) (m : Message) : Type 0 where
  pub of_queue : ListedQueue
  pub listed : IsIn queues of_queue
  pub is_in : IsIn (messages_in of_queue) m

-- some entry of these queues is a shared one, or another body of its id is among them
pub record DoNotAgree (queues : List ListedQueue) (name : Name) (place found : ℕ) : Type 0 where
  pub of_queue : ListedQueue
  pub listed : IsIn queues of_queue
  pub odd : IsOddIn (IsAmong queues) of_queue name place found

-- ---- why a folder is refused

-- a valid entry was read at a place of an index, and its kind or its id is told
pub record ReadOdd (place found : ℕ) : Type 0 where
  pub at : ℕ
  pub entry : Entry
  pub valid : IsEntry entry
  pub byte : ℕ
  pub field : ((byte ≡ 1) × (entry.kind ≡ SharedEntry)) ⊎ (byte ≡ 8)
  pub place_is : place ≡ place_of at + byte
  pub found_is : found ≡ slice_index (entry_bytes entry) byte

-- What was read of this file breaks a rule at this place, where this byte stood: a rule of one queue; a shared entry,
-- while no shared file has a record, or an id that an earlier queue has with another body; or a shared file's first
-- record, since none is served.
pub data BreaksRule (name : Name) (place found : ℕ) : Type 0 where
  OfQueue : HasCause name place found → BreaksRule name place found
  OfOdd : name.kind ≡ Index → ReadOdd place found → BreaksRule name place found
  OfShelf : name.kind ≡ Shared → place ≡ 128 → BreaksRule name place found

-- Why a folder is refused: what was read of one of its files breaks a rule. Where the disk tells its files, the byte stands
-- there; and if no shared file is longer than 128 bytes, the folder isn't sound.
pub record IsFolderDamaged (Told : Type 0) (image : Image) (name : Name) (place found : ℕ) : Type 0 where
  pub cause : BreaksRule name place found
  pub byte : Told → AmongBytes (image name) (λ file. (place < length file) × (found ≡ slice_index file place))
  pub refuses : Told → HasNoShelf image → IsUnsound image

-- What is so after a refusal. Without a fault only syncs and reads were done, and of a folder that isn't sound also with
-- one.
pub record RefusesFolder {D : Type 0} (g : Ghosts D) (old new : D) (error : BackError) : Type 0 where
  pub reads : g.tells → (error ≡ Fault → ⊥) → ReadsSame (g.files old) (g.files new)
  pub only_reads : g.tells → (error ≡ Fault → ⊥) → LeavesOnly g old new (IsImage (g.files old))
  pub unsound : g.tells → IsUnsound (as_read (g.files old)) → LeavesOnly g old new (IsImage (g.files old))

-- Whichever the answer: no file is new; a crash at any moment leaves what it could have left before, with the small stores
-- that have no index or without; and what every such image held before it holds.
pub record KeepsFolder {D : Type 0} (g : Ghosts D) (old new : D) : Type 0 where
  pub no_new : g.tells → (n : Name) → g.files old n ≡ None → g.files new n ≡ None
  pub any_moment : g.tells → LeavesOnly g old new (IsImageOrWithout (g.files old))
  pub meanwhile : g.tells → (lines : ℕ → List Message) → StillSound (g.files old) lines → LeavesOnly g old new (λ image. SoundBy image lines)
