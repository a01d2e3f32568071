-- What files hold, apart from any journal, as messages come and leave.
use Rattle.cq_rdq.specs.Records.{shared_name}
use Rattle.cq_entry.specs.declared.entry.EntryKind.TheVariants.{Shared as SharedEntry}
use Rattle.cq_journal.specs.History.{has_id}
use Rattle.cq_journal.specs.Lists.{HasDistinctIds, IsIn}
use Rattle.std.specs.Prelude.{◌≡◌, ◌≢◌, ◌⊎◌, ℕ, ◌+◌, ◌*◌, ◌≤◌, ◌==◌, true, not, if◌then◌else◌, List, [], ◌∷◌, length, filter, Contains, Option, ◌<◌, ◌++◌, false}
use Rattle.std.specs.List.{AllByRecursion, AllZip}
use Rattle.cq_bytes.specs.Numbers.{contains}
use Rattle.cq_disk.specs.declared.name.Name.{Name}
use Rattle.cq_disk.specs.Call.{Image}
use Rattle.cq_disk.specs.File.{File}
use Rattle.cq_disk.specs.Files.{OnFile, IsImageOf}
use Rattle.cq_gate.specs.Format.{kind_byte}
use Rattle.cq_gate.specs.Gated.{From, Step}
use Rattle.cq_entry.specs.declared.entry.Entry.{Entry as IndexEntry}
use Rattle.cq_entry.specs.declared.entry.Seen.{Seen}
use Rattle.cq_entry.specs.Entry.{entry_bytes, IsPresent}
use Rattle.cq_index.specs.Codec.{entry_len, most_entries}
use Rattle.cq_index.specs.Opened.{piece_at}
use Rattle.cq_index.specs.Gone.{AreGone, StatusesOnly}
use Rattle.cq_index.specs.Places.{index_name}
use Rattle.cq_journal.specs.declared.event.Message.{Message}
use Rattle.cq_folder.specs.Held.{Held, Still, IsFormedAs}
use Rattle.cq_folder.specs.Folder.{AreEntries, present, spots, Folder, Sharing, folder_of, AreApart, IsMessageOf, Holds, HasShelf}

-- the image holds some messages of which P is true
pub record HoldsSome (P : (ℕ → List Message) → Type 0) (image : Image) : Type 0 where
  pub lines : ℕ → List Message
  pub is : P lines
  pub by : Held image lines

-- Whatever a crash leaves now holds these messages, beside these shared files.
pub record StillHeld (files : Name → Option File) (sharing : Sharing) (lines : ℕ → List Message) : Type 0 where
  pub contents : Name → List ℕ
  pub still : Still files (folder_of sharing contents)
  pub holds : Holds (folder_of sharing contents) lines
  pub apart : AreApart sharing.shelves

-- ---- messages come

-- no later segment of the queue has a present entry
abbrev pub IsLast : (Name → List ℕ) → ℕ → ℕ → Type 0
IsLast contents queue number = (k : ℕ) → number < k → (seen : List Seen)
    → AreEntries (contents (index_name queue k)) seen → present seen ≡ []

-- the messages, where these have joined those of one queue
abbrev pub joined : ℕ → List Message → (ℕ → List Message) → ℕ → List Message
joined queue new lines q = if q == queue then lines q ++ new else lines q

-- The records of these messages stand there, these are their entries, the segment has room for them, and no later one
-- has any. It says nothing of a journal.
pub record Come (folder : Folder) (queue number : ℕ) (entries : List IndexEntry) (ms : List Message) : Type 0 where
  pub valid : AllByRecursion (λ e. IsPresent (entry_bytes e) e) entries
  pub room : length (folder.contents (index_name queue number)) + entry_len * length entries ≤ entry_len * most_entries
  pub last : IsLast folder.contents queue number
  pub placed : AllZip (IsMessageOf folder queue) (spots number entries) ms

-- these messages, or those with the new ones of a queue
abbrev pub IsEither : (ℕ → List Message) → ℕ → List Message → (ℕ → List Message) → Type 0
IsEither old queue ms new = (new ≡ old) ⊎ (new ≡ joined queue ms old)

-- ---- messages leave

-- a list is made of those that are kept and those that left, each in its order
abbrev pub Splits : {A : Type 0} → List A → List A → List A → Type 0
Splits [] kept left = (kept ≡ []) × (left ≡ [])
Splits {A} (x ∷ xs) kept left = ((rest : List A) × ((kept ≡ x ∷ rest) × Splits xs rest left)) ⊎ ((rest : List A) × ((left ≡ x ∷ rest) × Splits xs kept rest))

-- the messages but those of these ids
abbrev pub left_out : List ℕ → List Message → List Message
left_out ids ms = filter (λ m. not (contains ids m.id)) ms

-- the messages, where those of these ids have left one queue
abbrev pub without : ℕ → List ℕ → (ℕ → List Message) → ℕ → List Message
without queue ids lines q = if q == queue then left_out ids (lines q) else lines q

-- some of the messages of these ids have left one queue
pub record LosesSome (queue : ℕ) (ids : List ℕ) (old new : ℕ → List Message) : Type 0 where
  pub left : List Message
  pub this : Splits (old queue) (new queue) left
  pub of_ids : AllByRecursion (λ m. contains ids m.id ≡ true) left
  pub others : (q : ℕ) → q ≢ queue → new q ≡ old q

-- in what a crash leaves, some of these entries of a file may be gone; each other file is as it might have been left at the start
abbrev pub MayHaveFaded : Name → List ℕ → (Name → Option File) → Image → Type 0
MayHaveFaded name at files image = OnFile name files (From (files name) (StatusesOnly (kind_byte name.kind) at)) image

-- these entries of a file are gone, and all of it is on the disk; each other file is as it was
pub record HasFaded (name : Name) (at : List ℕ) (old new : Name → Option File) : Type 0 where
  pub this : Step (old name) (new name) (AreGone at)
  pub others : (n : Name) → n ≢ name → new n ≡ old n

-- this entry is present at a place of a content
pub record IsAt (content : List ℕ) (k : ℕ) (e : IndexEntry) : Type 0 where
  pub inside : entry_len * k + entry_len ≤ length content
  pub is : IsPresent (piece_at content k) e

-- at these places of a content stand the present entries of these ids
pub record AreAtPlaces (content : List ℕ) (at ids : List ℕ) : Type 0 where
  pub each : (k : ℕ) → Contains at k → (e : IndexEntry) × (IsAt content k e × (contains ids e.id ≡ true))
  pub all : (x : ℕ) → contains ids x ≡ true
      → (k : ℕ) × (Contains at k × ((e : IndexEntry) × (IsAt content k e × (e.id ≡ x))))

-- ---- shared files

-- These messages may join a shared file: no shared file has a record with one of their ids, and no id stands twice among them.
pub record AreNew (sharing : Sharing) (ms : List Message) : Type 0 where
  pub once : HasDistinctIds ms
  pub fresh : (k x : ℕ) → has_id ms x ≡ true → has_id (sharing.shelves k) x ≡ false

-- A shared file may have the records of these messages in the place of its own: each of them is among its own, and each
-- that a present entry names is among them.
pub record MayReplace (sharing : Sharing) (lines : ℕ → List Message) (k : ℕ) (ms : List Message) : Type 0 where
  pub once : HasDistinctIds ms
  pub among : (x : ℕ) → has_id ms x ≡ true → has_id (sharing.shelves k) x ≡ true
  pub named : (q : ℕ) (m : Message) → IsIn (lines q) m → sharing.kinds m ≡ SharedEntry → IsIn (sharing.shelves k) m
      → IsIn ms m

-- the shared file is of its form, and has records that it may have in the place of its own
pub record IsReplaced (sharing : Sharing) (lines : ℕ → List Message) (k : ℕ) (file : Option (List ℕ)) : Type 0 where
  pub messages : List Message
  pub formed : IsFormedAs (shared_name k) file
  pub has : HasShelf file messages
  pub may : MayReplace sharing lines k messages

-- in what a crash leaves, this shared file is as it might have been left at the start, or was replaced; each other is as
-- it might have been left at the start
pub record Replaces (sharing : Sharing) (lines : ℕ → List Message) (k : ℕ) (files : Name → Option File)
    (image : Image) : Type 0 where
  pub this : IsImageOf (files (shared_name k))
      (image (shared_name k)) ⊎ IsReplaced sharing lines k (image (shared_name k))
  pub others : (n : Name) → n ≢ shared_name k → IsImageOf (files n) (image n)

-- ---- files are removed

-- a content that has no present entry
abbrev pub IsOver : List ℕ → Type 0
IsOver content = (seen : List Seen) → AreEntries content seen → present seen ≡ []
