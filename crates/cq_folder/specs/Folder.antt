-- The messages that the files of a folder hold, read off the whole files.
use Rattle.std.specs.BTreeMap.{is_at}
use Rattle.cq_disk.specs.Names.{name_cmp}
use Rattle.std.specs.Prelude.{◌≡◌, ℕ, zero, suc, ◌≤◌, List, [], ◌∷◌, ◌++◌, length, take, drop, Option, ◌-◌, true, map, ◌≢◌, ◌==◌, if◌then◌else◌}
use Rattle.cq_journal.specs.Lists.{HasDistinctIds, IsIn}
use Rattle.std.specs.List.{AllZip}
use Rattle.cq_disk.specs.declared.name.Name.{Name}
use Rattle.cq_gate.specs.Format.{content}
use Rattle.cq_entry.specs.declared.entry.Entry.{Entry}
use Rattle.cq_entry.specs.declared.entry.EntryKind.{EntryKind}
use Rattle.cq_entry.specs.declared.entry.EntryKind.TheVariants.{Small, Shared as SharedEntry}
use Rattle.cq_entry.specs.declared.entry.Seen.{Seen}
use Rattle.cq_entry.specs.declared.entry.Seen.TheVariants.{Gone, Present}
use Rattle.cq_entry.specs.Entry.{IsSeen}
use Rattle.cq_small.specs.Record.{StandsIn}
use Rattle.cq_small.specs.Store.{small_name}
use Rattle.cq_index.specs.Codec.{entry_len, most_entries}
use Rattle.cq_index.specs.Places.{index_name}
use Rattle.cq_journal.specs.declared.event.Message.{Message}
use Rattle.cq_journal.specs.History.{has_id}
use Rattle.cq_block.specs.Blocks.{told_id}
use Rattle.cq_rdq.specs.Records.{HasRecordsIn}

-- the content is these entries, one after another, present or gone, of 32 bytes each
abbrev pub AreEntries : List ℕ → List Seen → Type 0
AreEntries content [] = content ≡ []
AreEntries content (s ∷ seen) = (entry_len ≤ length content) × IsSeen (take entry_len content) s × AreEntries (drop entry_len content) seen

-- those that are present
abbrev pub present : List Seen → List Entry
present [] = []
present (Gone ∷ seen) = present seen
present (Present e ∷ seen) = e ∷ present seen

-- an entry, and the number of its segment
pub record Spot : Type 0 where
  pub segment : ℕ
  pub entry : Entry

abbrev pub spots : ℕ → List Entry → List Spot
spots n [] = []
spots n (e ∷ es) = record { segment = n; entry = e } ∷ spots n es

-- the lists of the numbers below a bound, joined
abbrev pub below : {A : Type 0} → (ℕ → List A) → ℕ → List A
below f zero = []
below f (suc n) = below f n ++ f n

-- the message whose record these bytes are
abbrev pub message_in : List ℕ → Message
message_in record_bytes = record { id = told_id record_bytes; body = take (length record_bytes - 25) (drop 24 record_bytes) }

-- the shared file has the records of these messages, in the order of their places
pub record HasShelf (file : Option (List ℕ)) (ms : List Message) : Type 0 where
  pub records : List (List ℕ)
  pub are : HasRecordsIn file records
  pub messages : ms ≡ map message_in records

-- What counts of a folder: the contents of indexes and small stores; the messages whose records each shared file has;
-- and of which kind a message's entries are.
pub record Folder : Type 0 where
  pub contents : Name → List ℕ
  pub shelves : ℕ → List Message
  pub kinds : Message → EntryKind

-- What a folder has beside its indexes and small stores: the messages whose records each shared file has, and of which
-- kind a message's entries are. A queue's own calls change none of it.
pub record Sharing : Type 0 where
  pub shelves : ℕ → List Message
  pub kinds : Message → EntryKind

abbrev pub sharing_of : Folder → Sharing
sharing_of folder = record { shelves = folder.shelves; kinds = folder.kinds }

-- the folder with these contents
abbrev pub folder_of : Sharing → (Name → List ℕ) → Folder
folder_of sharing contents = record { contents = contents; shelves = sharing.shelves; kinds = sharing.kinds }

-- no id has two records, in one shared file or in two
pub record AreApart (shelves : ℕ → List Message) : Type 0 where
  pub once : (k : ℕ) → HasDistinctIds (shelves k)
  pub apart : (j k x : ℕ) → has_id (shelves j) x ≡ true → has_id (shelves k) x ≡ true → j ≡ k

-- a message's record stands in some shared file
abbrev pub IsShelved : (ℕ → List Message) → Message → Type 0
IsShelved shelves m = (k : ℕ) × IsIn (shelves k) m

-- The entry of a queue's segment is that of this message. The record of a small one stands at the entry's place of the
-- segment's small store, that of a shared one in a shared file.
pub record IsMessageOf (folder : Folder) (queue : ℕ) (spot : Spot) (m : Message) : Type 0 where
  pub id : m.id ≡ spot.entry.id
  pub len : length m.body ≡ spot.entry.len
  pub kind : spot.entry.kind ≡ folder.kinds m
  pub stands : spot.entry.kind ≡ Small
      → StandsIn (folder.contents (small_name queue spot.segment)) spot.entry.place m.body
  pub shelved : spot.entry.kind ≡ SharedEntry → IsShelved folder.shelves m

-- Each segment of the queue is at most 4096 entries, and these are the messages of those that are present, by rising
-- segment and place.
pub record HoldsIn (folder : Folder) (queue : ℕ) (ms : List Message) : Type 0 where
  pub seen : ℕ → List Seen
  pub entries : (n : ℕ) → AreEntries (folder.contents (index_name queue n)) (seen n)
  pub short : (n : ℕ) → length (seen n) ≤ most_entries
  -- from this number on no segment has a present entry
  pub most : ℕ
  pub none : (n : ℕ) → most ≤ n → present (seen n) ≡ []
  pub each : AllZip (IsMessageOf folder queue) (below (λ n. spots n (present (seen n))) most) ms

-- the folder holds these messages of each queue
abbrev pub Holds : Folder → (ℕ → List Message) → Type 0
Holds folder lines = (queue : ℕ) → HoldsIn folder queue (lines queue)

-- these bytes have joined the content of one file, and nothing else has changed
pub record Grows (name : Name) (bytes : List ℕ) (old new : Folder) : Type 0 where
  pub this : new.contents name ≡ old.contents name ++ bytes
  pub others : (n : Name) → n ≢ name → new.contents n ≡ old.contents n
  pub shelves : new.shelves ≡ old.shelves
  pub kinds : new.kinds ≡ old.kinds

-- the folder, once these bytes have joined the content of one file
abbrev pub grown : Folder → Name → List ℕ → Folder
grown folder name bytes = record folder { contents = λ n. if is_at (name_cmp name) n then folder.contents n ++ bytes else folder.contents n }

-- where a shared file has the records of these messages
abbrev pub with_shelf : Sharing → ℕ → List Message → Sharing
with_shelf sharing k ms = record sharing { shelves = λ j. if j == k then ms else sharing.shelves j }

-- once the records of these messages have joined a shared file
abbrev pub with_records : Sharing → ℕ → List Message → Sharing
with_records sharing k ms = with_shelf sharing k (sharing.shelves k ++ ms)

-- the same of a whole folder
abbrev pub shelf_in : Folder → ℕ → List Message → Folder
shelf_in folder k ms = folder_of (with_shelf (sharing_of folder) k ms) folder.contents

abbrev pub shelf_joined : Folder → ℕ → List Message → Folder
shelf_joined folder k ms = folder_of (with_records (sharing_of folder) k ms) folder.contents
