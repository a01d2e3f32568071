-- When the files of one queue are sound: each is bare or of its form, and they hold some messages.
use Rattle.std.specs.Prelude.{◌≡◌, ℕ, List, [], ◌∷◌, length, Option, Some}
use Rattle.cq_disk.specs.Call.{Image}
use Rattle.cq_small.specs.Store.{small_name}
use Rattle.cq_index.specs.Places.{index_name}
use Rattle.cq_entry.specs.declared.entry.EntryKind.TheVariants.{Small as SmallEntry, Shared as SharedEntry}
use Rattle.cq_journal.specs.declared.event.Message.{Message}
use Rattle.cq_journal.specs.Lists.{HasDistinctIds}
use Rattle.cq_folder.specs.Held.{IsFormedAs, contents_of}
use Rattle.cq_folder.specs.Folder.{Sharing, folder_of, IsShelved, HoldsIn}
use Rattle.cq_folder.specs.Holding.{IsAt}
use Rattle.cq_back_q.specs.declared.found.HeldEntry.{HeldEntry}

-- Beside these shared files the queue's files are sound: each is bare or of its form, and they hold these messages, no id
-- twice.
pub record QueueSoundBy (queue : ℕ) (image : Image) (sharing : Sharing) (ms : List Message) : Type 0 where
  pub indexes : (n : ℕ) → IsFormedAs (index_name queue n) (image (index_name queue n))
  pub smalls : (n : ℕ) → IsFormedAs (small_name queue n) (image (small_name queue n))
  pub held : HoldsIn (folder_of sharing (contents_of image)) queue ms
  pub once : HasDistinctIds ms

-- the message of an entry, beside these shared files: a small one has the body that was read, a shared one its record in
-- a shared file
pub record IsFound (sharing : Sharing) (h : HeldEntry) (body : Option (List ℕ)) (m : Message) : Type 0 where
  pub id : m.id ≡ h.entry.id
  pub len : length m.body ≡ h.entry.len
  pub kind : h.entry.kind ≡ sharing.kinds m
  pub small : h.entry.kind ≡ SmallEntry → body ≡ Some m.body
  pub shelved : h.entry.kind ≡ SharedEntry → IsShelved sharing.shelves m

abbrev pub AreFound : Sharing → List HeldEntry → List (Option (List ℕ)) → List Message → Type 0
AreFound sharing [] [] [] = Unit {0}
AreFound sharing (h ∷ held) (body ∷ bodies) (m ∷ ms) = IsFound sharing h body m × AreFound sharing held bodies ms
AreFound sharing _ _ _ = ⊥

-- an entry stands at its place of its segment
abbrev pub IsHeldAt : Image → HeldEntry → Type 0
IsHeldAt image h = IsAt (contents_of image (index_name h.queue h.segment)) h.at h.entry
