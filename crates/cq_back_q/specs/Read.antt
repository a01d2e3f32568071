-- What an opening has read of a queue's files, where the disk tells them.
use Rattle.std.specs.Prelude.{◌≡◌, ℕ, List, Option, IfSome}
use Rattle.std.specs.List.{AllByRecursion, AllZip}
use Rattle.cq_disk.specs.declared.name.Name.{Name}
use Rattle.cq_disk.specs.Call.{Image}
use Rattle.cq_disk.specs.File.{File}
use Rattle.cq_disk.specs.Files.{IsThere}
use Rattle.cq_entry.specs.declared.entry.EntryKind.TheVariants.{Small as SmallEntry}
use Rattle.cq_small.specs.declared.store.SmallStore.{SmallStore}
use Rattle.cq_small.specs.Record.{StandsIn}
use Rattle.cq_small.specs.Store.{small_name}
use Rattle.cq_index.specs.declared.segment.Segment.{Segment}
use Rattle.cq_index.specs.Segments.{Knows, name_of}
use Rattle.cq_journal.specs.declared.event.Message.{Message}
use Rattle.cq_folder.specs.Folder.{Sharing}
use Rattle.cq_folder.specs.Held.{IsFormedAs, as_read, contents_of}
use Rattle.cq_folder.specs.Queue.{AreIndexesAt, AreStoresAt}
use Rattle.cq_back_q.specs.declared.found.HeldEntry.{HeldEntry}
use Rattle.cq_back_q.specs.declared.found.FoundQueue.{FoundQueue}
use Rattle.cq_back_q.specs.Sound.{AreFound, IsHeldAt, QueueSoundBy}

-- These are all indexes of the queue, each knows its file, and says what the file has.
pub record AreReadIndexes (queue : ℕ) (segments : List Segment) (files : Name → Option File) : Type 0 where
  pub at : AreIndexesAt queue segments files
  pub known : AllByRecursion (λ s. IsThere (files (name_of s)) (Knows s)) segments

-- These are all small stores of these segments, each knows its file; that of another number is of its form too.
pub record AreReadStores (queue : ℕ) (segments : List Segment) (stores : List SmallStore) (files : Name → Option File) : Type 0 where
  pub at : AreStoresAt queue segments stores files
  pub formed : (n : ℕ) → IsFormedAs (small_name queue n) (as_read files (small_name queue n))

-- the files that were opened are the queue's
pub record AreReadFiles (queue : ℕ) (segments : List Segment) (stores : List SmallStore) (files : Name → Option File) : Type 0 where
  pub indexes : AreReadIndexes queue segments files
  pub smalls : AreReadStores queue segments stores files

-- an entry stands at its place of its segment, and the record of its body in the segment's small store
pub record StandsAs (image : Image) (h : HeldEntry) (body : Option (List ℕ)) : Type 0 where
  pub at : IsHeldAt image h
  pub small : h.entry.kind ≡ SmallEntry
      → IfSome body (λ b. StandsIn (contents_of image (small_name h.queue h.segment)) h.entry.place b)

abbrev pub HaveStood : Image → List HeldEntry → List (Option (List ℕ)) → Type 0
HaveStood image held bodies = AllZip (StandsAs image) held bodies

-- Each entry that was found stands at its place. Whatever shared files there are, the queue's files hold exactly the
-- messages of these entries, in order.
pub record IsSoundOf (queue : ℕ) (image : Image) (found : FoundQueue) : Type 0 where
  pub stand : AllByRecursion (IsHeldAt image) found.held.items
  pub sound : (sharing : Sharing) (ms : List Message) → AreFound sharing found.held.items found.bodies.items ms
      → QueueSoundBy queue image sharing ms

-- the files are where the opening left them: all indexes of the queue, and the small stores of these segments
pub record IsOpenedAt (queue : ℕ) (found : FoundQueue) (files : Name → Option File) : Type 0 where
  pub indexes : AreIndexesAt queue found.segments.items files
  pub smalls : AreStoresAt queue found.segments.items found.stores.items files
