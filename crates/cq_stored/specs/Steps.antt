-- A node's steps on one of its queues, composed of what the queue's calls promise: whatever other queues hold.
use Rattle.std.specs.Prelude.{◌≡◌, ◌≢◌, ℕ, List, Option}
use Rattle.cq_disk.specs.declared.name.Name.{Name}
use Rattle.cq_disk.specs.declared.disk.Disk.{Ghosts}
use Rattle.cq_disk.specs.File.{File}
use Rattle.cq_entry.specs.declared.entry.EntryKind.TheVariants.{Small}
use Rattle.cq_journal.specs.declared.event.Entry.{Entry}
use Rattle.cq_journal.specs.declared.event.Message.{Message}
use Rattle.cq_journal.specs.Legal.{Legal}
use Rattle.cq_folder.specs.Folder.{Sharing}
use Rattle.cq_folder.specs.Steady.{Steady}
use Rattle.cq_folder.specs.Standing.{Standing}
use Rattle.cq_folder.specs.Holding.{joined, without}
use Rattle.cq_folder.specs.HeldLaws.{settle_all}
use Rattle.cq_items.specs.Item.{Item}
use Rattle.cq_items.specs.Items.{settling_ids}
use Rattle.cq_queue_laws.specs.Follows.{Follows}
use Rattle.cq_queue.specs.Files.{ComesHeld, ComesHeldOn, LosesHeld, LosesHeldOn, StaysHeld, StaysHeldOn}
use Rattle.cq_queue.specs.declared.segment.QueueSegment.{QueueSegment}
use Rattle.cq_queue.specs.Laid.{AreShelved}
use Rattle.cq_queue.specs.Lists.{AreOf}
use Rattle.cq_queue.specs.Tied.{AreSplit, IsQueueAt, OtherFilesStay}
use Rattle.cq_stored.specs.Stored.{coming, AreStored, AreBodies}

-- another queue's files are as its own calls left them
abbrev pub OtherStays : Type 0
OtherStays = (queue other : ℕ) (list : List QueueSegment) (items : List Item) (old new : Name → Option File)
    → other ≢ queue → AreOf other list → OtherFilesStay queue old new → IsQueueAt other list items old
    → IsQueueAt other list items new

-- where each message is small, none needs a record in a shared file
abbrev pub SmallNeedNoShelf : Type 0
SmallNeedNoShelf = (sharing : Sharing) → ((m : Message) → sharing.kinds m ≡ Small) → (ms : List Message)
    → AreShelved sharing ms

-- a disk's journal is steady
abbrev pub IsSteady : {D : Type 0} → Ghosts D → D → List Entry → Type 0
IsSteady g disk past = Steady (g.left disk) (g.moment disk) past

-- What a queue's calls keep of the journal, and of what stands.
pub record StepLaws {D : Type 0} (g : Ghosts D) : Type 0 where
  -- a commit, whatever it answers; and what stands after Ok, before confirms and settlings are journaled
  pub commit_keeps : (old new : D) (sharing : Sharing) (past : List Entry) (lines : ℕ → List Message)
      (items : List Item) (q : ℕ) (skip : List ℕ) (room : ℕ) → Legal past → AreSplit items
      → AreBodies sharing.kinds items past q → AreStored items past q (lines q)
      → Standing (g.files old) sharing past lines
      → ComesHeldOn g old new q sharing (coming skip room items past q)
      → IsSteady g old past → IsSteady g new past
  pub commit_stands : (old new : D) (sharing : Sharing) (past : List Entry) (lines : ℕ → List Message)
      (items : List Item) (q : ℕ) (skip : List ℕ) (room : ℕ) → Legal past → AreSplit items
      → AreBodies sharing.kinds items past q → AreStored items past q (lines q)
      → Standing (g.files old) sharing past lines
      → ComesHeld (g.files old) (g.files new) q sharing (coming skip room items past q)
      → Standing (g.files new) sharing past (joined q (coming skip room items past q) lines)
  -- a settling, whatever it answers; and after Ok with its entries
  pub settle_keeps : (old new : D) (sharing : Sharing) (past : List Entry) (lines : ℕ → List Message)
      (items : List Item) (q : ℕ) → Legal past → Follows items past q → Standing (g.files old) sharing past lines
      → LosesHeldOn g old new q (settling_ids items) → IsSteady g old past → IsSteady g new past
  pub settled : (old new : D) (sharing : Sharing) (past : List Entry) (lines : ℕ → List Message) (items : List Item)
      (q : ℕ) → Legal past → Follows items past q → Standing (g.files old) sharing past lines
      → LosesHeldOn g old new q (settling_ids items)
      → LosesHeld (g.files old) (g.files new) q (settling_ids items) → IsSteady g old past
      → IsSteady g new (settle_all (g.moment new) q (settling_ids items) past)
  pub settle_stands : (old new : D) (sharing : Sharing) (past : List Entry) (lines : ℕ → List Message)
      (items : List Item) (q : ℕ) → Legal past → Follows items past q → Standing (g.files old) sharing past lines
      → LosesHeld (g.files old) (g.files new) q (settling_ids items)
      → Standing (g.files new) sharing past (without q (settling_ids items) lines)
  pub settled_stands : (old new : D) (sharing : Sharing) (past : List Entry) (lines : ℕ → List Message)
      (items : List Item) (q stamp : ℕ) → Legal past → Follows items past q
      → Standing (g.files old) sharing past lines → LosesHeld (g.files old) (g.files new) q (settling_ids items)
      → Standing (g.files new) sharing (settle_all stamp q (settling_ids items) past)
      (without q (settling_ids items) lines)
  -- the removal of a segment
  pub remove_keeps : (old new : D) (sharing : Sharing) (past : List Entry) (lines : ℕ → List Message) → Legal past
      → Standing (g.files old) sharing past lines → StaysHeldOn g old new → IsSteady g old past → IsSteady g new past
  pub remove_stands : (old new : D) (sharing : Sharing) (past : List Entry) (lines : ℕ → List Message) → Legal past
      → Standing (g.files old) sharing past lines → StaysHeld (g.files old) (g.files new)
      → Standing (g.files new) sharing past lines
