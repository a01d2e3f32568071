-- What an opening of a folder finds.
use Rattle.std.specs.Prelude.{◌≡◌, ℕ, ◌<◌, ◌==◌, if◌then◌else◌, Bool, false, List, [], ◌∷◌, ◌++◌, Option, None, Some, map}
use Rattle.std.specs.List.{AllByRecursion}
use Rattle.cq_disk.specs.declared.name.Name.{Name}
use Rattle.cq_disk.specs.File.{File}
use Rattle.cq_entry.specs.declared.entry.EntryKind.TheVariants.{Small as SmallEntry}
use Rattle.cq_journal.specs.declared.event.Message.{Message}
use Rattle.cq_bytes.specs.Numbers.{contains}
use Rattle.cq_folder.specs.Held.{as_read, IsSettled}
use Rattle.cq_folder.specs.Queue.{HasNoStray}
use Rattle.cq_folder.specs.Standing.{StillSound}
use Rattle.cq_folder.specs.Steady.{AreSound}
use Rattle.cq_back_q.specs.declared.found.FoundQueue.{FoundQueue}
use Rattle.cq_back_q.specs.declared.found.HeldEntry.{HeldEntry}
use Rattle.cq_back_q.specs.declared.found.ListedQueue.{ListedQueue}
use Rattle.cq_back_q.specs.declared.found.FoundFolder.{FoundFolder}
use Rattle.cq_back_q.specs.Folder.{HasNoFile, HasNoShelf}
use Rattle.cq_back_q.specs.Found.{IsFoundOf}
use Rattle.cq_back_q.specs.Numbers.{Rise}
use Rattle.cq_back_q.specs.Read.{IsSoundOf, IsOpenedAt}

-- ---- the messages

-- a body that was read, and none of a shared message
abbrev pub body_in : Option (List ℕ) → List ℕ
body_in None = []
body_in (Some body) = body

abbrev pub message_of : HeldEntry → Option (List ℕ) → Message
message_of h body = record { id = h.entry.id; body = body_in body }

-- the messages of entries, with these bodies
abbrev pub messages_of : List HeldEntry → List (Option (List ℕ)) → List Message
messages_of [] bodies = []
messages_of (h ∷ held) [] = []
messages_of (h ∷ held) (body ∷ bodies) = message_of h body ∷ messages_of held bodies

abbrev pub messages_in : ListedQueue → List Message
messages_in l = messages_of l.found.held.items l.found.bodies.items

-- the messages of each queue
abbrev pub lines_of : List ListedQueue → ℕ → List Message
lines_of [] q = []
lines_of (l ∷ queues) q = if l.queue == q then messages_in l else lines_of queues q

-- ---- the queues

abbrev pub queues_of : List ListedQueue → List ℕ
queues_of queues = map (λ l. l.queue) queues

-- every entry is a small one
abbrev pub AreSmall : List HeldEntry → Type 0
AreSmall held = AllByRecursion (λ h. h.entry.kind ≡ SmallEntry) held

-- queues that rise by number, below 256, each with what an opening found of it
pub record AreListed (queues : List ListedQueue) : Type 0 where
  pub rise : Rise (queues_of queues)
  pub below : AllByRecursion (λ l. l.queue < 256) queues
  pub each : AllByRecursion (λ l. IsFoundOf l.queue l.found) queues

-- every entry of the queues is a small one, no id stands twice in a queue, and one id has one body in all queues
pub record AreAgreed (queues : List ListedQueue) : Type 0 where
  pub small : AllByRecursion (λ l. AreSmall l.found.held.items) queues
  pub sound : AreSound (lines_of queues)

-- what an opening finds of a folder: open files of its queues, and small messages that agree
pub record IsFoundFolder (found : FoundFolder) : Type 0 where
  pub listed : AreListed found.queues.items
  pub agreed : AreAgreed found.queues.items

-- ---- where the disk tells its files

-- the queue's files are where the opening left them, and hold what was found
pub record IsReadQueue (queue : ℕ) (files : Name → Option File) (found : FoundQueue) : Type 0 where
  pub sound : IsSoundOf queue (as_read files) found
  pub at : IsOpenedAt queue found files

-- the same of each of these queues, and no other queue has a file
pub record AreReadQueues (queues : List ListedQueue) (files : Name → Option File) : Type 0 where
  pub each : AllByRecursion (λ l. IsReadQueue l.queue files l.found) queues
  pub none : (q : ℕ) → contains (queues_of queues) q ≡ false → HasNoFile q files

-- What was found stands in the files now, no small store is there without its index, and no shared file has a record. All
-- of each file is on the disk, so whatever a crash leaves holds the messages that were found.
pub record IsOpenedFolder (found : FoundFolder) (files : Name → Option File) : Type 0 where
  pub queues : AreReadQueues found.queues.items files
  pub no_stray : (q : ℕ) → HasNoStray q files
  pub no_shelf : HasNoShelf (as_read files)
  pub settled : (n : Name) → IsSettled (files n)
  pub still : StillSound files (lines_of found.queues.items)
