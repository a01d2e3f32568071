-- The two files of a segment of a queue, and what calls on them keep of what files hold.
use Rattle.std.specs.Prelude.{◌≡◌, ◌≢◌, ℕ, ◌+◌, ◌<◌, List, [], ◌∷◌, Option, Some, None, slice_get, Contains}
use Rattle.cq_disk.specs.declared.name.Name.{Name}
use Rattle.cq_disk.specs.declared.name.Kind.TheVariants.{Shared}
use Rattle.cq_disk.specs.declared.disk.Disk.{Ghosts}
use Rattle.cq_disk.specs.Run.{LeavesOnly}
use Rattle.cq_disk.specs.File.{File}
use Rattle.cq_gate.specs.declared.gate.Gate.{Gate}
use Rattle.cq_gate.specs.Gate.{header_calls}
use Rattle.cq_entry.specs.declared.entry.Entry.{Entry as IndexEntry}
use Rattle.cq_small.specs.declared.store.SmallStore.{SmallStore}
use Rattle.cq_small.specs.Record.{HasRecord, StandsIn}
use Rattle.cq_small.specs.Store.{IsSmallStore}
use Rattle.cq_index.specs.declared.segment.Segment.{Segment}
use Rattle.cq_index.specs.Places.{index_name}
use Rattle.cq_index.specs.Segments.{IsFiled}
use Rattle.cq_journal.specs.declared.event.Message.{Message}
use Rattle.cq_journal.specs.Lists.{HasDistinctIds}
use Rattle.cq_folder.specs.Folder.{Sharing, folder_of}
use Rattle.cq_folder.specs.Queue.{content_in}
use Rattle.cq_folder.specs.Holding.{HoldsSome, StillHeld, Come, IsAt, IsEither, LosesSome, joined, without}

-- how many device calls a gated append takes: a file is made where none is there, and a header written where none is
abbrev pub append_calls : Option Gate → ℕ
append_calls None = 8
append_calls (Some gate) = header_calls gate.len + 5

-- none where there are no bytes
abbrev pub some_calls : List ℕ → ℕ → ℕ
some_calls [] calls = 0
some_calls (b ∷ bytes) calls = calls

-- one call of a file that is there, none of one that isn't
abbrev pub file_calls : Option Gate → ℕ
file_calls None = 0
file_calls (Some gate) = 1

-- no later segment of the queue has an index
abbrev pub IsGreatest : (Name → Option File) → ℕ → ℕ → Type 0
IsGreatest files queue number = (k : ℕ) → number < k → files (index_name queue k) ≡ None

-- ---- what is held, whatever it is

-- what was held is held, beside the same shared files
abbrev pub StaysHeld : (Name → Option File) → (Name → Option File) → Type 0
StaysHeld old new = (sharing : Sharing) (lines : ℕ → List Message) → StillHeld old sharing lines → StillHeld new sharing lines

-- every image left meanwhile holds what was held
abbrev pub StaysHeldOn : {D : Type 0} → Ghosts D → D → D → Type 0
StaysHeldOn g old new = (sharing : Sharing) (lines : ℕ → List Message) → StillHeld (g.files old) sharing lines
    → LeavesOnly g old new (HoldsSome (λ l. l ≡ lines))

-- once entries have joined the index, their messages are held too
abbrev pub ComesHeld : (Name → Option File) → (Name → Option File) → ℕ → Sharing → List Message → Type 0
ComesHeld old new queue sharing ms = (lines : ℕ → List Message) → StillHeld old sharing lines → StillHeld new sharing (joined queue ms lines)

-- every image left meanwhile holds what was held, or the new messages too
abbrev pub ComesHeldOn : {D : Type 0} → Ghosts D → D → D → ℕ → Sharing → List Message → Type 0
ComesHeldOn g old new queue sharing ms = (lines : ℕ → List Message) → StillHeld (g.files old) sharing lines
    → LeavesOnly g old new (HoldsSome (IsEither lines queue ms))

-- once entries are gone, exactly the messages of these ids have left their queue
abbrev pub LosesHeld : (Name → Option File) → (Name → Option File) → ℕ → List ℕ → Type 0
LosesHeld old new queue ids = (sharing : Sharing) (lines : ℕ → List Message) → HasDistinctIds (lines queue)
    → StillHeld old sharing lines → StillHeld new sharing (without queue ids lines)

-- every image left meanwhile holds what was held, but for some messages of these ids
abbrev pub LosesHeldOn : {D : Type 0} → Ghosts D → D → D → ℕ → List ℕ → Type 0
LosesHeldOn g old new queue ids = (sharing : Sharing) (lines : ℕ → List Message) → StillHeld (g.files old) sharing lines
    → LeavesOnly g old new (HoldsSome (LosesSome queue ids lines))

-- these entries are those of messages that come next in a queue's segment, where the contents are as the files read
abbrev pub WillCome : (Name → Option File) → ℕ → ℕ → Sharing → List IndexEntry → List Message → Type 0
WillCome files queue number sharing entries ms = (contents : Name → List ℕ)
    → ((n : Name) → n.kind ≢ Shared → contents n ≡ content_in (files n)) → Come (folder_of sharing contents) queue number entries ms

-- ---- what stands in contents

-- what stood in a small store stands there
abbrev pub KeepsRecords : List ℕ → List ℕ → Type 0
KeepsRecords old new = (place : ℕ) (body : List ℕ) → StandsIn old place body → StandsIn new place body

-- each of these records stands there, the first of them at this place
abbrev pub HasRecords : ℕ → List ℕ → List ℕ → Type 0
HasRecords base records content = (offset : ℕ) (body : List ℕ) → HasRecord records offset body → StandsIn content (base + offset) body

-- each entry that was present at its place is
abbrev pub KeepsEntries : List ℕ → List ℕ → Type 0
KeepsEntries old new = (k : ℕ) (e : IndexEntry) → IsAt old k e → IsAt new k e

-- these entries stand there, the first of them at this place
abbrev pub HasEntriesFrom : ℕ → List IndexEntry → List ℕ → Type 0
HasEntriesFrom count entries content = (i : ℕ) (e : IndexEntry) → slice_get entries i ≡ Some e → IsAt content (count + i) e

-- each entry that was present at another place is
abbrev pub KeepsOtherEntries : List ℕ → List ℕ → List ℕ → Type 0
KeepsOtherEntries at old new = (k : ℕ) (e : IndexEntry) → (Contains at k → ⊥) → IsAt old k e → IsAt new k e
