-- What a queue's calls on its files do.
use Rattle.std.specs.Prelude.{◌≡◌, ℕ, ◌+◌, ◌-◌, ◌^◌, Bool, false, true, nat_lt, List, [], ◌∷◌, ◌++◌, length, map, take, drop, slice_get, slice_set, Option, Some, None, IsSome, is_some, if◌then◌else◌}
use Rattle.std.specs.List.{AllZip, list_any}
use Rattle.cq_disk.specs.declared.name.Name.{Name}
use Rattle.cq_disk.specs.declared.disk.Disk.{Ghosts}
use Rattle.cq_disk.specs.File.{File}
use Rattle.cq_entry.specs.declared.entry.EntryKind.{EntryKind}
use Rattle.cq_entry.specs.declared.entry.EntryKind.TheVariants.{Small, Shared}
use Rattle.cq_journal.specs.declared.event.Message.{Message}
use Rattle.cq_journal.specs.Lists.{HasDistinctIds, IsIn}
use Rattle.cq_folder.specs.Folder.{Sharing}
use Rattle.cq_folder.specs.Holding.{StillHeld}
use Rattle.cq_items.specs.Item.{Item}
use Rattle.cq_items.specs.declared.item.Stand.{Stand}
use Rattle.cq_items.specs.declared.item.Passed.{Passed}
use Rattle.cq_items.specs.Items.{waiting_items, undecided_items, settling_ids, settling_places, lowest_segment, others_items}
use Rattle.cq_queue.specs.declared.segment.QueueSegment.{QueueSegment}
use Rattle.cq_queue.specs.declared.error.QueueError.{QueueError}
use Rattle.cq_queue.specs.declared.error.QueueError.TheVariants.{Fault, Memory, Damaged}
use Rattle.cq_queue.specs.Files.{StaysHeld, StaysHeldOn, ComesHeld, ComesHeldOn, LosesHeld, LosesHeldOn}
use Rattle.cq_queue.specs.Laid.{AreShelved}
use Rattle.cq_queue.specs.QueueSegment.{IsLess, IsMore, SameNumber, count_of, small_calls, index_calls, removal_calls}
use Rattle.cq_queue.specs.Lists.{AreBelow, AreSame, IsPicked, StandsAt, first_over, place_in}
use Rattle.cq_queue.specs.Passing.{Suits, MaySkip, passed_of, kept_items, kept_of, commit_items, bytes_of}
use Rattle.cq_queue.specs.Tied.{Pick, pick_of, room_of, OtherFilesStay}
use Rattle.cq_queue.specs.Values.{QueueValue, IsRunning, IsUnchanged}

-- what an error of a call that doesn't read leaves: without memory nothing has changed
abbrev pub Leaves : QueueValue → QueueValue → Type 0 → QueueError → Type 0
Leaves old new disk_is_same Fault = Unit {0}
Leaves old new disk_is_same Memory = IsUnchanged old new × disk_is_same
Leaves old new disk_is_same (Damaged name place found) = ⊥

-- the same queue, but for its messages and its segments; it is running
pub record IsSameQueue (old new : QueueValue) : Type 0 where
  pub reserved : new.reserved ≡ old.reserved
  pub queue : new.queue ≡ old.queue
  pub most : new.most ≡ old.most
  pub running : IsRunning new

-- ---- a commit

-- it is running, none of those to be skipped waits, and there is a number for one more segment
pub record CanPass (v : QueueValue) (skip : List ℕ) : Type 0 where
  pub running : IsRunning v
  pub may_skip : MaySkip skip v.items
  pub numbers : AreBelow (2 ^ 63 - 1) v.segments

abbrev pub room_in : QueueValue → ℕ
room_in v = room_of v.most v.segments

abbrev pub pick_in : QueueValue → Pick
pick_in v = pick_of v.most v.segments

-- what a commit passes, which of it is kept, and the messages afterwards
abbrev pub passed_in : List ℕ → QueueValue → List Passed
passed_in skip v = passed_of skip (room_in v) (undecided_items v.items)

abbrev pub kept_in : List ℕ → QueueValue → List Item
kept_in skip v = kept_items skip (room_in v) (undecided_items v.items)

abbrev pub committed_in : List ℕ → QueueValue → List Item
committed_in skip v = commit_items skip (room_in v) (pick_in v).number (pick_in v).count (pick_in v).base v.items

-- the messages that a commit keeps, where these are the messages of the undecided entries
abbrev pub coming : List ℕ → QueueValue → List Message → List Message
coming skip v ms = kept_of skip (room_in v) (undecided_items v.items) ms

-- these are the messages of the undecided entries, and each shared one that is kept has its record in a shared file
pub record AreOf (skip : List ℕ) (v : QueueValue) (sharing : Sharing) (ms : List Message) : Type 0 where
  pub suit : AllZip (Suits sharing.kinds) (undecided_items v.items) ms
  pub shelved : AreShelved sharing (coming skip v ms)

-- so many entries and bytes of records have joined the last segment, or a new one
pub record HasJoined (queue most : ℕ) (old new : List QueueSegment) (more bytes : ℕ) : Type 0 where
  pub front : List QueueSegment
  pub segment : QueueSegment
  pub last : QueueSegment
  pub picked : IsPicked queue most old front segment
  pub list : new ≡ front ++ last ∷ []
  pub number : SameNumber segment last
  pub is : IsMore segment last more bytes

-- the segments after entries have joined; where none has, they are the same
abbrev pub HaveJoined : ℕ → ℕ → List QueueSegment → List QueueSegment → List Item → Type 0
HaveJoined queue most old new [] = AreSame old new
HaveJoined queue most old new (i ∷ is) = HasJoined queue most old new (length (i ∷ is)) (bytes_of (i ∷ is))

-- exactly these were passed, and the kept ones joined the segments
pub record HasPassed (skip : List ℕ) (old : QueueValue) (passed : List Passed) (new : QueueValue) : Type 0 where
  pub passed_is : passed ≡ passed_in skip old
  pub items : new.items ≡ committed_in skip old
  pub segments : HaveJoined old.queue old.most old.segments new.segments (kept_in skip old)
  pub same : IsSameQueue old new

-- No file of another queue changes; and a crash at any moment leaves what was held, or the messages that are kept with it.
pub record CommitsOnly {D : Type 0} (g : Ghosts D) (skip : List ℕ) (v : QueueValue) (old new : D) : Type 0 where
  pub others : OtherFilesStay v.queue (g.files old) (g.files new)
  pub any_moment : (sharing : Sharing) (ms : List Message) → AreOf skip v sharing ms
      → ComesHeldOn g old new v.queue sharing (coming skip v ms)

-- the messages that are kept are held too
abbrev pub KeptAreHeld : {D : Type 0} → Ghosts D → List ℕ → QueueValue → D → D → Type 0
KeptAreHeld g skip v old new = (sharing : Sharing) (ms : List Message) → AreOf skip v sharing ms
    → ComesHeld (g.files old) (g.files new) v.queue sharing (coming skip v ms)

-- the segment that the next entries join, where it is there
abbrev pub joining : ℕ → List QueueSegment → Option QueueSegment
joining most [] = None
joining most (s ∷ []) = if nat_lt (count_of s) most then Some s else None
joining most (s ∷ t ∷ list) = joining most (t ∷ list)

abbrev pub is_small : EntryKind → Bool
is_small Small = true
is_small Shared = false

abbrev pub has_small : List Item → Bool
has_small is = list_any (λ i. is_small i.kind) is

-- how many device calls these take to join a segment: none where they are none, on the small store none without a small one
abbrev pub calls_to_join : Option QueueSegment → List Item → ℕ
calls_to_join s [] = 0
calls_to_join None (i ∷ is) = (if has_small (i ∷ is) then 8 else 0) + 8
calls_to_join (Some s) (i ∷ is) = (if has_small (i ∷ is) then small_calls s else 0) + index_calls s

abbrev pub calls_to_commit : List ℕ → QueueValue → ℕ
calls_to_commit skip v = calls_to_join (joining v.most v.segments) (kept_in skip v)

-- ---- a settling

-- the segment of this number no longer lists the entries at these places, and each other one is as it was
pub record HasSettledIn (n : ℕ) (at : List ℕ) (old new : List QueueSegment) : Type 0 where
  pub i : ℕ
  pub segment : QueueSegment
  pub less : QueueSegment
  pub stands : StandsAt old i segment
  pub number : segment.number ≡ n
  pub list : new ≡ slice_set old i less
  pub is : IsLess segment less at

-- the segments after a settling; where nothing settles, they are as they were
abbrev pub HaveSettled : Option ℕ → List ℕ → List QueueSegment → List QueueSegment → Type 0
HaveSettled None at old new = new ≡ old
HaveSettled (Some n) at old new = HasSettledIn n at old new

-- the entries of exactly these ids are no longer present, and their messages have left the queue
pub record HasSettled (old : QueueValue) (ids : List ℕ) (new : QueueValue) : Type 0 where
  pub ids_are : ids ≡ settling_ids old.items
  pub items : new.items ≡ others_items old.items
  pub segments : HaveSettled (lowest_segment old.items) (settling_places old.items) old.segments new.segments
  pub same : IsSameQueue old new

-- No file of another queue changes; and a crash at any moment leaves what was held, or without some of what settles.
pub record SettlesOnly {D : Type 0} (g : Ghosts D) (v : QueueValue) (old new : D) : Type 0 where
  pub others : OtherFilesStay v.queue (g.files old) (g.files new)
  pub any_moment : LosesHeldOn g old new v.queue (settling_ids v.items)

-- exactly what settles is no longer held
abbrev pub SettledAreLost : {D : Type 0} → Ghosts D → QueueValue → D → D → Type 0
SettledAreLost g v old new = LosesHeld (g.files old) (g.files new) v.queue (settling_ids v.items)

-- how many device calls a settling makes: a status for each, and a sync
abbrev pub calls_to_settle : List ℕ → ℕ
calls_to_settle [] = 0
calls_to_settle (x ∷ ids) = length (x ∷ ids) + 1

-- ---- a removal

-- the place of the lowest finished segment
abbrev pub finished_in : QueueValue → Option ℕ
finished_in v = first_over v.most v.segments

abbrev pub segments_without : Option ℕ → List QueueSegment → List QueueSegment
segments_without None list = list
segments_without (Some i) list = take i list ++ drop (i + 1) list

-- the lowest finished segment is gone, where there was one, and nothing else has changed
pub record HasRemoved (old : QueueValue) (removed : Bool) (new : QueueValue) : Type 0 where
  pub removed_is : removed ≡ is_some (finished_in old)
  pub value : new ≡ record old { segments = segments_without (finished_in old) old.segments }

-- no file of another queue changes, and what was held is held, whatever the answer and at any moment
pub record KeepsAll {D : Type 0} (g : Ghosts D) (v : QueueValue) (old new : D) : Type 0 where
  pub others : OtherFilesStay v.queue (g.files old) (g.files new)
  pub any_moment : StaysHeldOn g old new
  pub held : StaysHeld (g.files old) (g.files new)

-- how many device calls a removal makes
abbrev pub calls_at : Option QueueSegment → ℕ
calls_at None = 0
calls_at (Some s) = removal_calls s

abbrev pub calls_to_remove_at : List QueueSegment → Option ℕ → ℕ
calls_to_remove_at list None = 0
calls_to_remove_at list (Some i) = calls_at (slice_get list i)

abbrev pub calls_to_remove : QueueValue → ℕ
calls_to_remove v = calls_to_remove_at v.segments (finished_in v)

-- ---- a read

-- it is running, and this is the first message that waits: a small one of this id and length
pub record CanRead (v : QueueValue) (id len : ℕ) : Type 0 where
  pub running : IsRunning v
  pub first : Item
  pub is_first : slice_get (waiting_items v.items) 0 ≡ Some first
  pub small : first.kind ≡ Small
  pub is_id : first.id ≡ id
  pub is_len : first.len ≡ len

-- the body of a message whose entry stands in the files, whatever they hold
abbrev pub IsBodyHeld : ℕ → (Name → Option File) → ℕ → List ℕ → Type 0
IsBodyHeld queue files id body = (sharing : Sharing) (lines : ℕ → List Message) → HasDistinctIds (lines queue)
    → StillHeld files sharing lines → (m : Message) → IsIn (lines queue) m → m.id ≡ id → body ≡ m.body

-- the body of the first that waits, where it is committed
abbrev pub HasBody : {D : Type 0} → Ghosts D → QueueValue → D → ℕ → List ℕ → Type 0
HasBody g v old id body = (i : Item) → slice_get (waiting_items v.items) 0 ≡ Some i → IsSome i.stand
    → IsBodyHeld v.queue (g.files old) id body

-- the body of one that isn't committed
abbrev pub IsBodyInMemory : Option Item → List ℕ → Type 0
IsBodyInMemory None body = ⊥
IsBodyInMemory (Some i) body = i.stand ≡ None → i.body ≡ Some body

-- how many device calls a read makes: one where the message is committed
abbrev pub calls_to_read : Option Item → ℕ
calls_to_read None = 0
calls_to_read (Some i) = if is_some i.stand then 1 else 0
