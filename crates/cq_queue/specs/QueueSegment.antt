-- One segment of a queue, its index and its small store, and what its calls do.
use Rattle.std.specs.Prelude.{◌≡◌, ◌≢◌, ◌⊎◌, ◌↔◌, ℕ, ◌+◌, ◌<◌, ◌≤◌, ◌^◌, Bool, true, false, not, ◌&&◌, ◌||◌, nat_lt, List, [], ◌∷◌, ◌++◌, length, All, Contains, Option, None, IsSome}
use Rattle.std.specs.List.Sorted.{IsStrictlyIncreasing}
use Rattle.cq_disk.specs.declared.name.Name.{Name}
use Rattle.cq_disk.specs.declared.disk.Disk.{Ghosts}
use Rattle.cq_disk.specs.Call.{Image}
use Rattle.cq_disk.specs.Run.{LeavesOnly}
use Rattle.cq_disk.specs.File.{File}
use Rattle.cq_entry.specs.declared.entry.Entry.{Entry as IndexEntry}
use Rattle.cq_entry.specs.Entry.{IsEntry}
use Rattle.cq_small.specs.Record.{StandsIn}
use Rattle.cq_small.specs.Store as small
use Rattle.cq_index.specs.Codec.{most_entries}
use Rattle.cq_index.specs.Calls.{Same, Loses}
use Rattle.cq_index.specs.Places.{index_name, entries_bytes}
use Rattle.cq_index.specs.Segments as index
use Rattle.cq_journal.specs.declared.event.Message.{Message}
use Rattle.cq_folder.specs.Folder.{Sharing}
use Rattle.cq_folder.specs.Holding.{AreAtPlaces}
use Rattle.cq_folder.specs.Queue.{content_in, IsSmallAt, IsIndexAt}
use Rattle.cq_queue.specs.Files.{append_calls, some_calls, file_calls, IsGreatest, StaysHeld, StaysHeldOn, ComesHeld, ComesHeldOn, LosesHeld, LosesHeldOn, WillCome, KeepsRecords, HasRecords, KeepsEntries, HasEntriesFrom, KeepsOtherEntries}
use Rattle.cq_queue.specs.Laid.{Lays}
use Rattle.cq_queue.specs.declared.segment.QueueSegment.{QueueSegment}

-- its queue, its number, and its two files
abbrev pub queue_of : QueueSegment → ℕ
queue_of s = s.queue

abbrev pub number_of : QueueSegment → ℕ
number_of s = s.number

abbrev pub index_file : QueueSegment → Name
index_file s = index_name s.queue s.number

abbrev pub small_file : QueueSegment → Name
small_file s = small.small_name s.queue s.number

-- how many entries it has, which of them are present, and for how many more memory is reserved
abbrev pub count_of : QueueSegment → ℕ
count_of s = index.count_of s.index

abbrev pub present_of : QueueSegment → List ℕ
present_of s = index.present_of s.index

abbrev pub reserved_of : QueueSegment → ℕ
reserved_of s = index.reserved_of s.index

-- where its next record will stand, and how long its small store is, as it knows itself
abbrev pub end_of : QueueSegment → ℕ
end_of s = small.end_of s.small

abbrev pub small_len : QueueSegment → ℕ
small_len s = small.len_of s.small

-- neither file is made
pub record IsVacant (s : QueueSegment) : Type 0 where
  pub index : index.IsVacant s.index
  pub small : small.IsVacant s.small

-- its index is made
abbrev pub IsOpen : QueueSegment → Type 0
IsOpen s = index.IsOpen s.index

-- the contents of its files
abbrev pub index_in : (Name → Option File) → QueueSegment → List ℕ
index_in files s = content_in (files (index_file s))

abbrev pub small_in : (Name → Option File) → QueueSegment → List ℕ
small_in files s = content_in (files (small_file s))

-- its two files are as its own calls left them, and all on the disk
pub record KnowsFiles (s : QueueSegment) (files : Name → Option File) : Type 0 where
  pub small : IsSmallAt s.small (files (small_file s))
  pub index : IsIndexAt s.index (files (index_file s))

-- neither of its files is there
pub record HasNoFiles (s : QueueSegment) (files : Name → Option File) : Type 0 where
  pub index : files (index_file s) ≡ None
  pub small : files (small_file s) ≡ None

-- the files, but its two, are as they were
abbrev pub OthersStay : QueueSegment → (Name → Option File) → (Name → Option File) → Type 0
OthersStay s old new = (n : Name) → n ≢ small_file s → n ≢ index_file s → new n ≡ old n

-- the segment of the same queue and number
pub record SameNumber (old new : QueueSegment) : Type 0 where
  pub queue : new.queue ≡ old.queue
  pub number : new.number ≡ old.number

-- the same segment, but for the memory that it has reserved
pub record IsSame (old new : QueueSegment) : Type 0 where
  pub number : SameNumber old new
  pub small : new.small ≡ old.small
  pub index : Same old.index new.index

-- a segment of which no file is there, and so without an entry
pub record IsNew (of_queue of_number : ℕ) (s : QueueSegment) : Type 0 where
  pub queue : s.queue ≡ of_queue
  pub number : s.number ≡ of_number
  pub vacant : IsVacant s
  pub count : count_of s ≡ 0
  pub present : present_of s ≡ []

-- it is finished: none of its entries is present, and it got all of them or a later one is there
abbrev pub is_empty : List ℕ → Bool
is_empty [] = true
is_empty (k ∷ ks) = false

abbrev pub is_over : Bool → ℕ → QueueSegment → Bool
is_over later most s = is_empty (present_of s) && (later || not (nat_lt (count_of s) most))

-- ---- a commit

-- these entries are some, valid and not too many, memory is reserved for them, and the records aren't too long
pub record CanCommit (s : QueueSegment) (records : List ℕ) (entries : List IndexEntry) : Type 0 where
  pub short : length records ≤ 2 ^ 33
  pub some : 0 < length entries
  pub valid : All IsEntry entries
  pub few : count_of s + length entries ≤ most_entries
  pub reserved : length entries ≤ reserved_of s

-- it knows its files, and is the greatest of its queue
pub record CanGrow (s : QueueSegment) (files : Name → Option File) : Type 0 where
  pub knows : KnowsFiles s files
  pub greatest : IsGreatest files s.queue s.number

-- the segment with so many entries more, all of them present, and so many bytes of records
pub record IsMore (old new : QueueSegment) (more bytes : ℕ) : Type 0 where
  pub is_open : IsOpen new
  pub count : count_of new ≡ count_of old + more
  pub present : (k : ℕ) → Contains (present_of new) k ↔ (Contains (present_of old) k ⊎ ((count_of old ≤ k) × (k < count_of new)))
  pub end : end_of new ≡ end_of old + bytes
  pub longer : small_len old ≤ small_len new
  pub room : 0 < bytes → end_of new ≤ small_len new
  pub unused : bytes ≡ 0 → new.small ≡ old.small

-- What stood in the segment's files stands there, and so do these records and entries; and the messages that they lay out are held too.
pub record HasCommitted {D : Type 0} (g : Ghosts D) (s : QueueSegment) (old new : D) (records : List ℕ)
    (entries : List IndexEntry) : Type 0 where
  pub kept_records : KeepsRecords (small_in (g.files old) s) (small_in (g.files new) s)
  pub new_records : HasRecords (end_of s) records (small_in (g.files new) s)
  pub kept_entries : KeepsEntries (index_in (g.files old) s) (index_in (g.files new) s)
  pub new_entries : HasEntriesFrom (count_of s) entries (index_in (g.files new) s)
  pub held : (sharing : Sharing) (ms : List Message) → Lays sharing (end_of s) ms records entries
      → ComesHeld (g.files old) (g.files new) s.queue sharing ms

-- No other file changes; and a crash at any moment leaves what was held, or the messages that these records and entries lay out with it.
pub record Commits {D : Type 0} (g : Ghosts D) (s : QueueSegment) (old new : D) (records : List ℕ)
    (entries : List IndexEntry) : Type 0 where
  pub others : OthersStay s (g.files old) (g.files new)
  pub any_moment : (sharing : Sharing) (ms : List Message) → Lays sharing (end_of s) ms records entries
      → ComesHeldOn g old new s.queue sharing ms

-- how many device calls a gated append to its small store takes, and one to its index
abbrev pub small_calls : QueueSegment → ℕ
small_calls s = append_calls (small.gate_of s.small)

abbrev pub index_calls : QueueSegment → ℕ
index_calls s = append_calls (index.gate_of s.index)

-- how many device calls a commit makes: none on the small store where there are no records
abbrev pub commit_calls : QueueSegment → List ℕ → ℕ
commit_calls s records = some_calls records (small_calls s) + index_calls s

-- ---- the parts of a commit

-- the same segment, but for its small store
pub record SameIndex (old new : QueueSegment) : Type 0 where
  pub number : SameNumber old new
  pub index : new.index ≡ old.index

-- the same segment, but for its index
pub record SameSmall (old new : QueueSegment) : Type 0 where
  pub number : SameNumber old new
  pub small : new.small ≡ old.small

-- its small store has so many bytes more
pub record IsLonger (old new : QueueSegment) (bytes : ℕ) : Type 0 where
  pub end : end_of new ≡ end_of old + bytes
  pub longer : small_len old ≤ small_len new
  pub room : 0 < bytes → end_of new ≤ small_len new
  pub unused : bytes ≡ 0 → new.small ≡ old.small

-- the small store is made, and no record has joined it
pub record HasSmall (old new : QueueSegment) : Type 0 where
  pub is_open : small.IsOpen new.small
  pub end : end_of new ≡ end_of old
  pub len : small_len new ≡ small_len old

-- the index is made, and no entry has joined it
pub record HasIndex (old new : QueueSegment) : Type 0 where
  pub is_open : IsOpen new
  pub count : count_of new ≡ count_of old
  pub present : present_of new ≡ present_of old
  pub reserved : reserved_of new ≡ reserved_of old
  pub len : index.len_of new.index ≡ index.len_of old.index

-- No file but this one changes, and a crash at any moment leaves what was held.
pub record TouchesOnly {D : Type 0} (g : Ghosts D) (name : Name) (old new : D) : Type 0 where
  pub others : (n : Name) → n ≢ name → g.files new n ≡ g.files old n
  pub any_moment : StaysHeldOn g old new

-- A file has the content that it had, and what was held is held.
pub record SameContent {D : Type 0} (g : Ghosts D) (name : Name) (old new : D) : Type 0 where
  pub same : content_in (g.files new name) ≡ content_in (g.files old name)
  pub held : StaysHeld (g.files old) (g.files new)

-- What stood in the small store stands there, and so do these records; and what was held is held.
pub record HasRecorded {D : Type 0} (g : Ghosts D) (s : QueueSegment) (old new : D) (records : List ℕ) : Type 0 where
  pub kept_records : KeepsRecords (small_in (g.files old) s) (small_in (g.files new) s)
  pub new_records : HasRecords (end_of s) records (small_in (g.files new) s)
  pub held : StaysHeld (g.files old) (g.files new)

-- These entries have joined the index, and what they are entries of is held too.
pub record HasListed {D : Type 0} (g : Ghosts D) (s : QueueSegment) (old new : D) (entries : List IndexEntry) : Type 0 where
  pub content : index_in (g.files new) s ≡ index_in (g.files old) s ++ entries_bytes entries
  pub new_entries : HasEntriesFrom (count_of s) entries (index_in (g.files new) s)
  pub held : (sharing : Sharing) (ms : List Message) → WillCome (g.files old) s.queue s.number sharing entries ms
      → ComesHeld (g.files old) (g.files new) s.queue sharing ms

-- No file but the index changes, and a crash at any moment leaves what was held, or also what these are entries of.
pub record ListsOnly {D : Type 0} (g : Ghosts D) (s : QueueSegment) (old new : D) (entries : List IndexEntry) : Type 0 where
  pub others : (n : Name) → n ≢ index_file s → g.files new n ≡ g.files old n
  pub any_moment : (sharing : Sharing) (ms : List Message) → WillCome (g.files old) s.queue s.number sharing entries ms
      → ComesHeldOn g old new s.queue sharing ms

-- ---- entries that go

-- these are some places, rising, of present entries
pub record CanLose (s : QueueSegment) (at : List ℕ) : Type 0 where
  pub some : 0 < length at
  pub rising : IsStrictlyIncreasing at
  pub present : All (Contains (present_of s)) at

-- the segment whose entries at these places are no longer present
pub record IsLess (old new : QueueSegment) (at : List ℕ) : Type 0 where
  pub number : SameNumber old new
  pub small : new.small ≡ old.small
  pub index : Loses old.index new.index at

-- Each entry at another place is as it was; and of what was held exactly the messages of these entries aren't any more.
pub record HasLost {D : Type 0} (g : Ghosts D) (s : QueueSegment) (old new : D) (at : List ℕ) : Type 0 where
  pub entries : KeepsOtherEntries at (index_in (g.files old) s) (index_in (g.files new) s)
  pub held : (ids : List ℕ) → AreAtPlaces (index_in (g.files old) s) at ids → LosesHeld (g.files old) (g.files new) s.queue ids

-- No file but the index changes; and a crash at any moment leaves what was held, or without some of the messages of these entries.
pub record LosesOnly {D : Type 0} (g : Ghosts D) (s : QueueSegment) (old new : D) (at : List ℕ) : Type 0 where
  pub others : (n : Name) → n ≢ index_file s → g.files new n ≡ g.files old n
  pub any_moment : (ids : List ℕ) → AreAtPlaces (index_in (g.files old) s) at ids → LosesHeldOn g old new s.queue ids

-- ---- a removal

-- where the small store isn't there, the index isn't either
abbrev pub IsIndexFirst : QueueSegment → Image → Type 0
IsIndexFirst s image = image (small_file s) ≡ None → image (index_file s) ≡ None

-- No other file changes; whatever the answer and at any moment, what was held is held. A crash leaves no index whose small store, which was there, is gone.
pub record RemovesOnly {D : Type 0} (g : Ghosts D) (s : QueueSegment) (old new : D) : Type 0 where
  pub others : OthersStay s (g.files old) (g.files new)
  pub any_moment : StaysHeldOn g old new
  pub held : StaysHeld (g.files old) (g.files new)
  pub order : IsSome (g.files old (small_file s)) → LeavesOnly g old new (IsIndexFirst s)

-- how many device calls a removal makes: one for each file that is there
abbrev pub removal_calls : QueueSegment → ℕ
removal_calls s = file_calls (index.gate_of s.index) + file_calls (small.gate_of s.small)

-- ---- a read

-- a record of a body of this length stands in a content
abbrev pub HasWhole : List ℕ → ℕ → ℕ → Type 0
HasWhole content place len = (body : List ℕ) × ((length body ≡ len) × StandsIn content place body)
