-- A queue whose files were opened: its segments, each with its small store, and its messages.
use Rattle.std.specs.Prelude.{◌≡◌, ◌≢◌, ◌⊎◌, ℕ, ◌+◌, ◌≤◌, true, ◌==◌, if◌then◌else◌, List, [], ◌∷◌, ◌++◌, All, Contains, length, map, slice_get, slice_index, Option, None, Some, IsSome, is_some}
use Rattle.std.specs.List.{AllByRecursion, AllZip}
use Rattle.cq_disk.specs.declared.name.Name.{Name}
use Rattle.cq_disk.specs.File.{File}
use Rattle.cq_entry.specs.declared.entry.Entry.{Entry as IndexEntry}
use Rattle.cq_entry.specs.declared.entry.EntryKind.TheVariants.{Small}
use Rattle.cq_entry.specs.Entry.{entry_bytes}
use Rattle.cq_small.specs.declared.store.SmallStore.{SmallStore}
use Rattle.cq_small.specs.Store as small
use Rattle.cq_index.specs.declared.segment.Segment.{Segment}
use Rattle.cq_index.specs.Opened.{IsBroken}
use Rattle.cq_index.specs.Places.{index_name, place_of}
use Rattle.cq_index.specs.Segments as index
use Rattle.cq_index.specs.declared.error.SegmentError.{SegmentError}
use Rattle.cq_index.specs.declared.error.SegmentError.TheVariants.{Fault as segment_fault, Memory as segment_memory, Damaged as segment_damaged}
use Rattle.cq_folder.specs.Queue.{AreIndexes, AreIndexesAt, AreStores, AreStoresAt, HasNoStray, content_in}
use Rattle.cq_folder.specs.Holding.{IsAt}
use Rattle.cq_items.specs.Item.{Item}
use Rattle.cq_items.specs.declared.item.Holder.TheVariants.{Waiting}
use Rattle.cq_items.specs.declared.item.Stand.{Stand}
use Rattle.cq_items.specs.Items.{at_of, found_item, segment_of}
use Rattle.cq_items.specs.Queue.{Queue}
use Rattle.cq_queue.specs.declared.segment.QueueSegment.{QueueSegment}
use Rattle.cq_queue.specs.declared.error.QueueError.{QueueError}
use Rattle.cq_queue.specs.declared.error.QueueError.TheVariants.{Fault, Memory, Damaged}
use Rattle.cq_queue.specs.QueueSegment.{KnowsFiles, index_file, index_in, present_of, small_len}
use Rattle.cq_queue.specs.Tied.{AreInPlace, IsWholeRecord, IsWithin, listed, standing_at}
use Rattle.cq_queue.specs.Values.{QueueValue, IsRunning}

-- ---- what is opened

-- these are open indexes and open small stores of one queue
pub record AreFiles (queue : ℕ) (segments : List Segment) (stores : List SmallStore) : Type 0 where
  pub indexes : AreIndexes queue segments
  pub smalls : AreStores queue segments stores

-- they are all files of the queue, and each knows its own
pub record AreOnDisk (queue : ℕ) (segments : List Segment) (stores : List SmallStore) (files : Name → Option File) : Type 0 where
  pub indexes : AreIndexesAt queue segments files
  pub smalls : AreStoresAt queue segments stores files
  pub no_stray : HasNoStray queue files

-- each present entry of a small message has its whole record in the small store of its segment's number
abbrev pub HasRecords : ℕ → (Name → Option File) → Segment → Type 0
HasRecords queue files s = (k : ℕ) → Contains (index.present_of s) k → (e : IndexEntry)
    → IsAt (content_in (files (index.name_of s))) k e → e.kind ≡ Small
    → IsWholeRecord (content_in (files (small.small_name queue (index.name_of s).number))) e.place e.len

abbrev pub HaveRecords : ℕ → List Segment → (Name → Option File) → Type 0
HaveRecords queue segments files = AllByRecursion (HasRecords queue files) segments

-- ---- what comes of it

-- the small stores of these that are made, in their order
abbrev pub made_of : List QueueSegment → List SmallStore
made_of [] = []
made_of (s ∷ list) = if is_some (small.gate_of s.small) then s.small ∷ made_of list else made_of list

-- each index is that of a segment, in the same order, and each small store is that of the segment of its number
pub record AreJoined (segments : List Segment) (stores : List SmallStore) (list : List QueueSegment) : Type 0 where
  pub indexes : map (λ s. s.index) list ≡ segments
  pub smalls : made_of list ≡ stores

-- The last of these stores is taken where it has this number; else none, and there is a vacant one.
pub data TakesStore (number : ℕ) (old new : List SmallStore) (store : SmallStore) : Type 0 where
  Last : old ≡ new ++ store ∷ [] → (small.name_of store).number ≡ number → TakesStore number old new store
  Other : (front : List SmallStore) (last : SmallStore) → old ≡ front ++ last ∷ [] → (small.name_of last).number ≢ number
      → new ≡ old → small.IsVacant store → TakesStore number old new store
  Empty : old ≡ [] → new ≡ [] → small.IsVacant store → TakesStore number old new store

-- where its record stands
abbrev pub record_of : Option Stand → ℕ
record_of None = 0
record_of (Some s) = s.place

-- of a committed message: its index, its place there, and its entry
abbrev pub listed_as : ℕ → Item → Name × ℕ × IndexEntry
listed_as queue i = (index_name queue (segment_of i.stand), at_of i.stand, record { kind = i.kind; len = i.len; id = i.id; place = record_of i.stand })

-- a message that was found in the files
pub record IsFound (i : Item) : Type 0 where
  pub stands : IsSome i.stand
  pub waits : i.holder ≡ Waiting
  pub fresh : i.fresh ≡ true

-- The queue of these files: it is running, its segments are these, and its messages are those of their present entries,
-- in order, and all wait.
pub record IsOpened (of_queue of_most : ℕ) (indexes : List Segment) (smalls : List SmallStore) (v : QueueValue) : Type 0 where
  pub running : IsRunning v
  pub queue : v.queue ≡ of_queue
  pub most : v.most ≡ of_most
  pub reserved : v.reserved ≡ 0
  pub joined : AreJoined indexes smalls v.segments
  pub listing : standing_at v.items ≡ listed v.segments
  pub found : AllByRecursion IsFound v.items

-- ---- what refuses it

-- a fact of the file, the place and the byte that are told
abbrev pub IfDamaged : QueueError → (Name → ℕ → ℕ → Type 0) → Type 0
IfDamaged Fault P = Unit {0}
IfDamaged Memory P = Unit {0}
IfDamaged (Damaged name place found) P = P name place found

-- the length of the small store of this number, and none where there is none
abbrev pub len_in : ℕ → List SmallStore → ℕ
len_in n [] = 0
len_in n (t ∷ stores) = if (small.name_of t).number == n then small.len_of t else len_in n stores

-- the record of a small message lies between the header and the end of a small store of this length
abbrev pub LiesIn : ℕ → IndexEntry → Type 0
LiesIn len e = e.kind ≡ Small → (128 ≤ e.place) × (e.place + e.len + 5 ≤ len)

-- This entry was read, and its record lies outside of its small store of this length: the first byte of its place is told.
pub record IsOutside (len at : ℕ) (e : IndexEntry) (place found : ℕ) : Type 0 where
  pub outside : LiesIn len e → ⊥
  pub place_is : place ≡ place_of at + 24
  pub found_is : found ≡ slice_index (entry_bytes e) 24

-- The bytes of an entry of this index were read, and they aren't a present entry's, or its record lies outside; it never
-- happens where the disk tells its files.
pub record IsUnreadable (Told : Type 0) (queue : ℕ) (stores : List SmallStore) (name : Name) (place found : ℕ) : Type 0 where
  pub untold : Told → ⊥
  pub number : ℕ
  pub name_is : name ≡ index_name queue number
  pub at : ℕ
  pub cause : IsBroken at place found ⊎ ((e : IndexEntry) × IsOutside (len_in number stores) at e place found)

-- ---- one segment

-- the messages of these entries at these places of a segment
abbrev pub found_of : ℕ → List ℕ → List IndexEntry → List Item
found_of segment [] es = []
found_of segment (k ∷ ks) [] = []
found_of segment (k ∷ ks) (e ∷ es) = found_item e.id e.kind e.len (record { segment = segment; at = k; place = e.place }) ∷ found_of segment ks es

-- this entry of a segment was read, and its record lies outside
pub record IsOutsideAmong (s : QueueSegment) (entries : List IndexEntry) (name : Name) (place found : ℕ) : Type 0 where
  pub i : ℕ
  pub at : ℕ
  pub entry : IndexEntry
  pub at_is : slice_get (present_of s) i ≡ Some at
  pub entry_is : slice_get entries i ≡ Some entry
  pub name_is : name ≡ index_file s
  pub outside : IsOutside (small_len s) at entry place found

-- The present entries of a segment were read, and their messages are added behind the others; each record lies in the
-- small store, and where the disk tells its files each entry stands at its place.
pub record FindsMore (Told : Type 0) (files : Name → Option File) (s : QueueSegment) (old new : Queue) : Type 0 where
  pub entries : List IndexEntry
  pub len : length entries ≡ length (present_of s)
  pub queue : new ≡ record { items = old.items ++ found_of s.number (present_of s) entries; reserved = 0 }
  pub within : All (LiesIn (small_len s)) entries
  pub stand : Told → AllZip (λ k e. IsAt (index_in files s) k e) (present_of s) entries

-- An entry of a segment can't be read, which never happens where the disk tells its files.
pub record CantFind (Told : Type 0) (s : QueueSegment) (name : Name) (place found : ℕ) : Type 0 where
  pub untold : Told → ⊥
  pub name_is : name ≡ index_file s
  pub at : ℕ
  pub cause : IsBroken at place found ⊎ ((e : IndexEntry) × IsOutside (small_len s) at e place found)

-- the same of one of these
pub record CantFindAny (Told : Type 0) (list : List QueueSegment) (name : Name) (place found : ℕ) : Type 0 where
  pub i : ℕ
  pub segment : QueueSegment
  pub is : slice_get list i ≡ Some segment
  pub cant : CantFind Told segment name place found

-- The messages of the segments so far, and what ties them to all; where the disk tells its files they stand in them.
pub record HasFound (Told : Type 0) (queue : ℕ) (files : Name → Option File) (all so_far : List QueueSegment) (q : Queue) : Type 0 where
  pub reserved : q.reserved ≡ 0
  pub listing : standing_at q.items ≡ listed so_far
  pub found : AllByRecursion IsFound q.items
  pub within : AllByRecursion (IsWithin all) q.items
  pub stands : Told → AreInPlace queue files q.items

-- each of these knows its files, and has the records of its small messages
pub record CanBeFound (queue : ℕ) (list : List QueueSegment) (files : Name → Option File) : Type 0 where
  pub know : AllByRecursion (λ s. KnowsFiles s files) list
  pub whole : AllByRecursion (λ s. HasRecords queue files s.index) list

-- an error of a segment, of this file
abbrev pub error_of : Name → SegmentError → QueueError
error_of name segment_fault = Fault
error_of name segment_memory = Memory
error_of name (segment_damaged place found) = Damaged name place found
