-- How the reading of present entries goes on.
use Rattle.std.specs.Prelude.{◌≡◌, ℕ, ◌<◌, false, List, [], ◌∷◌, ◌++◌, length, Option, None, Some, slice_get}
use Rattle.std.specs.List.{AllByRecursion, AllZip}
use Rattle.std.specs.Ordering.{nat_cmp}
use Rattle.std.specs.BTreeSet as set
use Rattle.std.specs.BTreeSet.{BTreeSet}
use Rattle.cq_bytes.specs.Numbers.{contains}
use Rattle.cq_disk.specs.declared.name.Name.{Name}
use Rattle.cq_disk.specs.File.{File}
use Rattle.cq_entry.specs.Entry.{IsEntry}
use Rattle.cq_small.specs.declared.store.SmallStore.{SmallStore}
use Rattle.cq_small.specs.Store as small
use Rattle.cq_index.specs.declared.segment.Segment.{Segment}
use Rattle.cq_index.specs.Places.{index_name}
use Rattle.cq_index.specs.Segments as index
use Rattle.cq_index.specs.declared.error.SegmentError.{SegmentError}
use Rattle.cq_index.specs.declared.error.SegmentError.TheVariants.{Fault as segment_fault, Memory as segment_memory, Damaged as segment_damaged}
use Rattle.cq_bulk.specs.declared.bodies.Bodies.{Bodies}
use Rattle.cq_bulk.specs.Bodies.{IsWindow, KnowsBoth}
use Rattle.cq_folder.specs.Held.{as_read}
use Rattle.cq_folder.specs.Queue.{has_number, stores_of}
use Rattle.cq_back_q.specs.declared.error.BackError.{BackError}
use Rattle.cq_back_q.specs.declared.error.BackError.TheVariants.{Fault, Memory, Damaged}
use Rattle.cq_back_q.specs.declared.found.HeldEntry.{HeldEntry}
use Rattle.cq_back_q.specs.declared.taken.Taken.{Taken}
use Rattle.cq_back_q.specs.Found.{HasDistinct, IsBodyOf, ids_of, places_of}
use Rattle.cq_back_q.specs.Read.{HaveStood}
use Rattle.cq_back_q.specs.Sound.{IsHeldAt}
use Rattle.cq_back_q.specs.Damage.{IsBefore}

-- these are exactly these ids
abbrev pub AreIds : BTreeSet ℕ → List ℕ → Type 0
AreIds ids xs = (id : ℕ) → set.contains nat_cmp ids id ≡ contains xs id

-- What was read so far: valid entries of the queue with their bodies, no id twice. Where the disk tells its files, they
-- stand in them.
pub record HaveRead (Told : Type 0) (queue : ℕ) (files : Name → Option File) (taken : Taken) : Type 0 where
  pub fit : AllZip (IsBodyOf queue) taken.held.items taken.bodies.items
  pub once : HasDistinct (ids_of taken.held.items)
  pub ids : AreIds taken.ids (ids_of taken.held.items)
  pub stand : Told → HaveStood (as_read files) taken.held.items taken.bodies.items

-- The same, and each of them stands before this place of a segment.
pub record HaveReadBefore (Told : Type 0) (queue : ℕ) (files : Name → Option File) (segment at : ℕ) (taken : Taken) : Type 0 where
  pub read : HaveRead Told queue files taken
  pub before : AllByRecursion (λ h. IsBefore h segment at) taken.held.items

-- the entries of these places were read, too, and joined the others
pub record ReadsMore (Told : Type 0) (queue : ℕ) (files : Name → Option File) (places : List (ℕ × ℕ)) (old new : Taken) : Type 0 where
  pub read : HaveRead Told queue files new
  pub listing : places_of new.held.items ≡ places_of old.held.items ++ places

-- a valid entry, and the small store of its segment
pub record IsNext (h : HeldEntry) (store : SmallStore) : Type 0 where
  pub valid : IsEntry h.entry
  pub named : small.name_of store ≡ small.small_name h.queue h.segment

-- the entry stands at its place, the small store knows its file, and the window is one of it
pub record CanTake (h : HeldEntry) (store : SmallStore) (window : Bodies) (files : Name → Option File) : Type 0 where
  pub at : IsHeldAt (as_read files) h
  pub knows : KnowsBoth window store (files (small.name_of store))

-- an index and a small store are the files of one segment
pub record ArePair (queue : ℕ) (segment : Segment) (store : SmallStore) : Type 0 where
  pub index_is : index.name_of segment ≡ index_name queue (index.name_of segment).number
  pub small_is : small.name_of store ≡ small.small_name queue (index.name_of segment).number

-- an index and a small store know their files
pub record KnowBoth (segment : Segment) (store : SmallStore) (files : Name → Option File) : Type 0 where
  pub index_knows : index.IsFiled segment (files (index.name_of segment))
  pub small_knows : small.IsSmallStore store (files (small.name_of store))

-- the same, and the window is one of the small store's file
pub record KnowWithWindow (segment : Segment) (store : SmallStore) (window : Bodies) (files : Name → Option File) : Type 0 where
  pub know : KnowBoth segment store files
  pub window_is : IsWindow window (files (small.name_of store))

-- an index and each of these small stores know their files; where none has the index's number, there is none of it
pub record KnowAmong (queue : ℕ) (segment : Segment) (stores : List SmallStore) (files : Name → Option File) : Type 0 where
  pub index_knows : index.IsFiled segment (files (index.name_of segment))
  pub small_know : AllByRecursion (λ t. small.IsSmallStore t (files (small.name_of t))) stores
  pub none : has_number (stores_of stores) (index.name_of segment).number ≡ false
      → files (small.small_name queue (index.name_of segment).number) ≡ None

-- the numbers of small stores rise
abbrev pub Rise : List SmallStore → Type 0
Rise [] = Unit {0}
Rise (t ∷ stores) = AllByRecursion (λ u. (small.name_of t).number < (small.name_of u).number) stores × Rise stores

-- the small store at this place has this number
pub record IsStoreAt (stores : List SmallStore) (place number : ℕ) : Type 0 where
  pub inside : place < length stores
  pub store : SmallStore
  pub is : slice_get stores place ≡ Some store
  pub number_is : (small.name_of store).number ≡ number

-- an error of a segment, of this file
abbrev pub error_of : Name → SegmentError → BackError
error_of name segment_fault = Fault
error_of name segment_memory = Memory
error_of name (segment_damaged place found) = Damaged name place found
