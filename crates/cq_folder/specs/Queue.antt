-- The files of one queue, as segments and small stores that were opened.
use Rattle.std.specs.Prelude.{◌≡◌, ℕ, ◌<◌, Bool, true, false, ◌==◌, List, [], ◌∷◌, map, Option, None}
use Rattle.std.specs.List.{list_any, AllByRecursion}
use Rattle.cq_disk.specs.declared.name.Name.{Name}
use Rattle.cq_disk.specs.File.{File}
use Rattle.cq_small.specs.declared.store.SmallStore.{SmallStore}
use Rattle.cq_small.specs.Store as small
use Rattle.cq_index.specs.declared.segment.Segment.{Segment}
use Rattle.cq_index.specs.Places.{index_name}
use Rattle.cq_index.specs.Segments as index
use Rattle.cq_folder.specs.Held.{bytes_in, content_of, IsSettled}

-- the content of a file, and none where it isn't there
abbrev pub content_in : Option File → List ℕ
content_in file = content_of (bytes_in file)

-- the store knows its file, which is all on the disk
pub record IsSmallAt (store : SmallStore) (slot : Option File) : Type 0 where
  pub knows : small.IsSmallStore store slot
  pub all : IsSettled slot

-- the index knows its file, which is all on the disk
pub record IsIndexAt (segment : Segment) (slot : Option File) : Type 0 where
  pub knows : index.IsFiled segment slot
  pub all : IsSettled slot

-- the names of opened indexes, and of opened small stores
abbrev pub indexes_of : List Segment → List Name
indexes_of segments = map index.name_of segments

abbrev pub stores_of : List SmallStore → List Name
stores_of stores = map small.name_of stores

-- whether one of these names has this number
abbrev pub has_number : List Name → ℕ → Bool
has_number names n = list_any (λ name. name.number == n) names

-- they are a queue's names, where it gives each number a name, and their numbers rise
abbrev pub RiseAs : (ℕ → Name) → List Name → Type 0
RiseAs name_at [] = Unit {0}
RiseAs name_at (n ∷ names) = (n ≡ name_at n.number) × AllByRecursion (λ m. n.number < m.number) names × RiseAs name_at names

-- the places of a segment's entries, each with the segment's number
abbrev pub listed_in : ℕ → List ℕ → List (ℕ × ℕ)
listed_in n [] = []
listed_in n (k ∷ ks) = (n, k) ∷ listed_in n ks

-- these are open indexes of a queue, rising by number
pub record AreIndexes (queue : ℕ) (segments : List Segment) : Type 0 where
  pub rise : RiseAs (index_name queue) (indexes_of segments)
  pub are_open : AllByRecursion index.IsOpen segments

-- these are open small stores of a queue, rising by number, each with the number of one of these indexes
pub record AreStores (queue : ℕ) (segments : List Segment) (stores : List SmallStore) : Type 0 where
  pub rise : RiseAs (small.small_name queue) (stores_of stores)
  pub are_open : AllByRecursion small.IsOpen stores
  pub matched : AllByRecursion (λ n. has_number (indexes_of segments) n.number ≡ true) (stores_of stores)

-- Each index is open, and knows its file, which is all on the disk; no other index of the queue is there.
pub record AreIndexesAt (queue : ℕ) (segments : List Segment) (files : Name → Option File) : Type 0 where
  pub each : AllByRecursion (λ s. IsIndexAt s (files (index.name_of s))) segments
  pub none : (n : ℕ) → has_number (indexes_of segments) n ≡ false → files (index_name queue n) ≡ None

-- Each small store is open, and knows its file, which is all on the disk; no other segment of these has one.
pub record AreStoresAt (queue : ℕ) (segments : List Segment) (stores : List SmallStore) (files : Name → Option File) : Type 0 where
  pub each : AllByRecursion (λ s. IsSmallAt s (files (small.name_of s))) stores
  pub none : (n : ℕ) → has_number (indexes_of segments) n ≡ true → has_number (stores_of stores) n ≡ false
      → files (small.small_name queue n) ≡ None

-- no small store is there without its index
abbrev pub HasNoStray : ℕ → (Name → Option File) → Type 0
HasNoStray queue files = (n : ℕ) → files (index_name queue n) ≡ None → files (small.small_name queue n) ≡ None
