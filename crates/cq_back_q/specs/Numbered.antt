-- The files of a queue, opened by their numbers, where the disk tells them.
use Rattle.std.specs.Prelude.{ℕ, List, Option, IsSome}
use Rattle.std.specs.List.{AllByRecursion}
use Rattle.cq_disk.specs.declared.name.Name.{Name}
use Rattle.cq_disk.specs.File.{File}
use Rattle.cq_disk.specs.Files.{IsThere}
use Rattle.cq_small.specs.declared.store.SmallStore.{SmallStore}
use Rattle.cq_small.specs.Store as small
use Rattle.cq_index.specs.declared.segment.Segment.{Segment}
use Rattle.cq_index.specs.Segments as index
use Rattle.cq_folder.specs.Held.{IsFormedAs, IsSettled, as_read}
use Rattle.cq_folder.specs.Queue.{IsIndexAt, IsSmallAt}

-- a file is there, and all of it is on the disk
pub record IsWhole (slot : Option File) : Type 0 where
  pub some : IsSome slot
  pub all : IsSettled slot

-- the files of these numbers are there, and all on the disk
abbrev pub AreThere : (ℕ → Name) → (Name → Option File) → List ℕ → Type 0
AreThere name_at files numbers = AllByRecursion (λ n. IsWhole (files (name_at n))) numbers

-- the index knows its file, and says what the file has
pub record IsReadIndex (files : Name → Option File) (segment : Segment) : Type 0 where
  pub at : IsIndexAt segment (files (index.name_of segment))
  pub known : IsThere (files (index.name_of segment)) (index.Knows segment)

-- Each small store that was kept knows its file, and the file of each of these numbers is of its form.
pub record HaveRead (queue : ℕ) (files : Name → Option File) (numbers : List ℕ) (stores : List SmallStore) : Type 0 where
  pub kept : AllByRecursion (λ s. IsSmallAt s (files (small.name_of s))) stores
  pub formed : AllByRecursion (λ n. IsFormedAs (small.small_name queue n) (as_read files (small.small_name queue n))) numbers
