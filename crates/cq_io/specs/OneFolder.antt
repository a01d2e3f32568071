-- One folder in memory: what stands at its path.
use Rattle.std.specs.Prelude.{◌≡◌, ◌↔◌, ℕ, List, Bool, not, false, Option, Some, None, string_bytes, if◌then◌else◌, Result, IsErr}
use Rattle.std.specs.Str.{bytes_eq}
use Rattle.cq_memdisk.specs.declared.disk.MemDisk.{MemDisk}
use Rattle.cq_io.specs.Streams.{Counts}
use Rattle.cq_io.specs.declared.memory_folders.MemFolders.{MemFolders}

-- what is said of this path, and of every other
abbrev pub at_path : {A : Type 0} → List ℕ → A → A → List ℕ → A
at_path own this other path = if bytes_eq path own then this else other

-- with how many faults a disk was handed out, where it isn't there
abbrev pub count_out : {D : Type 0} → Option D → ℕ → Option ℕ
count_out None count = Some count
count_out (Some disk) count = None

-- the disk that stands at a path
abbrev pub inside_of : MemFolders → List ℕ → Option MemDisk
inside_of folders = at_path (string_bytes folders.path) folders.disk None

-- whether a path can be opened now: it wasn't opened before
abbrev pub opens_of : MemFolders → List ℕ → Bool
opens_of folders = at_path (string_bytes folders.path) (not folders.opened) false

-- with how many faults the disk of a path was handed out
abbrev pub given_of : MemFolders → List ℕ → Option ℕ
given_of folders = at_path (string_bytes folders.path) (count_out folders.disk folders.given) None

-- An opening fails exactly where the path can't be opened. Exactly those that fail are counted.
pub record OpensOnce {T E : Type 0} (old new : MemFolders) (path : List ℕ) (result : Result T E) : Type 0 where
  pub exactly : IsErr result ↔ (opens_of old path ≡ false)
  pub counted : Counts old.faults new.faults result

-- the path stays, and the disk with it
pub record KeepsFolder (old new : MemFolders) : Type 0 where
  pub path : string_bytes new.path ≡ string_bytes old.path
  pub disk : new.disk ≡ old.disk
  pub is_opened : new.opened ≡ old.opened
  pub count : new.given ≡ old.given
