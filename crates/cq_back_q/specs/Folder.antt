-- The files of a folder, and what syncs and the removal of small stores leave of them.
use Rattle.std.specs.Prelude.{◌≡◌, ◌⊎◌, ℕ, ◌≤◌, ◌==◌, ◌&&◌, Bool, true, false, List, length, Option, Some, None}
use Rattle.cq_disk.specs.declared.name.Name.{Name}
use Rattle.cq_disk.specs.declared.name.Kind.{Kind}
use Rattle.cq_disk.specs.declared.name.Kind.TheVariants.{Index, Small, Shared}
use Rattle.cq_disk.specs.Call.{Image}
use Rattle.cq_disk.specs.File.{File}
use Rattle.cq_disk.specs.Files.{IsImageOf}
use Rattle.cq_index.specs.Places.{index_name}
use Rattle.cq_small.specs.Store.{small_name}
use Rattle.cq_folder.specs.Held.{bytes_in}

-- whether a file of this kind belongs to a queue alone
abbrev pub is_own : Kind → Bool
is_own Index = true
is_own Small = true
is_own Shared = false

-- whether the name is that of a queue's index or small store
abbrev pub is_of : ℕ → Name → Bool
is_of queue name = (name.queue == queue) && is_own name.kind

-- a file isn't there, or is at most 128 bytes long
abbrev pub IsBare : Option (List ℕ) → Type 0
IsBare None = Unit {0}
IsBare (Some file) = length file ≤ 128

-- no shared file is longer than 128 bytes
abbrev pub HasNoShelf : Image → Type 0
HasNoShelf image = (n : Name) → n.kind ≡ Shared → IsBare (image n)

-- no index or small store of the queue is there
pub record HasNoFile (queue : ℕ) (files : Name → Option File) : Type 0 where
  pub index : (n : ℕ) → files (index_name queue n) ≡ None
  pub small : (n : ℕ) → files (small_name queue n) ≡ None

-- every file reads as it did
abbrev pub ReadsSame : (Name → Option File) → (Name → Option File) → Type 0
ReadsSame old new = (n : Name) → bytes_in (new n) ≡ bytes_in (old n)

-- a small store whose index isn't there
pub record IsStray (files : Name → Option File) (n : Name) : Type 0 where
  pub kind : n.kind ≡ Small
  pub alone : files (index_name n.queue n.number) ≡ None

-- what a crash may leave of these files once stray small stores may be removed
abbrev pub IsImageOrWithout : (Name → Option File) → Image → Type 0
IsImageOrWithout files image = (n : Name) → IsImageOf (files n) (image n) ⊎ (IsStray files n × (image n ≡ None))

-- each file is as it was, but that stray small stores are gone
pub record HasLostStrays (old new : Name → Option File) : Type 0 where
  pub each : (n : Name) → (new n ≡ old n) ⊎ (IsStray old n × (new n ≡ None))
  pub gone : (n : Name) → IsStray old n → new n ≡ None
