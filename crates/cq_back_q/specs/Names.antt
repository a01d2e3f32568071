-- The names of a queue's files.
use Rattle.std.specs.Prelude.{◌≡◌, ◌⊎◌, ◌↔◌, ℕ, List, Contains, Option}
use Rattle.std.specs.List.Sorted.{IsStrictlySortedBy}
use Rattle.cq_disk.specs.declared.name.Name.{Name}
use Rattle.cq_disk.specs.declared.name.Kind.TheVariants.{Index, Small}
use Rattle.cq_disk.specs.Names.{name_cmp}
use Rattle.cq_disk.specs.File.{File}
use Rattle.cq_disk.specs.Files.{HasFile}
use Rattle.cq_folder.specs.Held.{IsSettled}

-- exactly the names of a queue's indexes and small stores that are there, in order, and all of these files is on the disk
pub record AreNamesOf (queue : ℕ) (files : Name → Option File) (names : List Name) : Type 0 where
  pub order : IsStrictlySortedBy name_cmp names
  pub each : (n : Name) → Contains names n ↔ (HasFile (files n) × (n.queue ≡ queue) × ((n.kind ≡ Index) ⊎ (n.kind ≡ Small)))
  pub settled : (n : Name) → n.queue ≡ queue → IsSettled (files n)
