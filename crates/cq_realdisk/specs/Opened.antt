-- What folders of the operating system say of their paths: nothing of what stands there, and which are open.
use Rattle.std.specs.Prelude.{ℕ, List, Bool, false, Option, None}
use Rattle.cq_realdisk.specs.Paths.{given_to}
use Rattle.cq_realdisk.specs.declared.disk.RealDisk.{RealDisk}
use Rattle.cq_realdisk.specs.declared.folders.RealFolders.{RealFolders}

module _ {R Dir : Type 0} where
  abbrev pub inside_of : RealFolders R Dir → List ℕ → Option (RealDisk R Dir)
  inside_of folders path = None

  abbrev pub opens_of : RealFolders R Dir → List ℕ → Bool
  opens_of folders path = false

  -- with how many faults the disk of a path was handed out
  abbrev pub given_of : RealFolders R Dir → List ℕ → Option ℕ
  given_of folders = given_to folders.paths.items

  -- how many calls of a disk failed
  abbrev pub faults_of : RealDisk R Dir → ℕ
  faults_of disk = disk.faults
