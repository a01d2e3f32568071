-- What a run of calls does to a disk, whose meanings are one argument.
use Rattle.std.specs.Prelude.{◌≡◌, ℕ, ◌≤◌, List}
use Rattle.cq_disk.specs.declared.name.Name.{Name}
use Rattle.cq_disk.specs.declared.disk.Disk.{Ghosts}
use Rattle.cq_disk.specs.Files.{IsImage, OnFile, SameFiles}
use Rattle.cq_disk.specs.Call.{Image, BeforeFuse}
use Rattle.cq_disk.specs.Call.{LeavesOnly as LeavesBetween}
use Rattle.cq_disk.specs.Rose.{Rose}

-- What each run of calls says. Moments and counts haven't fallen; a fault has its cause, and before the fuse a cause
-- of its own; the fuse and the planned faults stay.
pub record Ran {D : Type 0} (g : Ghosts D) (old new : D) (IsFault : Type 0) : Type 0 where
  pub later : g.moment old ≤ g.moment new
  pub faults : g.faults old ≤ g.faults new
  pub struck : g.struck old ≤ g.struck new
  pub cause : IsFault → Rose (g.faults old) (g.faults new)
  pub strike : IsFault → BeforeFuse (g.fuse old) (g.moment new) → Rose (g.struck old) (g.struck new)
  pub fuse : g.fuse new ≡ g.fuse old
  pub planned : g.planned new ≡ g.planned old

-- a crash at any moment of a run of calls leaves what has P
abbrev pub LeavesOnly : {D : Type 0} → Ghosts D → D → D → (Image → Type 0) → Type 0
LeavesOnly g old new P = LeavesBetween g.moment g.left old new P

-- The same of a run within which a fuse may be set: a fault that is told has both its causes.
pub record RanOn {D : Type 0} (g : Ghosts D) (old new : D) (IsFault : Type 0) : Type 0 where
  pub later : g.moment old ≤ g.moment new
  pub faults : g.faults old ≤ g.faults new
  pub struck : g.struck old ≤ g.struck new
  pub cause : IsFault → Rose (g.faults old) (g.faults new)
  pub strike : IsFault → Rose (g.struck old) (g.struck new)
  pub planned : g.planned new ≡ g.planned old

-- a crash at any moment of a run of calls leaves of this file what has P, and of each other what it could leave before
abbrev pub LeavesOfFile : {D : Type 0} → Ghosts D → Name → D → D → (List ℕ → Type 0) → Type 0
LeavesOfFile g name old new P = LeavesOnly g old new (OnFile name (g.files old) P)

-- A run of calls that only read: the files are as they were, and a crash leaves no more than it could before.
pub record OnlyReads {D : Type 0} (g : Ghosts D) (old new : D) : Type 0 where
  pub files : SameFiles (g.files old) (g.files new)
  pub any_moment : LeavesOnly g old new (IsImage (g.files old))
