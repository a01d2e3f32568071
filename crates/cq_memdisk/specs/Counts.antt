-- When a call of the disk in memory fails, and what raises its counts.
use Rattle.std.specs.Prelude.{◌+◌, min, ◌≡◌, ◌-◌, ◌^◌, ◌≤◌, ◌<◌, Contains, Option, Result, OnOk}
use Rattle.cq_disk.specs.declared.name.Name.{Name}
use Rattle.cq_disk.specs.File.{File}
use Rattle.cq_disk.specs.Call.{BeforeFuse, Called, Elapses}
use Rattle.cq_memdisk.specs.declared.disk.MemDisk.{MemDisk}
use Rattle.cq_memdisk.specs.Change.{LeftBetween, files_of}

-- the files as the disk's record has them
abbrev pub files_in : MemDisk → Name → Option File
files_in disk = files_of disk.notes.items

-- time goes on by one call
abbrev pub Ticks : MemDisk → MemDisk → Type 0
Ticks old new = Elapses old.moment new.moment (LeftBetween old.notes.items old.since old.moment) (LeftBetween new.notes.items new.since new.moment)

-- A planned call is a fault. The counts rise for a cause alone: a planned moment, one past the fuse, the last one, or a growth that was refused; `struck` not for the fuse. A call that is served raises none.
pub record Counted {T E : Type 0} (old new : MemDisk) (result : Result T E) (IsFault : Type 0) : Type 0 where
  pub planned : Contains old.fails.items old.moment → IsFault
  pub refused : old.refused ≤ new.refused
  pub faults : (Contains old.fails.items old.moment → ⊥) → BeforeFuse old.fuse old.moment → old.moment < 2 ^ 64 - 1 → new.refused ≡ old.refused → new.faults ≡ old.faults
  pub struck : (Contains old.fails.items old.moment → ⊥) → old.moment < 2 ^ 64 - 1 → new.refused ≡ old.refused → new.struck ≡ old.struck
  pub served : OnOk result ((new.faults ≡ old.faults) × (new.struck ≡ old.struck) × (new.refused ≡ old.refused))

-- what each call does to its counts
abbrev pub MemCalled : {T E : Type 0} → MemDisk → MemDisk → Result T E → Type 0 → Type 0
MemCalled old new result IsFault = Called (λ (d : MemDisk). d.moment) (λ (d : MemDisk). d.faults) (λ (d : MemDisk). d.struck) (λ (d : MemDisk). d.fuse) (λ (d : MemDisk). d.fails.items) old new result IsFault

-- the bytes, the record, and the moment from which it goes stay
pub record KeepsFiles (old new : MemDisk) : Type 0 where
  pub files : new.files ≡ old.files
  pub notes : new.notes ≡ old.notes
  pub since : new.since ≡ old.since

-- the counts of faults, the fuse and the planned calls stay
pub record KeepsFaults (old new : MemDisk) : Type 0 where
  pub faults : new.faults ≡ old.faults
  pub struck : new.struck ≡ old.struck
  pub refused : new.refused ≡ old.refused
  pub fuse : new.fuse ≡ old.fuse
  pub planned : new.fails.items ≡ old.fails.items

-- no device call was made: the moment stays too
pub record KeepsCounts (old new : MemDisk) : Type 0 where
  pub moment : new.moment ≡ old.moment
  pub faults : new.faults ≡ old.faults
  pub struck : new.struck ≡ old.struck
  pub refused : new.refused ≡ old.refused
  pub fuse : new.fuse ≡ old.fuse
  pub planned : new.fails.items ≡ old.fails.items

-- A growth was refused: each count rises by one, up to its last value.
pub record Refuses (old new : MemDisk) : Type 0 where
  pub moment : new.moment ≡ old.moment
  pub faults : new.faults ≡ min (old.faults + 1) (2 ^ 64 - 1)
  pub faults_later : old.faults ≤ new.faults
  pub struck : new.struck ≡ min (old.struck + 1) (2 ^ 64 - 1)
  pub struck_later : old.struck ≤ new.struck
  pub refused : new.refused ≡ min (old.refused + 1) (2 ^ 64 - 1)
  pub refused_later : old.refused ≤ new.refused
  pub saturated : new.refused ≡ old.refused → (new.faults ≡ old.faults) × (new.struck ≡ old.struck)
  pub fuse : new.fuse ≡ old.fuse
  pub planned : new.fails.items ≡ old.fails.items
