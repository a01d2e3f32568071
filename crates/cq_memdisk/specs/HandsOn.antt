-- What a disk for tests hands on to the disk within.
use Rattle.std.specs.Prelude.{[], None, ◌-◌, ◌^◌, ◌<◌, Result, OnOk, OnErr}
use Rattle.cq_disk.specs.Files.{SameFiles}
use Rattle.cq_disk.specs.Rose.{Rose}
use Rattle.cq_disk.specs.Call.{Called}
use Rattle.cq_memdisk.specs.Change.{files_of}
use Rattle.cq_memdisk.specs.declared.altered.Altered.{Altered}

-- It is served only where the condition of the call is met. Where it is, and the moment isn't the last, it fails only where the disk within does. A call that fails changes no file.
pub record HandsOn {T E : Type 0} (old new : Altered) (result : Result T E) (IsFault IsMet : Type 0) : Type 0 where
  pub met : OnOk result IsMet
  pub failed : IsFault → IsMet → old.moment < 2 ^ 64 - 1 → Rose old.disk.faults new.disk.faults
  pub unchanged : OnErr result (SameFiles (files_of old.disk.notes.items) (files_of new.disk.notes.items))

-- what each call does to its counts
abbrev pub AlteredCalled : {T E : Type 0} → Altered → Altered → Result T E → Type 0 → Type 0
AlteredCalled old new result IsFault = Called (λ (d : Altered). d.moment) (λ (d : Altered). d.faults) (λ (d : Altered). d.faults) (λ (d : Altered). None) (λ (d : Altered). []) old new result IsFault
