use Rattle.std.proofs.Common.{◌≡◌, take}
use Rattle.cq_disk.specs.declared.name.Name.{Name}
use Rattle.cq_memdisk.specs.Change.{files_of}
use Rattle.cq_memdisk.specs.Stored.{stored_of}
use Rattle.cq_memdisk.proofs.replay.replay.Given as goal

abbrev pub invariant-loop-note : goal.invariant-loop-note
invariant-loop-note l = (n : Name) → stored_of l.states n ≡ files_of (take l.note-index l.notes) n
