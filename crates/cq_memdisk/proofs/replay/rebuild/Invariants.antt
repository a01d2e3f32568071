use Rattle.cq_memdisk.specs.Change.{files_of}
use Rattle.cq_memdisk.specs.Crash.{CrashedFirst}
use Rattle.cq_memdisk.specs.Folder.{bytes_of}
use Rattle.cq_memdisk.specs.Record.{IsKept}
use Rattle.cq_memdisk.specs.Stored.{stored_of}
use Rattle.cq_memdisk.proofs.replay.rebuild.Given as goal

abbrev pub invariant-loop-place : goal.invariant-loop-place
invariant-loop-place l = IsKept l.notes.items (bytes_of l.files) l.now × CrashedFirst l.n l.place l.names.items (stored_of l.states) (files_of l.notes.items)
