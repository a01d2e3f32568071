use Rattle.std.specs.Prelude.{All}
use Rattle.cq_disk.specs.Names.{IsInRange}
use Rattle.cq_realdisk.proofs.folder.Folder.list.Given as goal

-- each name so far is in range
abbrev pub invariant-loop-entry : goal.invariant-loop-entry
invariant-loop-entry g l = All IsInRange l.names.items
