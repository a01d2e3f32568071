use Rattle.std.proofs.lemmas.List.Sorted.{All-permutation}
use Rattle.cq_disk.specs.Names.{IsInRange}
use Rattle.cq_realdisk.proofs.folder.Folder.list.Goals as goal

pub returns : goal.returns
returns g c = All-permutation IsInRange _ _ c.sort.ensures.permutation c.loop-entry.invariant
