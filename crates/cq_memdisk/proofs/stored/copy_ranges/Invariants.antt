use Rattle.std.proofs.Common.{take}
use Rattle.cq_memdisk.specs.Ranges.{Copied}
use Rattle.cq_memdisk.proofs.stored.copy_ranges.Given as goal

abbrev pub invariant-loop-range : goal.invariant-loop-range
invariant-loop-range l = Copied (take l.range-index l.ranges) l.end l.from l.initial.to.items l.to.items
