use Rattle.std.proofs.Common.{◌≡◌, ◌<◌, ◌^◌, take}
use Rattle.cq_marks.specs.Marks.{greatest_end}
use Rattle.cq_marks.proofs.Marks.lowest_cut.Given as goal

abbrev pub invariant-loop-mark : goal.invariant-loop-mark
invariant-loop-mark l = record { cut : l.cut ≡ greatest_end l.file (take l.mark-index l.mark-items); small : l.cut < 2 ^ 63 }
