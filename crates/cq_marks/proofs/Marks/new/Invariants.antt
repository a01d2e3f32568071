use Rattle.std.proofs.Common.{◌≡◌, replicate, None}
use Rattle.cq_marks.proofs.Marks.new.Given as goal

abbrev pub invariant-loop : goal.invariant-loop
invariant-loop l = l.list.items ≡ replicate l.counter None
