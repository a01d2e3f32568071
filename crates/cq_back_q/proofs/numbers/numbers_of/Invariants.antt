use Rattle.std.proofs.Common.{take}
use Rattle.cq_back_q.specs.Numbers.{AreNumbersOf}
use Rattle.cq_back_q.proofs.numbers.numbers_of.Given as goal

abbrev pub invariant-loop-name : goal.invariant-loop-name
invariant-loop-name l = AreNumbersOf l.kind l.queue (take l.name-index l.names) l.numbers.items
