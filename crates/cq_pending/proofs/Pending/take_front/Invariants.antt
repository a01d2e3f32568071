use Rattle.std.proofs.Common.{◌≡◌, drop}
use Rattle.cq_pending.proofs.Pending.take_front.Given as goal

abbrev pub invariant-loop : goal.invariant-loop
invariant-loop l = l.self ≡ drop l.counter l.fn.self
