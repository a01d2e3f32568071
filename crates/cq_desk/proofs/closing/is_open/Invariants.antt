use Rattle.std.proofs.Common.{◌≡◌, drop}
use Rattle.cq_bytes.specs.Numbers.{contains}
use Rattle.cq_desk.specs.Desk.{numbers_of}
use Rattle.cq_desk.proofs.closing.is_open.Given as goal

abbrev pub invariant-loop-open : goal.invariant-loop-open
invariant-loop-open l = contains (numbers_of (drop l.open-index l.opens)) l.delivery ≡ contains (numbers_of l.opens) l.delivery
