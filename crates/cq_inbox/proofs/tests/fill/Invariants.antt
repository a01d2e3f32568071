use Rattle.std.proofs.Common.{◌≡◌, ◌≤◌, length}
use Rattle.cq_inbox.proofs.tests.fill.Given as goal

abbrev pub invariant-loop-delivery : goal.invariant-loop-delivery
invariant-loop-delivery l = (length l.inbox ≡ length l.initial.inbox) × (l.held ≤ l.delivery)
