use Rattle.std.proofs.Common.{◌≡◌, ◌≤◌, length}
use Rattle.cq_journal.specs.Legal.{newest}
use Rattle.cq_broker.specs.Broker.{entries_of, history_of}
use Rattle.cq_broker.proofs.tests.fill.Given as goal

abbrev pub invariant-loop-turn : goal.invariant-loop-turn
invariant-loop-turn l = (length (history_of l.broker).clients ≡ 2) × (newest (entries_of l.broker) ≤ 3)
