use Rattle.std.proofs.Common.{◌≡◌, take, reverse}
use Rattle.cq_journal.specs.History.{settled}
use Rattle.cq_plain.proofs.queue.settled.Given as goal

abbrev pub invariant-loop-entry : goal.invariant-loop-entry
invariant-loop-entry l = l.ids.items ≡ settled (reverse (take l.entry-index l.entries)) l.queue
