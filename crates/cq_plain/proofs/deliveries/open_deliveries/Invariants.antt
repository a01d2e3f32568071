use Rattle.std.proofs.Common.{◌≡◌, take, reverse}
use Rattle.cq_journal.specs.History.{open_deliveries}
use Rattle.cq_plain.proofs.deliveries.open_deliveries.Given as goal

abbrev pub invariant-loop-entry : goal.invariant-loop-entry
invariant-loop-entry l = l.out.items ≡ open_deliveries (reverse (take l.entry-index l.entries))
