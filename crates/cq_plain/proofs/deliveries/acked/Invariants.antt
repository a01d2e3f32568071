use Rattle.std.proofs.Common.{◌≡◌, take, reverse}
use Rattle.cq_journal.specs.History.{open_deliveries, acked}
use Rattle.cq_plain.proofs.deliveries.acked.Given as goal

abbrev pub invariant-loop-entry : goal.invariant-loop-entry
invariant-loop-entry l = record {
  out : l.out.items ≡ open_deliveries (reverse (take l.entry-index l.entries));
  gone : l.removed.items ≡ acked (reverse (take l.entry-index l.entries)) l.queue;
}
