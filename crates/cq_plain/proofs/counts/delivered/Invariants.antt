use Rattle.std.proofs.Common.{◌≡◌, ◌≤◌, take, reverse}
use Rattle.cq_journal.specs.Legal.{delivered}
use Rattle.cq_plain.proofs.counts.delivered.Given as goal

abbrev pub invariant-loop-entry : goal.invariant-loop-entry
invariant-loop-entry l = record {
  same : l.count ≡ delivered (reverse (take l.entry-index l.entries)) l.client;
  small : l.count ≤ l.entry-index;
}
