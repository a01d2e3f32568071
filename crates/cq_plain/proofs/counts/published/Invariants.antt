use Rattle.std.proofs.Common.{◌≡◌, ◌≤◌, take, reverse}
use Rattle.cq_journal.specs.Legal.{published}
use Rattle.cq_plain.proofs.counts.published.Given as goal

abbrev pub invariant-loop-entry : goal.invariant-loop-entry
invariant-loop-entry l = record {
  same : l.count ≡ published (reverse (take l.entry-index l.entries)) l.client;
  small : l.count ≤ l.entry-index;
}
