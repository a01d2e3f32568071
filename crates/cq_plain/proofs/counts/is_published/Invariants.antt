use Rattle.std.proofs.Common.{◌≡◌, take, reverse}
use Rattle.cq_journal.specs.Legal.{has, is_publish}
use Rattle.cq_plain.proofs.counts.is_published.Given as goal

abbrev pub invariant-loop-entry : goal.invariant-loop-entry
invariant-loop-entry l = l.found ≡ has (is_publish l.client l.number l.id) (reverse (take l.entry-index l.entries))
