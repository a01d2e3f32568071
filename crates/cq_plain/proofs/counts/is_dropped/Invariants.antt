use Rattle.std.proofs.Common.{◌≡◌, take, reverse}
use Rattle.cq_journal.specs.Legal.{has, is_dropped_by}
use Rattle.cq_plain.proofs.counts.is_dropped.Given as goal

abbrev pub invariant-loop-entry : goal.invariant-loop-entry
invariant-loop-entry l = l.found ≡ has (is_dropped_by l.client l.delivery) (reverse (take l.entry-index l.entries))
