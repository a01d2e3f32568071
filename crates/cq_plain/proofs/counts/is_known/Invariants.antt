use Rattle.std.proofs.Common.{◌≡◌, take, reverse}
use Rattle.cq_journal.specs.Legal.{has, brings}
use Rattle.cq_plain.proofs.counts.is_known.Given as goal

abbrev pub invariant-loop-entry : goal.invariant-loop-entry
invariant-loop-entry l = l.found ≡ has (brings l.id) (reverse (take l.entry-index l.entries))
