use Rattle.std.proofs.Common.{◌≡◌, take, reverse}
use Rattle.cq_journal.specs.Legal.{has, is_confirmed_by}
use Rattle.cq_plain.proofs.counts.is_confirmed.Given as goal

abbrev pub invariant-loop-entry : goal.invariant-loop-entry
invariant-loop-entry l = l.found ≡ has (is_confirmed_by l.id) (reverse (take l.entry-index l.entries))
