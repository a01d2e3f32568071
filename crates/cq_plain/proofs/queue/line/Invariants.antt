use Rattle.std.proofs.Common.{◌≡◌, take, reverse, map}
use Rattle.cq_journal.specs.History.{line}
use Rattle.cq_plain.proofs.queue.line.Given as goal

abbrev pub invariant-loop-entry : goal.invariant-loop-entry
invariant-loop-entry l = l.ids.items ≡ map (λ m. m.id) (line (reverse (take l.entry-index l.entries)) l.queue)
