use Rattle.std.proofs.Common.{◌≡◌, ◌++◌, take, map}
use Rattle.cq_journal.specs.History.{opened_in}
use Rattle.cq_plain.proofs.queue.push_lines.Given as goal

abbrev pub invariant-loop-line : goal.invariant-loop-line
invariant-loop-line l = l.ids.items ≡ l.fn.ids.items ++ map (λ m. m.id) (opened_in l.queue (take l.line-index l.lines))
