use Rattle.std.proofs.Common.{◌≡◌, ◌==◌, ◌++◌, take, map}
use Rattle.std.specs.Prelude.{◌&&◌, filter}
use Rattle.cq_journal.specs.History.{is_delivery}
use Rattle.cq_plain.proofs.deliveries.push_named.Given as goal

abbrev pub invariant-loop-handed : goal.invariant-loop-handed
invariant-loop-handed l =
    l.removed.items ≡ l.fn.removed.items ++ map (λ d. d.id) (filter (λ d. is_delivery l.client l.number d && d.queue == l.queue) (take l.handed-index l.out))
