use Rattle.std.proofs.Common.{◌≡◌, length}
use Rattle.std.specs.List.{AllByRecursion}
use Rattle.cq_broker.proofs.broker.publishing.copies_of.Given as goal

abbrev pub invariant-loop-copy : goal.invariant-loop-copy
invariant-loop-copy l = (length l.bodies.items ≡ l._copy) × AllByRecursion (λ copy. copy ≡ l.body) l.bodies.items
