use Rattle.std.proofs.Common.{◌≡◌, ◌-◌}
use Rattle.cq_queues.specs.Marks.{AreFlags}
use Rattle.cq_queues.proofs.marks.Marks.lowest.Given as goal

abbrev pub invariant-loop-self : goal.invariant-loop-self
invariant-loop-self l = AreFlags l.self-inside.flags.items l.self-inside.low × (l.self-inside.flags.items ≡ l.fn.self)

abbrev pub decreases-loop-self : goal.decreases-loop-self
decreases-loop-self l = 256 - l.self-inside.low
