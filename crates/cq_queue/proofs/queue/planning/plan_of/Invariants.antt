use Rattle.std.proofs.Common.{◌-◌, drop, length}
use Rattle.cq_items.specs.Items.{undecided_items}
use Rattle.cq_queue.proofs.Planned.{Goes}
use Rattle.cq_queue.proofs.queue.planning.plan_of.Given as goal

abbrev pub invariant-loop-item : goal.invariant-loop-item
invariant-loop-item l = Goes l.skip l.room l.base (undecided_items l.items.items) (drop (length l.plan.passed.items) (undecided_items l.items.items)) l.plan

abbrev pub decreases-loop-item : goal.decreases-loop-item
decreases-loop-item l = length (undecided_items l.items.items) - length l.plan.passed.items
