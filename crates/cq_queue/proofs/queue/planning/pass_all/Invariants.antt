use Rattle.std.proofs.Common.{◌≡◌, ℕ, ◌+◌, List, drop}
use Rattle.cq_items.specs.Items.{undecided_items}
use Rattle.cq_queue.specs.Passing.{MaySkip, commit_items}
use Rattle.cq_queue.specs.Planning.{IsPlan}
use Rattle.cq_queue.proofs.Passes.{Passing}
use Rattle.cq_queue.proofs.queue.planning.pass_all.Given as goal

-- what is left to pass makes the rest
abbrev pub invariant-loop-at : goal.invariant-loop-at
invariant-loop-at l = record {
  left : (skip : List ℕ) (room base : ℕ) → MaySkip skip l.fn.items.items → IsPlan skip room base (undecided_items l.fn.items.items) l.plan
      → Passing skip l.segment (l.count + l.kept) (commit_items skip room l.segment l.count base l.fn.items.items) l.items.items (drop l.at l.plan.passed.items) (drop l.kept l.plan.entries.items);
  reserved : l.items.reserved ≡ l.fn.items.reserved;
}
