use Rattle.std.proofs.Common.{◌≡◌, drop}
use Rattle.cq_items.specs.Items.{holder_of}
use Rattle.cq_items.specs.Slots.{alive}
use Rattle.cq_items.proofs.items.Items.find_holder.Given as goal

abbrev pub invariant-loop-at : goal.invariant-loop-at
invariant-loop-at l = holder_of l.id (alive (drop l.at l.self-inside.slots.items)) ≡ holder_of l.id (alive (drop l.self-inside.first l.self-inside.slots.items))
