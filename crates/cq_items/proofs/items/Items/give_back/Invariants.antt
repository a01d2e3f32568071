use Rattle.std.proofs.Common.{◌≡◌}
use Rattle.cq_items.specs.Items.{give_back, count_out}
use Rattle.cq_items.proofs.items.Items.give_back.Given as goal

abbrev pub invariant-loop : goal.invariant-loop
invariant-loop l = (give_back l.client l.self.items ≡ give_back l.client l.fn.self.items) × (l.self.reserved ≡ l.fn.self.reserved)

abbrev pub decreases-loop : goal.decreases-loop
decreases-loop l = count_out l.client l.self.items
