use Rattle.std.proofs.Common.{◌≡◌, ◌+◌, ◌≤◌, ◌++◌, length}
use Rattle.std.specs.Prelude.{map, Some, vec_capacity}
use Rattle.cq_items.specs.Items.{settled_items, settling_in, others_in, at_of}
use Rattle.cq_items.proofs.items.Items.settle_in.Given as goal

abbrev pub invariant-loop-left : goal.invariant-loop-left
invariant-loop-left l = record {
  places : map (λ i. at_of i.stand) (settling_in (Some l.segment) l.fn.self.items) ≡ l.at.items ++ map (λ i. at_of i.stand) (settling_in (Some l.segment) l.self.items);
  named : map (λ i. i.id) (settling_in (Some l.segment) l.fn.self.items) ≡ l.ids.items ++ map (λ i. i.id) (settling_in (Some l.segment) l.self.items);
  others : others_in (Some l.segment) l.self.items ≡ others_in (Some l.segment) l.fn.self.items;
  reserved : l.self.reserved ≡ l.fn.self.reserved;
  at_room : length l.at.items + length (settled_items l.self.items) ≤ vec_capacity l.at;
  id_room : length l.ids.items + length (settled_items l.self.items) ≤ vec_capacity l.ids;
}

abbrev pub decreases-loop-left : goal.decreases-loop-left
decreases-loop-left l = length (settled_items l.self.items)
