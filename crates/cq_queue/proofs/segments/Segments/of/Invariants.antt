use Rattle.std.proofs.Common.{◌≡◌, ◌≤◌, length, take}
use Rattle.std.specs.VecDeque.{deque_capacity}
use Rattle.cq_queue.specs.Lists.{empty_numbers}
use Rattle.cq_queue.proofs.segments.Segments.of.Given as goal

abbrev pub invariant-loop-index : goal.invariant-loop-index
invariant-loop-index l = record {
  numbers : l.empty.items ≡ empty_numbers (take l.index l.list.items);
  room : length l.list.items ≤ deque_capacity l.empty;
}
