use Rattle.std.proofs.Common.{◌≡◌, ◌≤◌, length}
use Rattle.cq_lane.specs.Lanes.{seat_ids}
use Rattle.cq_bench.proofs.lanes.take_in_turn.Given as goal

abbrev pub invariant-loop-expected : goal.invariant-loop-expected
invariant-loop-expected g l = record {
  count : length (seat_ids l.taker.seats) ≡ 64;
  in_order : l.in_order ≤ l.expected;
}
