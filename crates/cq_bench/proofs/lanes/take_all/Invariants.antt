use Rattle.std.proofs.Common.{◌≡◌, ◌≤◌, length}
use Rattle.cq_lane.specs.Lanes.{seat_ids}
use Rattle.cq_bench.proofs.lanes.take_all.Given as goal

abbrev pub invariant-loop : goal.invariant-loop
invariant-loop g l = record {
  client : length (seat_ids l.taker.seats) ≡ 1;
  taken : l.taken ≤ l.count;
  in_order : l.in_order ≤ l.taken;
}
