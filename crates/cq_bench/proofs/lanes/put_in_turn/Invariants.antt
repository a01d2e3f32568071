use Rattle.std.proofs.Common.{◌≡◌, ◌≤◌, length, vec_len, All}
use Rattle.cq_lane.specs.Lanes.{IsSenderOf, sent_by}
use Rattle.cq_bench.proofs.lanes.put_in_turn.Given as goal

abbrev pub invariant-loop-delivery : goal.invariant-loop-delivery
invariant-loop-delivery g l = record {
  count : vec_len l.senders ≡ 64;
  senders : All (IsSenderOf l.lanes) l.senders.items;
  few : All (λ s. length (sent_by s) ≤ l.delivery) l.senders.items;
}
