use Rattle.std.proofs.Common.{◌≡◌, ◌≤◌, ◌+◌, length}
use Rattle.cq_lane.specs.Lanes.{IsSenderOf, own_id, sent_by}
use Rattle.cq_bench.proofs.lanes.put_all.Given as goal

abbrev pub invariant-loop-delivery : goal.invariant-loop-delivery
invariant-loop-delivery g l = record {
  ends : IsSenderOf l.lanes l.sender × (own_id l.sender ≡ own_id l.fn.sender);
  few : length (sent_by l.sender) ≤ length (sent_by l.fn.sender) + l.delivery;
}
