use Rattle.std.proofs.Common.{◌≡◌}
use Rattle.cq_inbox.specs.Requests.{IsRequest}
use Rattle.cq_lane.specs.Lanes.{IsSenderOf, own_id, sent_by}
use Rattle.cq_bench.proofs.lanes.put_until_held.Given as goal

abbrev pub invariant-loop : goal.invariant-loop
invariant-loop g l = record {
  ends : IsSenderOf l.lanes l.sender × (own_id l.sender ≡ own_id l.initial.sender);
  same : sent_by l.sender ≡ sent_by l.initial.sender;
  request : IsRequest l.next;
}
