use Rattle.std.proofs.Common.{◌≡◌, ◌++◌, ◌+◌, ◌*◌, List, ℕ}
use Rattle.cq_flying.specs.Ends.{own_end_id, dropped_at, own_looks, own_tries, NoneIs}
use Rattle.cq_flying.proofs.client.OwnEnd.drop_delivery.Given as goal

abbrev pub invariant-loop-word : goal.invariant-loop-word
invariant-loop-word l = record {
  same : own_end_id l.self ≡ own_end_id l.initial.self;
  dropped : dropped_at l.self ≡ dropped_at l.initial.self;
  tried : own_tries l.self ≡ own_tries l.initial.self;
  none : (found : List (ℕ × ℕ)) × (own_looks l.self ≡ own_looks l.initial.self ++ found) × NoneIs (2 * (l.delivery + 1)) found l.word;
}
