use Rattle.std.proofs.Common.{◌≡◌}
use Rattle.cq_flying.specs.Words.{IsOwnerOf, own_id}
use Rattle.cq_flying.proofs.tests.drop_all.Given as goal

abbrev pub invariant-loop-delivery : goal.invariant-loop-delivery
invariant-loop-delivery g l = IsOwnerOf l.words l.owner × (own_id l.owner ≡ own_id l.fn.owner)

abbrev pub invariant-loop : goal.invariant-loop
invariant-loop g l = IsOwnerOf l.words l.owner × (own_id l.owner ≡ own_id l.fn.owner)
