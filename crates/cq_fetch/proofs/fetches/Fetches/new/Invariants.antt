use Rattle.std.proofs.Common.{◌≡◌, replicate}
use Rattle.cq_fetch.specs.Fetches.{none}
use Rattle.cq_fetch.proofs.fetches.Fetches.new.Given as goal

abbrev pub invariant-loop-client : goal.invariant-loop-client
invariant-loop-client l = l.list.items ≡ replicate l._client none
