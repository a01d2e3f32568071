use Rattle.std.proofs.Common.{◌≡◌, map, replicate, []}
use Rattle.cq_grammar.proofs.streams.no_requests.Given as goal

abbrev pub invariant-loop-client : goal.invariant-loop-client
invariant-loop-client l = map (λ requests. requests.items) l.streams.items ≡ replicate l._client []
