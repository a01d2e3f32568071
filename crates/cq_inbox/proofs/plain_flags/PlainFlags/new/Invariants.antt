use Rattle.std.proofs.Common.{◌≡◌, [], replicate}
use Rattle.cq_inbox.proofs.plain_flags.PlainFlags.new.Given as goal

abbrev pub invariant-loop-client : goal.invariant-loop-client
invariant-loop-client l = l.words.items ≡ replicate l._client []
