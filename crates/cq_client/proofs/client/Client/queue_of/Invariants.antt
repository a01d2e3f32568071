use Rattle.std.proofs.Common.{◌≡◌, drop}
use Rattle.cq_client.specs.Client.{queue_of}
use Rattle.cq_client.proofs.client.Client.queue_of.Given as goal

abbrev pub invariant-loop-open : goal.invariant-loop-open
invariant-loop-open l = queue_of l.delivery (drop l.open-index l.open-items) ≡ queue_of l.delivery l.self.account.opens
