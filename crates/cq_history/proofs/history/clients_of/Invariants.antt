use Rattle.std.proofs.Common.{◌≡◌, ℕ, length}
use Rattle.cq_client.specs.Client.{no_account}
use Rattle.cq_history.specs.History.{account_at}
use Rattle.cq_history.proofs.history.clients_of.Given as goal

abbrev pub invariant-loop-client : goal.invariant-loop-client
invariant-loop-client l = (length l.clients.items ≡ l._client) × ((c : ℕ) → account_at l.clients.items c ≡ no_account)
