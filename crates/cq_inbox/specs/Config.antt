-- The ranges of a node's numbers.
use Rattle.std.specs.Prelude.{◌≡◌, ℕ, ◌≤◌}
use Rattle.cq_inbox.specs.declared.config.Config.{Config}

-- the clients, the entries of a segment, the threshold and the limit of a shared file are in their ranges
abbrev pub IsInRange : ℕ → ℕ → ℕ → ℕ → Type 0
IsInRange clients segment threshold limit =
    ((1 ≤ clients) × (clients ≤ 64)) × ((16 ≤ segment) × (segment ≤ 4096)) × ((1 ≤ threshold) × (threshold ≤ 65536)) × ((4096 ≤ limit) × (limit ≤ 16777216))

-- the numbers of a node
abbrev pub clients_of : Config → ℕ
clients_of config = config.clients

abbrev pub segment_of : Config → ℕ
segment_of config = config.segment

abbrev pub threshold_of : Config → ℕ
threshold_of config = config.threshold

abbrev pub limit_of : Config → ℕ
limit_of config = config.limit

abbrev pub session_of : Config → ℕ
session_of config = config.session

-- the numbers are these
pub record HasNumbers (clients segment threshold limit session : ℕ) (config : Config) : Type 0 where
  pub clients_is : clients_of config ≡ clients
  pub segment_is : segment_of config ≡ segment
  pub threshold_is : threshold_of config ≡ threshold
  pub limit_is : limit_of config ≡ limit
  pub session_is : session_of config ≡ session
