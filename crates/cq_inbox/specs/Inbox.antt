-- What an inbox holds, and what a take changes.
use Rattle.std.specs.Prelude.{◌≡◌, ℕ, ◌≤◌, List, [], ◌∷◌, ◌++◌, length, Option, MatchOption, slice_index_or}
use Rattle.std.specs.List.{AllByRecursion}
use Rattle.cq_inbox.specs.declared.request.Request.{Request}
use Rattle.cq_inbox.specs.Requests.{IsRequest}

-- what is held of a client, of the lists for all clients
abbrev pub held_of : List (List Request) → ℕ → List Request
held_of all client = slice_index_or all client []

-- the oldest request was taken; none exactly where none was held
abbrev pub HandsOut : Option Request → List Request → List Request → Type 0
HandsOut result old new = MatchOption result ((old ≡ []) × (new ≡ [])) (λ r. old ≡ r ∷ new)

-- what was taken, where something was, joined the list
abbrev pub Appends : Option Request → List Request → List Request → Type 0
Appends result old new = MatchOption result (new ≡ old) (λ r. new ≡ old ++ r ∷ [])

-- at most 64 requests, each of which can be answered, and room for 64
pub record IsHeld (requests : List Request) (capacity : ℕ) : Type 0 where
  pub few : length requests ≤ 64
  pub room : 64 ≤ capacity
  pub each : AllByRecursion IsRequest requests
