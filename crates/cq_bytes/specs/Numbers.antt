-- Lists of numbers in which none stands twice.
use Rattle.std.specs.Prelude.{◌≡◌, ℕ, ◌<◌, Bool, false, ◌==◌, List, [], ◌∷◌}
use Rattle.std.specs.List.{list_any}

-- whether a number stands in a list
abbrev pub contains : List ℕ → ℕ → Bool
contains xs x = list_any (λ y. y == x) xs

-- numbers of queues, each below 256 and none twice
abbrev pub AreQueues : List ℕ → Type 0
AreQueues [] = Unit {0}
AreQueues (q ∷ qs) = (q < 256) × (contains qs q ≡ false) × AreQueues qs
