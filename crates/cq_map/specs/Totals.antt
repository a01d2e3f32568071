-- Sums over the values of a map.
use Rattle.std.specs.Prelude.{ℕ, ◌+◌, List, [], ◌∷◌}
use Rattle.std.specs.Ordering.{nat_cmp}
use Rattle.std.specs.FinMap.{FinMap, entries}

-- the sum of what the values of entries are worth
abbrev pub sum_of : {V : Type 0} → (V → ℕ) → List (ℕ × V) → ℕ
sum_of w [] = 0
sum_of w (e ∷ es) = w e.1 + sum_of w es

-- the sum of what the values of a map are worth
abbrev pub total : {V : Type 0} → (V → ℕ) → FinMap nat_cmp V → ℕ
total w m = sum_of w (entries m)
