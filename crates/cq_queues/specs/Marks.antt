-- Marks of numbers, and the lowest one that is marked.
use Rattle.std.specs.Prelude.{◌≡◌, ℕ, ◌<◌, ◌≤◌, Bool, true, false, List, length, get_or}

-- whether a number is marked
abbrev pub marked : List Bool → ℕ → Bool
marked flags q = get_or flags q false

-- There are 256 flags, and none below this place is set.
pub record AreFlags (flags : List Bool) (low : ℕ) : Type 0 where
  pub count : length flags ≡ 256
  pub within : low ≤ 256
  pub below : (q : ℕ) → q < low → marked flags q ≡ false

-- no number below 256 passes this test
abbrev pub HasNone : (ℕ → Bool) → Type 0
HasNone test = (q : ℕ) → q < 256 → test q ≡ false

-- this number below 256 passes, and no lower one
pub record IsLowest (test : ℕ → Bool) (f : ℕ) : Type 0 where
  pub within : f < 256
  pub passes : test f ≡ true
  pub below : (q : ℕ) → q < f → test q ≡ false
