-- A tree of greatest values in a list: node 1 is the root, the children of node n are 2 n and 2 n + 1, and below so many
-- levels stand the values.
use Rattle.std.specs.Prelude.{◌≡◌, ℕ, ◌+◌, ◌*◌, ◌^◌, ◌<◌, ◌≤◌, List, length, slice_index, max}

-- a node has the greater of its children's values
abbrev pub IsAbove : List ℕ → ℕ → Type 0
IsAbove nodes n = slice_index nodes n ≡ max (slice_index nodes (2 * n)) (slice_index nodes (2 * n + 1))

pub record IsTree (levels : ℕ) (nodes : List ℕ) : Type 0 where
  pub size : length nodes ≡ 2 * 2 ^ levels
  pub above : (n : ℕ) → 0 < n → n < 2 ^ levels → IsAbove nodes n

-- the first value that is at least so large
pub record IsFirst (least : ℕ) (values : List ℕ) (place : ℕ) : Type 0 where
  pub within : place < length values
  pub reaches : least ≤ slice_index values place
  pub lower : (k : ℕ) → k < place → slice_index values k < least

-- no value is so large
abbrev pub NoneReaches : ℕ → List ℕ → Type 0
NoneReaches least values = (k : ℕ) → k < length values → slice_index values k < least
