-- The holes before records, in order: where each begins, and its size.
use Rattle.std.specs.Prelude.{◌≡◌, ◌≢◌, ℕ, ◌+◌, ◌-◌, ◌*◌, ◌/◌, ◌%◌, ◌^◌, ◌<◌, ◌≤◌, Bool, true, false, ◌==◌, nat_lt, ◌&&◌, List, [], ◌∷◌, length, slice_index}
use Rattle.std.specs.Ordering.{nat_cmp}
use Rattle.std.specs.BTreeSet.{BTreeSet, contains}
use Rattle.cq_block.specs.declared.layout.Move.{Move}
use Rattle.cq_pack.specs.Packing.{fits_hole}

-- the lowest of the holes of these sizes that may take a record of this length
pub record IsLowest (len : ℕ) (sizes : List ℕ) (j : ℕ) : Type 0 where
  pub within : j < length sizes
  pub takes : fits_hole len (slice_index sizes j) ≡ true
  pub lower : (k : ℕ) → k < j → fits_hole len (slice_index sizes k) ≡ false

-- no hole of these sizes may take it
abbrev pub NoneTakes : ℕ → List ℕ → Type 0
NoneTakes len sizes = (k : ℕ) → k < length sizes → fits_hole len (slice_index sizes k) ≡ false

-- where the holes before records begin, from this place on
abbrev pub starts_before : ℕ → List Move → List ℕ
starts_before start [] = []
starts_before start (m ∷ ms) = start ∷ starts_before (m.to + m.len) ms

-- the sizes of the holes before records, from this place on
abbrev pub sizes_before : ℕ → List Move → List ℕ
sizes_before start [] = []
sizes_before start (m ∷ ms) = (m.to - start) ∷ sizes_before (m.to + m.len) ms

-- the first hole of a size
pub record IsFirstOf (size : ℕ) (sizes : List ℕ) (j : ℕ) : Type 0 where
  pub within : j < length sizes
  pub is : slice_index sizes j ≡ size
  pub lower : (k : ℕ) → k < j → slice_index sizes k ≢ size

-- no hole has this size
abbrev pub NoneIs : ℕ → List ℕ → Type 0
NoneIs size sizes = (k : ℕ) → k < length sizes → slice_index sizes k ≢ size

-- the size of a hole and its place in the order, as one number
abbrev pub hole_key : ℕ → ℕ → ℕ
hole_key size hole = size * 2 ^ 64 + hole

-- whether a number is the key of one of the holes of these sizes
abbrev pub is_key : List ℕ → ℕ → Bool
is_key sizes q = nat_lt (q % 2 ^ 64) (length sizes) && slice_index sizes (q % 2 ^ 64) == q / 2 ^ 64

-- the sizes are found by their values in a tree, and by their keys
pub record AreIndexed (sizes values : List ℕ) (keys : BTreeSet ℕ) : Type 0 where
  pub few : length sizes ≤ 2 ^ 64
  pub room : length sizes ≤ length values
  pub valued : (k : ℕ) → slice_index values k ≡ slice_index sizes k
  pub keyed : (q : ℕ) → contains nat_cmp keys q ≡ is_key sizes q
