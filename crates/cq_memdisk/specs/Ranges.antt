-- Bytes that are copied, range by range.
use Rattle.std.specs.Prelude.{◌≡◌, ℕ, ◌≤◌, ◌<◌, List, length, slice_index}
use Rattle.cq_disk.specs.File.{IsWritten}

-- below an end, the bytes in these ranges are those of another list, and the rest stays
pub record Copied (ranges : List (ℕ × ℕ)) (end : ℕ) (from old new : List ℕ) : Type 0 where
  pub len : length new ≡ length old
  pub inside : (i : ℕ) → i < end → IsWritten ranges i → slice_index new i ≡ slice_index from i
  pub outside : (i : ℕ) → (i < end → IsWritten ranges i → ⊥) → slice_index new i ≡ slice_index old i

-- as long as this, with the front of another list, and behind it one byte
pub record IsPadded (from : List ℕ) (front len byte : ℕ) (new : List ℕ) : Type 0 where
  pub len_is : length new ≡ len
  pub low : (i : ℕ) → i < front → slice_index new i ≡ slice_index from i
  pub high : (i : ℕ) → front ≤ i → i < len → slice_index new i ≡ byte
