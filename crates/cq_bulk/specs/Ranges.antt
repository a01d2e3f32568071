-- Ranges of records, and the bytes in them.
use Rattle.std.specs.Prelude.{◌≡◌, ℕ, ◌+◌, ◌-◌, ◌&&◌, Bool, nat_le, List, length, slice_index}
use Rattle.std.specs.Int.{w32}
use Rattle.cq_bytes.specs.Field.{number_at}

-- the record of a body of this length at a place lies between two places
abbrev pub is_range : ℕ → ℕ → ℕ → ℕ → Bool
is_range from to place len = nat_le from place && nat_le (place + len + 5) to

-- bytes that begin with the length of a body, as many as these have without the five others, and end with 255
pub record IsRecord (bytes : List ℕ) : Type 0 where
  pub number : number_at w32 bytes 0 ≡ length bytes - 5
  pub last : slice_index bytes (length bytes - 5 + 4) ≡ 255
