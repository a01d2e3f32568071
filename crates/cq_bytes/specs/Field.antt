-- Big-endian numbers in lists of bytes.
use Rattle.std.specs.Prelude.{ℕ, ◌+◌, List, ◌++◌, take, drop}
use Rattle.std.specs.Int.{Width, byte_len, from_be_bytes, to_be_bytes}

-- the number of this width that stands from a place on
abbrev pub number_at : Width → List ℕ → ℕ → ℕ
number_at w bytes at = from_be_bytes w (take (byte_len w) (drop at bytes))

-- the bytes, with the number written over those from a place on
abbrev pub with_number_at : Width → List ℕ → ℕ → ℕ → List ℕ
with_number_at w bytes at value = take at bytes ++ to_be_bytes w value ++ drop (at + byte_len w) bytes
