-- Short texts: bytes that are shown as they are, and written as one word.
use Rattle.std.specs.Prelude.{ℕ, ◌&&◌, Bool, List, length, nat_le}
use Rattle.std.specs.List.{list_all}

-- a byte from 0x21 to 0x7e
abbrev pub is_visible : ℕ → Bool
is_visible b = nat_le 33 b && nat_le b 126

-- 1 to 64 bytes, each from 0x21 to 0x7e
abbrev pub is_text : List ℕ → Bool
is_text bytes = nat_le 1 (length bytes) && (nat_le (length bytes) 64 && list_all is_visible bytes)
