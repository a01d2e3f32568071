-- The lines of a script, the words of a line, and the numbers that words spell.
use Rattle.std.specs.Prelude.{ℕ, ◌+◌, ◌-◌, ◌^◌, Bool, false, not, ◌==◌, ◌&&◌, if◌then◌else◌, List, [], ◌∷◌, length, take, drop, slice_index, nat_le, nat_lt, Option, None, Some, Result, Ok, Err}
use Rattle.std.specs.List.{slice_split, list_all, count_by, position}
use Rattle.std.specs.Option.{option_map}
use Rattle.std.specs.Char.{is_ascii_digit}
use Rattle.std.specs.Str.Parse.{digits_value}

-- a text without the LF at its end, if it has one
abbrev pub without_last_newline : List ℕ → List ℕ
without_last_newline bs = if slice_index bs (length bs - 1) == 10 then take (length bs - 1) bs else bs

-- LF ends each line, but may lack at the last
abbrev pub script_lines : List ℕ → List (List ℕ)
script_lines [] = []
script_lines (b ∷ bs) = slice_split (λ c. c == 10) (without_last_newline (b ∷ bs))

-- how many LFs stand in a text
abbrev pub line_ends : List ℕ → ℕ
line_ends bs = count_by (λ b. b == 10) bs

-- what stands between spaces
abbrev pub words : List ℕ → List (List ℕ)
words line = slice_split (λ c. c == 32) line

-- a byte from 0x20 to 0x7e
abbrev pub is_printable : ℕ → Bool
is_printable b = nat_le 32 b && nat_le b 126

-- no word is empty: single spaces separate the words
abbrev pub is_spaced : List (List ℕ) → Bool
is_spaced ws = list_all (λ w. not (length w == 0)) ws

-- `0`, or decimal digits of which the first isn't 0
abbrev pub is_decimal : List ℕ → Bool
is_decimal [] = false
is_decimal (first ∷ rest) = if first == 48 then length rest == 0 else list_all is_ascii_digit (first ∷ rest)

-- the number that such digits spell, below 2 ^ 64
abbrev pub number_of : List ℕ → Option ℕ
number_of w = if is_decimal w && nat_lt (digits_value 10 w) (2 ^ 64) then Some (digits_value 10 w) else None

-- what stands in a word before a byte and after it, where that byte first stands there
abbrev pub halves : ℕ → List ℕ → Option (List ℕ × List ℕ)
halves c w = option_map (λ place. (take place w, drop (place + 1) w)) (position (λ b. b == c) w)

-- the second reading, where the first gave a value; else why it gave none
infixl 10 ◌>>=◌
abbrev pub ◌>>=◌ : {A B E : Type 0} → Result A E → (A → Result B E) → Result B E
Ok x >>= f = f x
Err e >>= f = Err e

-- what is made of the value, where a reading gave one
abbrev pub map_ok : {A B E : Type 0} → (A → B) → Result A E → Result B E
map_ok f (Ok x) = Ok (f x)
map_ok f (Err e) = Err e

-- what a reading gives of each in turn, or the first refusal
abbrev pub each : {A B E : Type 0} → (A → Result B E) → List A → Result (List B) E
each f [] = Ok []
each f (x ∷ xs) = do
  y ← f x
  ys ← each f xs
  Ok (y ∷ ys)
