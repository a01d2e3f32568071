-- The marks of clients that read records of shared files: for each client, in order, the record that it reads.
use Rattle.std.specs.Prelude.{ℕ, ◌+◌, ◌^◌, ◌≤◌, Bool, false, ◌&&◌, ◌==◌, nat_lt, max, if◌then◌else◌, length, All, List, [], ◌∷◌, Option, None, Some}
use Rattle.cq_marks.specs.declared.Marked.{Marked}

-- the place behind the last byte of a record
abbrev pub end_of : Marked → ℕ
end_of m = m.place.at + m.place.len + 25

-- whether a client reads this message
abbrev pub reads : ℕ → Option Marked → Bool
reads id None = false
reads id (Some m) = m.id == id

-- whether a client reads a record of this file that ends past a place
abbrev pub reads_past : ℕ → ℕ → Option Marked → Bool
reads_past file end None = false
reads_past file end (Some m) = m.place.file == file && nat_lt end (end_of m)

-- the end of the record that a client reads in a file, 128 where it reads none there
abbrev pub end_in : ℕ → Option Marked → ℕ
end_in file None = 128
end_in file (Some m) = if m.place.file == file then end_of m else 128

-- the greatest end of the records that clients read in a file, 128 where they read none there
abbrev pub greatest_end : ℕ → List (Option Marked) → ℕ
greatest_end file [] = 128
greatest_end file (m ∷ ms) = max (end_in file m) (greatest_end file ms)

-- a mark is of a place that a file may have
abbrev pub IsInRange : Option Marked → Type 0
IsInRange None = Unit {0}
IsInRange (Some m) = (m.place.at ≤ 2 ^ 62) × (m.place.len ≤ 1048576)

-- there are at most 64 clients, and their marks are in range
pub record AreMarks (ms : List (Option Marked)) : Type 0 where
  pub few : length ms ≤ 64
  pub ranges : All IsInRange ms
