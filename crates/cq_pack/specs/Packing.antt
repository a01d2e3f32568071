-- The packing of a file's live records. Repeatedly the last record goes to the start of the lowest hole before it whose
-- size is its length, or is at least its length and 25 more; it stops where the last record fits no hole before it.
use Rattle.std.specs.Prelude.{◌≡◌, ℕ, ◌+◌, ◌-◌, ◌^◌, ◌<◌, ◌≤◌, Bool, false, ◌&&◌, ◌||◌, ◌==◌, nat_le, nat_lt, List, [], ◌∷◌, map, filter, length, Option, None, Some, ◌⊎◌, if◌then◌else◌}
use Rattle.std.specs.List.{list_any, All}
use Rattle.std.specs.List.Sorted.{IsPermutation}
use Rattle.cq_bytes.specs.Numbers.{contains}
use Rattle.cq_block.specs.declared.layout.Block.{Block}
use Rattle.cq_block.specs.declared.layout.Move.{Move}

-- whether a record of this length may go into a hole of this size
abbrev pub fits_hole : ℕ → ℕ → Bool
fits_hole len size = size == len || nat_le (len + 25) size

-- the start of the lowest hole that may take a record of this length: a hole ends where a record begins, and the first
-- one begins at this place
abbrev pub lowest_hole : ℕ → ℕ → List Move → Option ℕ
lowest_hole len start [] = None
lowest_hole len start (m ∷ ms) = if fits_hole len (m.to - start) then Some start else lowest_hole len (m.to + m.len) ms

-- the records by rising place, with one more
abbrev pub with_placed : Move → List Move → List Move
with_placed m [] = m ∷ []
with_placed m (x ∷ xs) = if nat_lt m.to x.to then m ∷ x ∷ xs else x ∷ with_placed m xs

-- the last record, after a first one and the others
abbrev pub last_of : Move → List Move → Move
last_of m [] = m
last_of m (x ∷ xs) = last_of x xs

-- the records but the last, after a first one and the others
abbrev pub front_of : Move → List Move → List Move
front_of m [] = []
front_of m (x ∷ xs) = m ∷ front_of x xs

-- where the last record may go: the start of the lowest hole before it that may take it
abbrev pub target_of_last : Move → List Move → Option ℕ
target_of_last m ms = lowest_hole (last_of m ms).len 128 (m ∷ ms)

-- the last record goes to the start of the lowest hole that may take it, until it fits none
pub data Packs : List Move → List Move → Type 0 where
  done : (m : Move) (ms : List Move) → target_of_last m ms ≡ None → Packs (m ∷ ms) (m ∷ ms)
  more : (m : Move) (ms : List Move) (at : ℕ) (end : List Move) → target_of_last m ms ≡ Some at
      → Packs (with_placed (record (last_of m ms) { to = at }) (front_of m ms)) end → Packs (m ∷ ms) end

-- the place behind the last record, 128 where there is none
abbrev pub end_of : List Move → ℕ
end_of [] = 128
end_of (m ∷ ms) = let last = last_of m ms in last.to + last.len

-- records by rising place from a start on, none over another, with gaps of no byte or at least 25 between
abbrev pub AreSpaced : ℕ → List Move → Type 0
AreSpaced start [] = Unit {0}
AreSpaced start (m ∷ ms) = (start ≤ m.to) × ((m.to ≡ start) ⊎ (start + 25 ≤ m.to)) × AreSpaced (m.to + m.len) ms

-- each record has at least 25 bytes
abbrev pub AreWhole : List Move → Type 0
AreWhole [] = Unit {0}
AreWhole (m ∷ ms) = (25 ≤ m.len) × AreWhole ms

-- a record as the block that it was
abbrev pub source : Move → Block
source m = record { at = m.from; len = m.len; id = m.id }

-- the last record fits no hole before it
abbrev pub Stops : List Move → Type 0
Stops [] = Unit {0}
Stops (m ∷ ms) = target_of_last m ms ≡ None

-- a record that stays where it is
abbrev pub standing : Block → Move
standing b = record { id = b.id; from = b.at; to = b.at; len = b.len }

-- the records among blocks whose ids are live
abbrev pub live_of : List ℕ → List Block → List Move
live_of live blocks = map standing (filter (λ (b : Block). nat_lt 0 b.id && contains live b.id) blocks)

-- records end at 2 ^ 62 or before
abbrev pub AreBelow : List Move → Type 0
AreBelow [] = Unit {0}
AreBelow (m ∷ ms) = (m.to + m.len ≤ 2 ^ 62) × AreBelow ms

-- some records that can be packed
pub record ArePackable (records : List Move) : Type 0 where
  pub some : 0 < length records
  pub spaced : AreSpaced 128 records
  pub whole : AreWhole records
  pub below : AreBelow records

-- blocks rise from a place on, none over another, up to 2 ^ 62
abbrev pub AreBlocks : ℕ → List Block → Type 0
AreBlocks start [] = Unit {0}
AreBlocks start (b ∷ bs) = (start ≤ b.at) × (b.at + b.len ≤ 2 ^ 62) × AreBlocks (b.at + b.len) bs

-- records have at most 1,048,601 bytes
abbrev pub AreShort : List Move → Type 0
AreShort [] = Unit {0}
AreShort (m ∷ ms) = (m.len ≤ 1048601) × AreShort ms

-- no id of the records among blocks stands twice
abbrev pub AreNamed : List Block → Type 0
AreNamed [] = Unit {0}
AreNamed (b ∷ bs) = (0 < b.id → list_any (λ (x : Block). x.id == b.id) bs ≡ false) × AreNamed bs

-- what packing asks of blocks and of the ids that are live among them
pub record CanPack (blocks : List Block) (live : List ℕ) : Type 0 where
  pub in_order : AreBlocks 128 blocks
  pub named : AreNamed blocks
  pub some : 0 < length (live_of live blocks)
  pub whole : AreWhole (live_of live blocks)
  pub short : AreShort (live_of live blocks)
  pub spaced : AreSpaced 128 (live_of live blocks)

-- the moves are those of the packing of records, in the records' order, and the new end is the place behind the last
-- record
pub record IsPacking (records moves : List Move) (new_end : ℕ) : Type 0 where
  pub placed : List Move
  pub packs : Packs records placed
  pub all : IsPermutation placed moves
  pub sources : map source moves ≡ map source records
  pub end : new_end ≡ end_of placed

-- two ranges of bytes, by their places and lengths, don't meet
abbrev pub AreParted : ℕ → ℕ → ℕ → ℕ → Type 0
AreParted x n y m = (x + n ≤ y) ⊎ (y + m ≤ x)

-- the targets of two moves don't meet, and neither meets the other's source
pub record AreApart (a b : Move) : Type 0 where
  pub targets : AreParted a.to a.len b.to b.len
  pub first : AreParted a.to a.len b.from b.len
  pub second : AreParted b.to b.len a.from a.len

-- a record ends at the new end or before; it went down or stayed, and comes from the new end or beyond where it went down
pub record IsSettled (new_end : ℕ) (m : Move) : Type 0 where
  pub ends : m.to + m.len ≤ new_end
  pub down : m.to ≤ m.from
  pub from : (m.to ≡ m.from) ⊎ (new_end ≤ m.from)

-- what follows for the layers above: each move is settled, and any two are apart; by rising targets there are gaps of no
-- byte or at least 25, and the last record fits no hole before it
pub record IsPacked (moves : List Move) (new_end : ℕ) : Type 0 where
  pub settled : All (IsSettled new_end) moves
  pub apart : All (λ a. All (λ b. a.from < b.from → AreApart a b) moves) moves
  pub placed : List Move
  pub all : IsPermutation placed moves
  pub spaced : AreSpaced 128 placed
  pub stops : Stops placed
  pub end : new_end ≡ end_of placed
