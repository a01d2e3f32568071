-- A plan: the number of its moves in 8 bytes, and for each move the id in 16 bytes and `from`, `to` and the record's
-- whole length in 8 bytes each, all big-endian.
use Rattle.std.specs.Prelude.{ℕ, zero, suc, ◌+◌, ◌*◌, ◌^◌, ◌<◌, Bool, ◌&&◌, ◌==◌, nat_le, List, [], ◌∷◌, ◌++◌, length, Option, Some, None, if◌then◌else◌}
use Rattle.std.specs.Int.{w64, w128, to_be_bytes}
use Rattle.std.specs.List.{flat_map}
use Rattle.cq_bytes.specs.Field.{number_at}
use Rattle.cq_block.specs.declared.layout.Move.{Move}

-- the numbers of a move fit their fields
pub record Fits (m : Move) : Type 0 where
  pub id : m.id < 2 ^ 128
  pub from : m.from < 2 ^ 64
  pub to : m.to < 2 ^ 64
  pub len : m.len < 2 ^ 64

-- the numbers of moves fit their fields
abbrev pub AllFit : List Move → Type 0
AllFit [] = Unit {0}
AllFit (m ∷ ms) = Fits m × AllFit ms

-- the bytes of a move
unfoldable pub move_bytes : Move → List ℕ
move_bytes m = to_be_bytes w128 m.id ++ to_be_bytes w64 m.from ++ to_be_bytes w64 m.to ++ to_be_bytes w64 m.len

-- the bytes of a plan
abbrev pub plan_bytes : List Move → List ℕ
plan_bytes moves = to_be_bytes w64 (length moves) ++ flat_map move_bytes moves

-- the move that stands at a place
unfoldable pub move_at : List ℕ → ℕ → Move
move_at bytes at = record {
  id = number_at w128 bytes at;
  from = number_at w64 bytes (at + 16);
  to = number_at w64 bytes (at + 24);
  len = number_at w64 bytes (at + 32);
}

-- so many moves, one after another from a place on
abbrev pub moves_from : ℕ → List ℕ → ℕ → List Move
moves_from zero bytes at = []
moves_from (suc n) bytes at = move_at bytes at ∷ moves_from n bytes (at + 40)

-- how many moves a plan says that it has
unfoldable pub told_count : List ℕ → ℕ
told_count bytes = number_at w64 bytes 0

-- whether bytes have the length of a plan of so many moves as they tell, at least one
abbrev pub is_plan : List ℕ → Bool
is_plan bytes = nat_le 8 (length bytes) && (nat_le 1 (told_count bytes) && length bytes == 8 + 40 * told_count bytes)

-- the moves of a plan
abbrev pub plan_of : List ℕ → Option (List Move)
plan_of bytes = if is_plan bytes then Some (moves_from (told_count bytes) bytes 8) else None
