-- The blocks of a shared file: records, and fillers, whose id is 0. A block is a big-endian length of 8 bytes, which
-- is 16 more than the body's, the id in 16 bytes, the body, and the byte 255.
use Rattle.std.specs.Prelude.{◌≡◌, ◌≢◌, ℕ, ◌+◌, ◌-◌, ◌<◌, Bool, true, false, ◌&&◌, ◌||◌, ◌==◌, nat_le, List, [], ◌∷◌, ◌++◌, map, length, drop, slice_index, ◌⊎◌}
use Rattle.std.specs.Int.{w64, w128, to_be_bytes}
use Rattle.cq_bytes.specs.Field.{number_at}
use Rattle.cq_block.specs.declared.layout.Block.{Block}
use Rattle.cq_block.specs.declared.layout.BlockError.{BlockError}
use Rattle.cq_block.specs.declared.layout.BlockError.TheVariants.{Memory, Broken}

-- the whole length of the block at the front of bytes, as its length field tells it
unfoldable pub told_len : List ℕ → ℕ
told_len bytes = number_at w64 bytes 0 + 9

-- the id of the block at the front of bytes
unfoldable pub told_id : List ℕ → ℕ
told_id bytes = number_at w128 bytes 8

-- the last byte of the block at the front of bytes
abbrev pub told_end : List ℕ → ℕ
told_end bytes = slice_index bytes (told_len bytes - 1)

-- whether bytes begin with a head whose block has at least 25 bytes, lies within them, and has no more than
-- 1,048,601 where it is a record
abbrev pub has_head : List ℕ → Bool
has_head bytes = nat_le 25 (length bytes) && (nat_le 25 (told_len bytes) && (nat_le (told_len bytes) (length bytes) && (told_id bytes == 0 || nat_le (told_len bytes) 1048601)))

-- this block stands at the front of bytes, which begin at this place
pub record IsFront (at : ℕ) (bytes : List ℕ) (b : Block) : Type 0 where
  pub head : has_head bytes ≡ true
  pub end : told_end bytes ≡ 255
  pub block : b ≡ record { at = at; len = told_len bytes; id = told_id bytes }

-- bytes that begin at a place are these blocks, one after another, and then the rest
abbrev pub IsRun : ℕ → List ℕ → List Block → List ℕ → Type 0
IsRun at bytes [] rest = bytes ≡ rest
IsRun at bytes (b ∷ bs) rest = IsFront at bytes b × IsRun (at + b.len) (drop b.len bytes) bs rest

-- the content of a file, which begins at its byte 128, is these blocks, one after another, to its end
abbrev pub IsChain : List ℕ → List Block → Type 0
IsChain content blocks = IsRun 128 content blocks []

-- no block stands at the front of bytes, which begin at a place: the first byte is told where the head is wrong, else
-- the block's last byte, which isn't 255
abbrev pub NoFront : ℕ → List ℕ → ℕ → ℕ → Type 0
NoFront at bytes place found =
    ((has_head bytes ≡ false) × (place ≡ at) × (found ≡ slice_index bytes 0))
    ⊎ ((has_head bytes ≡ true) × (told_end bytes ≢ 255) × (place ≡ at + (told_len bytes - 1)) × (found ≡ told_end bytes))

-- after some blocks of a content, and before its end, no block stands; the place and byte that tell it
pub record BreaksAt (content : List ℕ) (place found : ℕ) : Type 0 where
  pub blocks : List Block
  pub rest : List ℕ
  pub run : IsRun 128 content blocks rest
  pub more : 0 < length rest
  pub none : NoFront (128 + (length content - length rest)) rest place found

-- what an error of a chain says of the content
abbrev pub IsCause : List ℕ → BlockError → Type 0
IsCause content Memory = Unit {0}
IsCause content (Broken place found) = BreaksAt content place found × ((blocks : List Block) → IsChain content blocks → ⊥)

-- the bytes of a block
unfoldable pub block_bytes : ℕ → List ℕ → List ℕ
block_bytes id body = to_be_bytes w64 (16 + length body) ++ to_be_bytes w128 id ++ body ++ 255 ∷ []

-- the blocks, each so many bytes further on
abbrev pub moved_by : ℕ → List Block → List Block
moved_by distance blocks = map {A = Block} {B = Block} (λ b. record b { at = distance + b.at }) blocks

-- the bytes of records, and the records as blocks that are counted from the first byte
pub record Batch : Type 0 where
  pub bytes : List ℕ
  pub blocks : List Block

-- the batch, with a record more
abbrev pub with_record : Batch → ℕ → List ℕ → Batch
with_record batch id body = record {
  bytes = batch.bytes ++ block_bytes id body;
  blocks = batch.blocks ++ record { at = length batch.bytes; len = length body + 25; id = id } ∷ [];
}
