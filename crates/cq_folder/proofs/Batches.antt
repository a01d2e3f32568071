-- The message of a record's bytes.
use Rattle.std.proofs.Common.{◌≡◌, ◌≢◌, ℕ, ◌+◌, ◌-◌, ◌^◌, ◌<◌, ◌≤◌, List, [], ◌∷◌, ◌++◌, map, length, take, drop, refl, sym, ap, ◌∙◌, arith}
use Rattle.std.specs.Int.{w64, w128, to_be_bytes}
use Rattle.std.proofs.Math.Seq.{take-append_seam, drop-append_seam}
use Rattle.cq_block.specs.declared.layout.Block.{Block}
use Rattle.cq_block.specs.Blocks.{IsRun, Batch, with_record, block_bytes, told_id}
use Rattle.cq_block.proofs.Runs.{length-block, front_block}
use Rattle.cq_rdq.specs.Records.{records_in}
use Rattle.cq_rdq.proofs.Batches.{with_record_in}
use Rattle.cq_folder.specs.Folder.{message_in}

body_back : (id : ℕ) (body : List ℕ) → take (length body) (drop 24 (block_bytes id body)) ≡ body
unfolding block_bytes
body_back id body = ap (take (length body)) (drop-append_seam (to_be_bytes w64 (16 + length body) ++ to_be_bytes w128 id) (body ++ 255 ∷ [])) ∙ take-append_seam body (255 ∷ [])

-- the bytes of a record are those of its message
pub message_block : (id : ℕ) (body : List ℕ) → id < 2 ^ 128 → length body ≤ 1048576 → message_in (block_bytes id body) ≡ record { id = id; body = body }
message_block id body fits short =
    let block = front_block 0 id body fits short in
    let named : told_id (block_bytes id body) ≡ id = sym (ap (λ (b : Block). b.id) block.block) in
    let len : length (block_bytes id body) - 25 ≡ length body = omega (arith, length-block id body) in
    let is : take (length (block_bytes id body) - 25) (drop 24 (block_bytes id body)) ≡ body = ap (λ (n : ℕ). take n (drop 24 (block_bytes id body))) len ∙ body_back id body in
    λ i. record { id = named i; body = is i }

-- a record joins a batch: its message joins the messages
pub with_record_message : (batch : Batch) (id : ℕ) (body : List ℕ) → IsRun 0 batch.bytes batch.blocks [] → id ≢ 0 → id < 2 ^ 128 → length body ≤ 1048576 → map message_in (records_in (with_record batch id body)) ≡ map message_in (records_in batch) ++ record { id = id; body = body } ∷ []
with_record_message batch id body run named fits short =
    ap (map message_in) (with_record_in batch id body run named) ∙ map_last (records_in batch) (block_bytes id body) ∙ ap (λ m. map message_in (records_in batch) ++ m ∷ []) (message_block id body fits short)
  where
    map_last : (rs : List (List ℕ)) (r : List ℕ) → map message_in (rs ++ r ∷ []) ≡ map message_in rs ++ message_in r ∷ []
    map_last [] r = refl
    map_last (x ∷ rs) r = ap (λ l. message_in x ∷ l) (map_last rs r)
