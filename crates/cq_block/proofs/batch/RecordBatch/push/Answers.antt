use Rattle.std.proofs.Common.{◌≡◌, ℕ, List, [], ◌∷◌, ◌+◌, ◌++◌, ◌∙◌, length, sym, subst, zero-add, ◌<◌, ◌≤◌, ◌^◌, rules}
use Rattle.std.specs.Vec.{vec_len}
use Rattle.cq_block.specs.Blocks.{IsRun, block_bytes}
use Rattle.cq_block.specs.declared.layout.Block.{Block}
use Rattle.cq_block.proofs.Runs.{run_append, run_block}
use Rattle.cq_block.proofs.batch.RecordBatch.push.Goals as goal

grown : (bytes body a b : List ℕ) (blocks : List Block) (place id : ℕ) → IsRun 0 bytes blocks [] → id < 2 ^ 128 → length body ≤ 1048576 → a ≡ body → b ≡ body → place ≡ length bytes
    → IsRun 0 (bytes ++ block_bytes id b) (blocks ++ record { at = place; len = length a + 25; id = id } ∷ []) []
grown bytes body a b blocks place id run fits small is-a is-b is-place =
    rw (is-a, is-b, is-place) (run_append 0 bytes (block_bytes id body) blocks _ run (subst (λ n. IsRun n (block_bytes id body) (record { at = length bytes; len = length body + 25; id = id } ∷ []) []) (sym (zero-add (length bytes))) (run_block (length bytes) id body fits small)))

pub invariant_of-self-in-Ok : goal.invariant_of-self-in-Ok
invariant_of-self-in-Ok c =
    let size : vec_len c.self.inside.spelled ≡ length c.self.inside.spelled.items = search rules in
    let all = grown c.self.inside.spelled.items c.args.body.now c.bytes.result.now c.bytes-2.result.now c.self.inside.records.items c.len-at.result c.args.id c.self.invariant c.ranges.id.fits c.bytes.ensures.short c.bytes.ensures.same c.bytes-2.ensures.same (c.len-at.ensures ∙ size) in
    rw (c.in-Ok.ensures.ok, c.in_ok-push.ensures.items) all
