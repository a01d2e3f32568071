use Rattle.std.proofs.Common.{◌≡◌, ℕ, ◌+◌, List, ◌∙◌, refl, arith, false, ap}
use Rattle.std.specs.Int.{w64, w128}
use Rattle.std.proofs.lemmas.Bool.Decides.{nat_tests}
use Rattle.cq_bytes.specs.Field.{number_at}
use Rattle.cq_block.specs.Blocks.{told_len, told_id, has_head}
use Rattle.cq_block.proofs.reader.head.Goals as goal
use Rattle.cq_block.proofs.reader.head.Goals.{then-len-lt25-via-then-len-lt25, then-len-lt25-via-else-len-lt25+then-len-bytes, then-len-lt25-via-else-len-lt25+else-len-bytes+then-len-gt-LONGEST_RECORD, then-id-ne0, else-id-ne0}

len : (bytes : List ℕ) → number_at w64 bytes 0 + 9 ≡ told_len bytes
unfolding told_len
len bytes = refl

id : (bytes : List ℕ) → number_at w128 bytes 8 ≡ told_id bytes
unfolding told_id
id bytes = refl

pub returns-in_err-len : goal.returns-in_err-len
returns-in_err-len c =
    let l = len c.args.bytes.now in
    let above : has_head c.args.bytes.now ≡ false = grind (arith, nat_tests) in
    rw c.from_residual-in_err-len.ensures above

pub returns-then-len-lt25 : goal.returns-then-len-lt25
returns-then-len-lt25 c =
    let l : c.in_ok-len.len ≡ told_len c.args.bytes.now = c.in_ok-len.ensures.1 ∙ ap (λ n. n + 9) c.in_ok-take_u64.ensures.1 ∙ len c.args.bytes.now in
    let d : c.in_ok-id.id ≡ told_id c.args.bytes.now = c.in_ok-id.ensures.1 ∙ id c.args.bytes.now in
    elim c.then-len-lt25.branch [ then-len-lt25-via-then-len-lt25 w ↦ grind (arith, nat_tests) | then-len-lt25-via-else-len-lt25+then-len-bytes w ↦ grind (arith, nat_tests) | then-len-lt25-via-else-len-lt25+else-len-bytes+then-len-gt-LONGEST_RECORD w ↦ elim w.if-id-ne0.branch [ then-id-ne0 w' ↦ grind (arith, nat_tests) | else-id-ne0 w' ↦ grind (arith, nat_tests) ] ]

pub returns : goal.returns
returns c =
    let l : c.in_ok-len.len ≡ told_len c.args.bytes.now = c.in_ok-len.ensures.1 ∙ ap (λ n. n + 9) c.in_ok-take_u64.ensures.1 ∙ len c.args.bytes.now in
    let d : c.in_ok-id.id ≡ told_id c.args.bytes.now = c.in_ok-id.ensures.1 ∙ id c.args.bytes.now in
    (elim c.if-id-ne0.branch [ then-id-ne0 w ↦ grind (arith, nat_tests) | else-id-ne0 w ↦ grind (arith, nat_tests) ], l, d)
