use Rattle.std.proofs.Common.{◌≡◌, ℕ, List, ◌∙◌, refl, arith}
use Rattle.std.specs.Int.{w64}
use Rattle.std.proofs.lemmas.Bool.Decides.{nat_tests}
use Rattle.cq_bytes.specs.Field.{number_at}
use Rattle.cq_block.specs.Plans.{told_count}
use Rattle.cq_block.proofs.plan.count.Goals as goal
use Rattle.cq_block.proofs.plan.count.Goals.{then-count-eq0-via-then-count-eq0, then-count-eq0-via-else-count-eq0+then-rest-ne0, then-count-eq0-via-else-count-eq0+else-rest-ne0+then-rest-count}

told : (bytes : List ℕ) → number_at w64 bytes 0 ≡ told_count bytes
unfolding told_count
told bytes = refl

pub returns-then-count-eq0 : goal.returns-then-count-eq0
returns-then-count-eq0 c =
    let is : c.in_ok-count.count ≡ told_count c.args.bytes.now = c.in_ok-count.ensures.1 ∙ told c.args.bytes.now in
    elim c.then-count-eq0.branch [ then-count-eq0-via-then-count-eq0 w ↦ grind (arith, nat_tests) | then-count-eq0-via-else-count-eq0+then-rest-ne0 w ↦ grind (arith, nat_tests) | then-count-eq0-via-else-count-eq0+else-rest-ne0+then-rest-count w ↦ grind (arith, nat_tests) ]

pub returns : goal.returns
returns c =
    let is : c.in_ok-count.count ≡ told_count c.args.bytes.now = c.in_ok-count.ensures.1 ∙ told c.args.bytes.now in
    (grind (arith, nat_tests), omega arith)
