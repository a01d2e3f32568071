use Rattle.std.proofs.Common.{◌≡◌, ◌+◌, ◌-◌, ◌++◌, ◌∙◌, ap, arith}
use Rattle.std.specs.Int.{w64, w128, to_be_bytes}
use Rattle.cq_block.proofs.Runs.{front_filler}
use Rattle.cq_block.proofs.layout.filler_head.Goals as goal

pub returns-clause-fills : goal.returns-clause-fills
returns-clause-fills c = λ at bytes all front last.
    let field : 16 + (c.args.len - 25) ≡ c.args.len - 9 = omega (arith, c.requires) in
    front_filler at c.args.len bytes c.requires c.ranges.len.fits all (front ∙ c.head.ensures ∙ ap (λ n. to_be_bytes w64 n ++ to_be_bytes w128 0) field) last
