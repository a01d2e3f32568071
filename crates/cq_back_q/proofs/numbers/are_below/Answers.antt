use Rattle.std.proofs.Common.{rules, arith}
use Rattle.std.proofs.lemmas.Bool.Decides.{nat_tests}
use Rattle.cq_back_q.proofs.Rising.{last_below}
use Rattle.cq_back_q.proofs.numbers.are_below.Goals as goal

pub returns-in-Some : goal.returns-in-Some
returns-in-Some c =
    let last = c.in-Some.last.now in
    let below = last_below c.args.numbers.now last c.args.number c.requires (search rules) in (
      λ low. below.0 (grind (arith, nat_tests)),
      λ all. let low = below.1 all in grind (arith, nat_tests),
    )
