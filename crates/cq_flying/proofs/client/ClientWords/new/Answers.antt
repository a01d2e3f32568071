use Rattle.std.proofs.Common.{arith, refl, sym, ap, ℕ, ◌<◌, subst, List}
use Rattle.cq_flying.specs.Rule.{IsOnce}
use Rattle.cq_flying.proofs.Comings.{starts, parts, zeros_once}
use Rattle.cq_flying.proofs.client.ClientWords.new.Goals as goal

pub of_words-requires : goal.of_words-requires
of_words-requires c = starts _ refl

pub split_seat-other-requires : goal.split_seat-other-requires
split_seat-other-requires c =
    let e = c.in_ok-table.ensures in
    (e.2, subst (λ (z : ℕ). 0 < z) (sym e.0) (omega arith), parts _ _ (ap (λ m. m.0.owns) e.4) (ap (λ m. m.0.looks) e.4))

pub invariant_of-result-3-clause-once : goal.invariant_of-result-3-clause-once
invariant_of-result-3-clause-once c = subst (λ (l : List ℕ). IsOnce l) (sym c.none_written.ensures) zeros_once
