use Rattle.std.proofs.Common.{◌++◌, ap, ◌∙◌}
use Rattle.cq_items.proofs.Ascending.{ascending-permuted, ascending-top}
use Rattle.cq_items.proofs.line.Line.pop.Goals as goal

pub returns-in-Some-clause-items : goal.returns-in-Some-clause-items
returns-in-Some-clause-items c = rw (← c.self.view_is)
    (ap (λ js. js ++ c.self.inside.fresh.items) (ascending-permuted _ _ c.in-Some.ensures.permutation ∙ ascending-top c.in-Some.field-0 _ (c.in-Some.ensures.below_top c.self.invariant)))
