use Rattle.std.proofs.Common.{inr, refl, sym, ◌∙◌, List, ℕ, Contains, subst}
use Rattle.cq_flying.proofs.tests.one_word.Goals as goal

pub dropped-before-requires-clause-opened : goal.dropped-before-requires-clause-opened
dropped-before-requires-clause-opened g c = (c.open_word.ensures.opened.each 7).1 (inr refl)

pub dropped-after-requires-clause-opened : goal.dropped-after-requires-clause-opened
dropped-after-requires-clause-opened g c = subst (λ (l : List ℕ). Contains l 7) (sym (c.dropped-before.ensures.opened 0)) ((c.open_word.ensures.opened.each 7).1 (inr refl))

pub close_word-requires-clause-opened : goal.close_word-requires-clause-opened
close_word-requires-clause-opened g c = subst (λ (l : List ℕ). Contains l 7) (sym (c.dropped-after.ensures.opened 0 ∙ c.dropped-before.ensures.opened 0)) ((c.open_word.ensures.opened.each 7).1 (inr refl))
