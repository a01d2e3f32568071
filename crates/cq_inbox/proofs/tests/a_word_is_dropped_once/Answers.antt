use Rattle.std.proofs.Common.{inr, refl, sym, ◌∙◌, List, ℕ, Contains, subst}
use Rattle.cq_inbox.proofs.tests.a_word_is_dropped_once.Goals as goal

pub dropped-before-requires-clause-opened : goal.dropped-before-requires-clause-opened
dropped-before-requires-clause-opened g c = (c.open_word.ensures.opened.each 7).1 (inr refl)

pub dropped-after-requires-clause-opened : goal.dropped-after-requires-clause-opened
dropped-after-requires-clause-opened g c =
    subst (λ (l : List ℕ). Contains l 7) (sym (c.drop_delivery-second.ensures.opened 1 ∙ (c.drop_delivery-first.ensures.opened 1 ∙ (c.drop_delivery-other_client.ensures.opened 1 ∙ c.dropped-before.ensures.opened 1))))
    ((c.open_word.ensures.opened.each 7).1 (inr refl))

pub close_word-requires-clause-opened : goal.close_word-requires-clause-opened
close_word-requires-clause-opened g c =
    subst (λ (l : List ℕ). Contains l 7) (sym (c.dropped-after.ensures.opened 1 ∙ (c.drop_delivery-second.ensures.opened 1 ∙ (c.drop_delivery-first.ensures.opened 1 ∙ (c.drop_delivery-other_client.ensures.opened 1 ∙ c.dropped-before.ensures.opened 1)))))
    ((c.open_word.ensures.opened.each 7).1 (inr refl))
