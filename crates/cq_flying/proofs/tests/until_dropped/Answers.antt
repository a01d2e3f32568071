use Rattle.std.proofs.Common.{inr, refl, sym, ap, ◌∙◌, ◌+◌, ◌<◌, ℕ, subst}
use Rattle.cq_flying.proofs.tests.until_dropped.Goals as goal

pub loop-init : goal.loop-init
loop-init g c = record {
  client = subst (λ (n : ℕ). 0 < n) (sym c.open_word.ensures.clients) c.requires.client;
  one = c.open_word.ensures.opened.more ∙ ap (λ (n : ℕ). n + 1) c.requires.none;
  opened = (c.open_word.ensures.opened.each c.args.delivery).1 (inr refl);
}
