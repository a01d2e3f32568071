use Rattle.std.proofs.Common.{rules}
use Rattle.std.specs.Prelude.{not, ◌==◌}
use Rattle.std.proofs.lemmas.Fn.{filter_same}
use Rattle.cq_journal.specs.History.{is_delivery}
use Rattle.cq_plain.proofs.deliveries.follow.Goals as goal

pub returns-in-Acked : goal.returns-in-Acked
returns-in-Acked c = rw c.in-Acked.is (filter_same _ (λ d. not (is_delivery c.in-Acked.client c.in-Acked.delivery d)) _ (λ x b f' k. search rules) _ _ c.retain.ensures.filtered)

pub returns-in-Ended : goal.returns-in-Ended
returns-in-Ended c = rw c.in-Ended.is (filter_same _ (λ d. not (d.client == c.in-Ended.client)) _ (λ x b f' k. search rules) _ _ c.retain-in-Ended.ensures.filtered)
