use Rattle.std.proofs.Common.{rules, map, filter, ap, ◌∙◌, sym, reverse}
use Rattle.std.specs.Prelude.{not, ◌&&◌}
use Rattle.std.proofs.lemmas.Fn.{filter_same}
use Rattle.cq_journal.specs.declared.event.Message.{Message}
use Rattle.cq_bytes.specs.Numbers.{contains}
use Rattle.cq_journal.specs.History.{is_out, acked, open_deliveries, line}
use Rattle.cq_plain.proofs.Lists.{ids-kept}
use Rattle.cq_plain.proofs.queue.waiting.Goals as goal

pub returns : goal.returns
returns c =
    let past = reverse c.args.entries.now in
    let q = c.args.queue in
    let removed = c.in_ok-removed.removed.items in
    let out = c.in_ok-out.out.items in
    filter_same _ (λ id. not (contains removed id) && not (is_out out q id)) _ (λ x b f' k. search rules) _ _ c.retain.ensures.filtered
    ∙ ap (λ ids. filter (λ id. not (contains removed id) && not (is_out out q id)) ids) c.in_ok-ids.ensures
    ∙ ap (λ rs. filter (λ id. not (contains rs id) && not (is_out out q id)) (map (λ (m : Message). m.id) (line past q))) c.in_ok-removed.ensures
    ∙ ap (λ os. filter (λ id. not (contains (acked past q) id) && not (is_out os q id)) (map (λ (m : Message). m.id) (line past q))) c.in_ok-out.ensures
    ∙ sym (ids-kept (λ id. not (contains (acked past q) id) && not (is_out (open_deliveries past) q id)) (line past q))
