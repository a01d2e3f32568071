use Rattle.std.proofs.Common.{◌≡◌, ◌++◌, [], ◌∷◌, cond, true, false, map, ap, ◌∙◌, sym, append-nil}
use Rattle.cq_journal.specs.declared.event.Message.{Message}
use Rattle.cq_bytes.specs.Numbers.{contains}
use Rattle.cq_journal.specs.History.{adds}
use Rattle.cq_plain.proofs.queue.push_added.Goals as goal

pub returns-in_ok-push-in-Published : goal.returns-in_ok-push-in-Published
returns-in_ok-push-in-Published c =
    let old = c.args.ids.now.items in
    let there : contains c.in-Published.queues c.args.queue ≡ true = ap (λ qs. contains qs c.args.queue) (sym c.numbers.ensures.same) ∙ sym c.contains.ensures.value ∙ c.if-contains.true in
    c.in_ok-push-in-Published.ensures.items
    ∙ ap (λ b. old ++ map (λ (m : Message). m.id) (cond b (record { id = c.in-Published.id; body = c.in-Published.body } ∷ []) [])) (sym there)
    ∙ ap (λ e. old ++ map (λ (m : Message). m.id) (adds c.args.queue e)) (sym c.in-Published.is)

pub returns-else-contains : goal.returns-else-contains
returns-else-contains c =
    let old = c.args.ids.now.items in
    let there : contains c.in-Published.queues c.args.queue ≡ false = ap (λ qs. contains qs c.args.queue) (sym c.numbers.ensures.same) ∙ sym c.contains.ensures.value ∙ c.if-contains.false in
    sym (append-nil old)
    ∙ ap (λ b. old ++ map (λ (m : Message). m.id) (cond b (record { id = c.in-Published.id; body = c.in-Published.body } ∷ []) [])) (sym there)
    ∙ ap (λ e. old ++ map (λ (m : Message). m.id) (adds c.args.queue e)) (sym c.in-Published.is)
