use Rattle.std.proofs.Common.{eq-eqb, ap, ◌∙◌}
use Rattle.std.proofs.lemmas.Bool.{ne_eqb}
use Rattle.cq_plain.proofs.Lists.{ids-added, ids-passed}
use Rattle.cq_plain.proofs.queue.push_lines.Goals.{then-line-queue+in_ok-push, else-line-queue}
use Rattle.cq_plain.proofs.queue.push_lines.Goals as goal

pub loop-line-preserved : goal.loop-line-preserved
loop-line-preserved c =
    let l = c.line-item.result in
    elim c.if-line-queue.branch [
      | then-line-queue+in_ok-push w ↦
          ap (λ v. v.items) w.ids-is ∙ w.in_ok-push.ensures.items
          ∙ ids-added c.args.queue c.args.lines.now c.loop-line.line-index l c.args.ids.now.items _ c.loop-line-test.true c.line-item.is c.loop-line.invariant (eq-eqb l.queue c.args.queue w.if-line-queue.true)
      | else-line-queue w ↦
          ap (λ v. v.items) w.ids-is
          ∙ ids-passed c.args.queue c.args.lines.now c.loop-line.line-index l c.args.ids.now.items _ c.loop-line-test.true c.line-item.is c.loop-line.invariant (ne_eqb l.queue c.args.queue w.if-line-queue.false)
    ]
