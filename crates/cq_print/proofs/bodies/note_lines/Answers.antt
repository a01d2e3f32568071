use Rattle.std.proofs.Common.{ap, ◌∙◌, cond}
use Rattle.std.specs.Prelude.{◌==◌, None, Some}
use Rattle.cq_print.specs.Bodies.{or_else}
use Rattle.cq_print.proofs.Noted.{noted-next}
use Rattle.cq_print.proofs.bodies.note_lines.Goals as goal

pub loop-id-preserved : goal.loop-id-preserved
loop-id-preserved c = λ x.
    c.in_ok-note.ensures x
    ∙ ap (λ o. or_else (cond (c.in-Some.id == x) (Some c.in-Some.body.now) None) o) (c.loop-id.invariant x)
    ∙ noted-next x c.loop-id.at c.in-Some-checked_add.next c.args.lines.now _ _ c.in-Some.ensures c.in-Some-checked_add.ensures.1
