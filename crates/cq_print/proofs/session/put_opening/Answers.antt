use Rattle.std.proofs.Common.{sym, ap, ◌∙◌}
use Rattle.cq_print.specs.Text.{opened_by}
use Rattle.cq_print.proofs.Shown.{retold}
use Rattle.cq_print.proofs.Opened.{opened-told}
use Rattle.cq_print.proofs.session.put_opening.Goals as goal

pub returns-clause-ok : goal.returns-clause-ok
returns-clause-ok g c =
    retold _ _ _ _ _ (opened-told c.in-Opened.lines c.in_ok-counts.counts c.in_ok-counts.ensures.ordered c.in_ok-counts.ensures.ok ∙ ap opened_by (sym c.in-Opened.is)) c.put_counts.ensures.ok
