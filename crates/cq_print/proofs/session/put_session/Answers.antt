use Rattle.std.proofs.Common.{List, ℕ, ◌∷◌, ◌++◌, ap, ◌∙◌}
use Rattle.cq_journal.specs.declared.event.Entry.{Entry}
use Rattle.cq_print.specs.Text.{session_line, opened_lines, clients_end}
use Rattle.cq_print.specs.Bodies.{shown, find_body}
use Rattle.cq_print.specs.Lines.{clients_lines}
use Rattle.cq_print.proofs.Shown.{clients-told, retold}
use Rattle.cq_print.proofs.session.put_session.Goals as goal

pub returns-clause-ok : goal.returns-clause-ok
returns-clause-ok g c = λ legal.
    let session = c.args.session.now in
    let past = session.journal.entries in
    let head = session_line c.args.number in
    let same = c.entries-entries.ensures in
    let bodies = shown c.in_ok-bodies.bodies in
    retold _ _ _ _ _
    (ap (λ (past : List Entry). head ∷ (opened_lines past ++ clients_lines bodies past c.deref.result.now (clients_end past))) same
    ∙ ap (λ (cut : List ℕ). head ∷ (opened_lines past ++ clients_lines bodies past cut (clients_end past))) c.deref.ensures.value
    ∙ ap (λ (lines : List (List ℕ)). head ∷ (opened_lines past ++ lines)) (clients-told past session.cut.items (clients_end past) bodies legal (λ x. c.in_ok-bodies.ensures x ∙ ap (find_body x) same)))
    c.put_text.ensures.ok
