use Rattle.std.proofs.Common.{◌≡◌, ◌≤◌, refl, sym, ap, ◌∙◌, subst}
use Rattle.std.specs.FinMap.{get}
use Rattle.cq_journal.specs.Legal.{newest, Legal}
use Rattle.cq_confirm.specs.Lacking.{sure_of}
use Rattle.cq_history.specs.History.{HistoryValue}
use Rattle.cq_history.specs.Steps.{confirmed_by}
use Rattle.cq_history.proofs.Steps.{kept_at}
use Rattle.cq_history.proofs.Passing.{kept-passed}
use Rattle.cq_history.proofs.Whole.{whole-confirmed}
use Rattle.cq_history.proofs.history.History.pass.Goals as goal

pub invariant_of-self : goal.invariant_of-self
invariant_of-self c =
    let later : newest c.self.inside.journal.entries ≤ c.args.stamp = subst (λ (v : HistoryValue). newest v.entries ≤ c.args.stamp) (sym c.self.view_is) c.requires.later in
    let is : c.note_confirmed.new.journal.entries ≡ confirmed_by c.args.stamp c.args.id (sure_of (get c.self.inside.lacks c.args.id)) c.self.inside.journal.entries =
    c.note_confirmed.ensures.entries ∙ ap (λ s. confirmed_by c.args.stamp c.args.id s c.self.inside.journal.entries) c.pass-sure.ensures.sure in
    rw c.pass-sure.ensures.rest (kept_at is (kept-passed c.args.stamp c.args.id (get c.self.inside.lacks c.args.id) c.self.invariant later refl))

pub returns-clause-legal : goal.returns-clause-legal
returns-clause-legal c =
    let later : newest c.self.inside.journal.entries ≤ c.args.stamp = subst (λ (v : HistoryValue). newest v.entries ≤ c.args.stamp) (sym c.self.view_is) c.requires.later in
    let is : c.note_confirmed.new.journal.entries ≡ confirmed_by c.args.stamp c.args.id (sure_of (get c.self.inside.lacks c.args.id)) c.self.inside.journal.entries =
    c.note_confirmed.ensures.entries ∙ ap (λ s. confirmed_by c.args.stamp c.args.id s c.self.inside.journal.entries) c.pass-sure.ensures.sure in
    subst Legal (sym is) (kept-passed c.args.stamp c.args.id (get c.self.inside.lacks c.args.id) c.self.invariant later refl).legal

pub returns-clause-whole : goal.returns-clause-whole
returns-clause-whole c = rw (← c.self.view_is) (whole-confirmed c.self.inside.journal.entries c.note_confirmed.new.journal.entries c.self.inside.clients.items c.args.stamp c.args.id c.pass-sure.result c.note_confirmed.ensures.entries)
