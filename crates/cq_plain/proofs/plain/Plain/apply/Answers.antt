use Rattle.std.proofs.Common.{◌∷◌, refl, sym, ap, ◌∙◌}
use Rattle.cq_plain.specs.Table.{may_follow}
use Rattle.cq_plain.proofs.Rows.{exact, legal-more}
use Rattle.cq_plain.proofs.plain.Plain.apply.Goals as goal

pub returns-clause-exact : goal.returns-clause-exact
returns-clause-exact c =
    let event = c.args.event.now in
    let same = c.in_ok-may_follow.ensures ∙ ap (λ past. may_follow past event) c.entries.ensures ∙ ap (λ past. may_follow past event) c.self.view_is in
    (λ _. (exact c.args.self.now event).0 (sym same ∙ c.if-not-branch.false), λ _. refl)

pub returns-then-not-branch-clause-exact : goal.returns-then-not-branch-clause-exact
returns-then-not-branch-clause-exact c =
    let event = c.args.event.now in
    let same = c.in_ok-may_follow.ensures ∙ ap (λ past. may_follow past event) c.entries.ensures ∙ ap (λ past. may_follow past event) c.self.view_is in
    (λ never. cc, λ a. sym c.if-not-branch.true ∙ same ∙ (exact c.args.self.now event).1 a)

pub invariant_of-self-2 : goal.invariant_of-self-2
invariant_of-self-2 c =
    let event = c.args.event.now in
    let past = c.self.inside.journal.entries in
    let may = sym (ap (λ past. may_follow past event) c.entries.ensures) ∙ sym c.in_ok-may_follow.ensures ∙ c.if-not-branch.false in
    let added = c.push.ensures.entries ∙ ap (λ es. record { event = c.in_ok-event.event; stamp = 0 } ∷ es) c.in_ok-reserve.ensures.entries ∙ ap (λ e. record { event = e; stamp = 0 } ∷ past) c.in_ok-event.ensures in
    legal-more past _ event added may c.self.invariant

pub returns-clause-legal : goal.returns-clause-legal
returns-clause-legal c = (invariant_of-self-2 c).0
