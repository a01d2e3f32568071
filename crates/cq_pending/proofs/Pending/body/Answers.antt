use Rattle.std.proofs.Common.{sym, ap, subst, ◌∙◌, List, ℕ}
use Rattle.cq_pending.specs.Messages.{body_of, ids_of, AreDifferent}
use Rattle.cq_pending.proofs.Held.{body_of-messages, different}
use Rattle.cq_pending.proofs.Pending.body.Goals as goal

pub returns-clause-body : goal.returns-clause-body
returns-clause-body c =
    c.get.ensures
    ∙ sym (body_of-messages c.self.inside.ids.items c.self.inside.bodies c.self.invariant c.args.id)
    ∙ ap (λ ms. body_of ms c.args.id) c.self.view_is

pub returns-clause-once : goal.returns-clause-once
returns-clause-once c = subst (λ (ms : List (ℕ × List ℕ)). AreDifferent (ids_of ms)) c.self.view_is (different _ _ c.self.invariant)
