use Rattle.std.proofs.Common.{◌≡◌, None, sym, ap, ◌∙◌}
use Rattle.std.specs.FinMap.{get}
use Rattle.cq_pending.specs.Messages.{body_of}
use Rattle.cq_pending.proofs.Held.{body_of-messages, held_push, messages_push}
use Rattle.cq_pending.proofs.Pending.add.Goals as goal

pub invariant_of-self-in-Ok : goal.invariant_of-self-in-Ok
invariant_of-self-in-Ok c =
    let new : get c.self.inside.bodies c.args.id ≡ None = sym (body_of-messages _ _ c.self.invariant c.args.id) ∙ ap (λ ms. body_of ms c.args.id) c.self.view_is ∙ c.requires in
    rw (c.in_ok-push_back.ensures.items, c.in-Ok.ensures.ok) (held_push _ _ c.self.invariant c.args.id c.args.body new)

pub returns-in-Ok-clause-ok : goal.returns-in-Ok-clause-ok
returns-in-Ok-clause-ok c =
    let new : get c.self.inside.bodies c.args.id ≡ None = sym (body_of-messages _ _ c.self.invariant c.args.id) ∙ ap (λ ms. body_of ms c.args.id) c.self.view_is ∙ c.requires in
    rw (c.in_ok-push_back.ensures.items, c.in-Ok.ensures.ok, ← c.self.view_is) (messages_push _ _ c.self.invariant c.args.id c.args.body new)
