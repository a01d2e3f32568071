use Rattle.std.proofs.Common.{◌≡◌, sym, ap, subst, ◌∙◌, List, ℕ, drop}
use Rattle.cq_pending.specs.Messages.{messages, IsHeld}
use Rattle.cq_pending.proofs.Held.{held_rest, messages_rest}
use Rattle.cq_pending.proofs.Pending.take_first.Goals as goal
use Rattle.cq_pending.proofs.Pending.take_first.Goals.{in-Some-1, in-None-1}

pub invariant_of-self : goal.invariant_of-self
invariant_of-self c =
    let held = subst (λ (xs : List ℕ). IsHeld xs c.self.inside.bodies) c.in-Some.ensures.items c.self.invariant in
    subst (IsHeld c.pop_front.new.self.items) (sym c.remove.ensures.rest) (held_rest _ _ _ held)

pub returns-in-Some : goal.returns-in-Some
returns-in-Some c =
    let held = subst (λ (xs : List ℕ). IsHeld xs c.self.inside.bodies) c.in-Some.ensures.items c.self.invariant in
    let rest : messages c.pop_front.new.self.items c.remove.new.self ≡ drop 1 c.args.self.now =
    ap (messages c.pop_front.new.self.items) c.remove.ensures.rest
    ∙ messages_rest _ _ _ held
    ∙ ap (λ xs. drop 1 (messages xs c.self.inside.bodies)) (sym c.in-Some.ensures.items)
    ∙ ap (drop 1) c.self.view_is
    in
    elim c.match-remove.branch [ in-Some-1 w ↦ w.self-is ∙ rest | in-None-1 w ↦ w.self-is ∙ rest ]
