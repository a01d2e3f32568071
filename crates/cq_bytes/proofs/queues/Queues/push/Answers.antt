use Rattle.std.proofs.Common.{sym, ap, subst, ◌∙◌, List, ℕ}
use Rattle.cq_bytes.specs.Numbers.{contains, AreQueues}
use Rattle.cq_bytes.proofs.Listed.{queues_push}
use Rattle.cq_bytes.proofs.queues.Queues.push.Goals as goal
use Rattle.cq_bytes.proofs.queues.Queues.push.Goals.{in-Ok, in-Err}

pub invariant_of-self : goal.invariant_of-self
invariant_of-self c = elim c.match-push.branch [
  | in-Ok w ↦ subst (λ (l : List ℕ). AreQueues l) (sym w.in-Ok.ensures.items) (queues_push c.self.inside.numbers.items c.args.queue c.self.invariant c.if-queue-ge256.false (ap (λ (l : List ℕ). contains l c.args.queue) (sym c.deref.ensures.value) ∙ sym c.contains.ensures.value ∙ c.if-contains.false))
  | in-Err w ↦ subst (λ (l : List ℕ). AreQueues l) (sym w.in-Err.ensures.items) c.self.invariant
]
