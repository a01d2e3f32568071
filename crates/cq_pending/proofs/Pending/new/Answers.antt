use Rattle.cq_pending.proofs.Held.{held_none}
use Rattle.cq_pending.proofs.Pending.new.Goals as goal

pub invariant_of-result : goal.invariant_of-result
invariant_of-result c = rw (c.new.ensures.items, c.new-2.ensures) held_none
