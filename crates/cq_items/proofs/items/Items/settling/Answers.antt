use Rattle.std.proofs.Common.{arith}
use Rattle.cq_items.proofs.Settled.{settling-count}
use Rattle.cq_items.proofs.items.Items.settling.Goals as goal

pub returns : goal.returns
returns c = rw (← c.self.view_is) (omega (arith, settling-count _ _ _ _ _ c.self.invariant.0))
