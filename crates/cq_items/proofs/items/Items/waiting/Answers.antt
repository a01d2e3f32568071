use Rattle.std.proofs.Common.{arith}
use Rattle.cq_items.proofs.Steps.{waiting-count}
use Rattle.cq_items.proofs.items.Items.waiting.Goals as goal

pub returns : goal.returns
returns c = rw (← c.self.view_is) (omega (arith, waiting-count c.self.inside.slots.items c.self.inside.waiting.items c.self.inside.outs.held c.self.inside.gone.items c.self.inside.first c.self.invariant.0))
