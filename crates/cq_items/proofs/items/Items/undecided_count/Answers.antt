use Rattle.std.proofs.Common.{arith}
use Rattle.cq_items.proofs.Decided.{undecided-count}
use Rattle.cq_items.proofs.items.Items.undecided_count.Goals as goal

pub returns : goal.returns
returns c = rw (← c.self.view_is) (omega (arith, undecided-count c.self.inside.slots.items c.self.inside.first c.self.invariant.0.is_split))
