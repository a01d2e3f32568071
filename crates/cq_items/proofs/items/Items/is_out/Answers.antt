use Rattle.std.proofs.Common.{◌∙◌}
use Rattle.cq_items.proofs.Packed.{outs-known}
use Rattle.cq_items.proofs.items.Items.is_out.Goals as goal

pub returns : goal.returns
returns c = rw (← c.self.view_is) (c.has.ensures ∙ outs-known c.self.inside.slots.items c.self.inside.outs.held c.self.invariant.0.finds_out c.args.client c.args.delivery)
