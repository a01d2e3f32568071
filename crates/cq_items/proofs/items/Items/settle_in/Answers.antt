use Rattle.std.proofs.Common.{◌∙◌}
use Rattle.cq_items.proofs.Settled.{all-left}
use Rattle.cq_items.proofs.items.Items.settle_in.Goals as goal

pub returns-in-None-clause-ok : goal.returns-in-None-clause-ok
returns-in-None-clause-ok c =
    let e = c.in-None.ensures in
    c.tidy.ensures ∙ e.0 ∙ all-left c.args.segment c.args.self.now c.loop-left.self c.requires e.1 c.loop-left.invariant.others c.loop-left.invariant.reserved
