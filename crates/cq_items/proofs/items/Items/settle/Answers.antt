use Rattle.std.proofs.Common.{ℕ, List, sym, ap, ◌∙◌}
use Rattle.std.specs.Prelude.{Option}
use Rattle.cq_items.specs.Item.{Item}
use Rattle.cq_items.specs.Items.{others_in}
use Rattle.cq_items.proofs.Settled.{others-none}
use Rattle.cq_items.proofs.items.Items.settle.Goals as goal

pub returns-in-None-clause-ok : goal.returns-in-None-clause-ok
returns-in-None-clause-ok c = sym (ap (λ (is : List Item). record { items = is; reserved = c.args.self.now.reserved })
    (ap (λ (o : Option ℕ). others_in o c.args.self.now.items) (sym c.lowest_segment.ensures ∙ c.in-None.is) ∙ others-none c.args.self.now.items))
