use Rattle.std.proofs.Common.{true, List, ap, ◌∙◌, subst}
use Rattle.cq_items.specs.Item.{Item}
use Rattle.cq_items.specs.declared.item.Holder.{Holder}
use Rattle.cq_items.specs.declared.item.Holder.TheVariants.{Gone}
use Rattle.cq_items.specs.Items.{IsHeldBy, undecided_items}
use Rattle.cq_items.proofs.Decided.{pass-as, or-true}
use Rattle.cq_items.proofs.items.Items.pass_held.Goals as goal

pub returns-in-Gone-clause-queue : goal.returns-in-Gone-clause-queue
returns-in-Gone-clause-queue c =
    let held : IsHeldBy Gone (undecided_items c.args.self.now.items) = subst (λ (h : Holder). IsHeldBy h (undecided_items c.args.self.now.items)) c.in-Gone.is c.requires.held in
    c.leave_gone.ensures c.args.stand ∙ ap (λ (is : List Item). record { items = is; reserved = c.args.self.now.reserved }) (pass-as c.args.skip true c.args.stand Gone c.args.self.now.items held (or-true c.args.skip))
