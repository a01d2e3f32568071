use Rattle.std.proofs.Common.{false, List, ◌∙◌, subst}
use Rattle.cq_items.specs.declared.tree.Node.{Node}
use Rattle.cq_items.specs.Tree.{helds, IsFound}
use Rattle.cq_items.proofs.Find.{found-some}
use Rattle.cq_items.proofs.outs.Outs.has.Goals as goal

pub returns : goal.returns
returns c =
    let found = subst (λ (ns : List Node). IsFound false c.args.client c.args.delivery (helds ns) c.index_of.result) c.deref.ensures.value c.index_of.ensures in
    rw (← c.self.view_is) (c.is_some.ensures ∙ found-some (helds c.self.inside.nodes.items) c.args.client c.args.delivery c.index_of.result c.self.invariant.1 found)
