use Rattle.std.proofs.Common.{sym, ap, ◌∙◌, arith}
use Rattle.std.specs.Prelude.{Some}
use Rattle.std.proofs.lemmas.Bool.{eq-eqb}
use Rattle.cq_items.specs.Items.{holder_of}
use Rattle.cq_items.proofs.Decided.{undecided-drop, holder-found, holder-none}
use Rattle.cq_items.proofs.items.Items.find_holder.Goals as goal

pub returns-then-id : goal.returns-then-id
returns-then-id c = rw (← c.self.view_is) (ap Some c.holder.ensures ∙ sym (ap (holder_of c.args.id) (undecided-drop c.self.inside.slots.items c.self.inside.first c.self.invariant.0.is_split) ∙ sym c.loop-at.invariant
    ∙ holder-found c.args.id c.self.inside.slots.items c.loop-at.at c.index.result.now c.in-Some.item (omega arith) c.index.ensures (sym c.message.ensures ∙ c.in-Some.is) (eq-eqb c.in-Some.item.id c.args.id (sym c.id.ensures ∙ c.if-id.true))))

pub returns : goal.returns
returns c = rw (← c.self.view_is) (sym (ap (holder_of c.args.id) (undecided-drop c.self.inside.slots.items c.self.inside.first c.self.invariant.0.is_split) ∙ sym c.loop-at.invariant
    ∙ holder-none c.args.id c.self.inside.slots.items c.loop-at.at (omega arith)))
