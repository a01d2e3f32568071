use Rattle.std.proofs.Common.{sym, ◌∙◌, ◌+◌, arith}
use Rattle.std.specs.Prelude.{None}
use Rattle.std.proofs.lemmas.List.{get_or_read}
use Rattle.cq_items.proofs.Decided.{undecided-get, undecided-past}
use Rattle.cq_items.proofs.items.Items.undecided_item.Goals as goal

pub returns-then-at-len : goal.returns-then-at-len
returns-then-at-len c = rw (← c.self.view_is) (sym (undecided-past c.self.inside.slots.items c.self.inside.first c.args.at c.self.invariant.0.is_split (omega arith)))

pub returns : goal.returns
returns c = rw (← c.self.view_is) (c.message.ensures ∙ get_or_read c.self.inside.slots.items (c.self.inside.first + c.args.at) c.index.result.now (omega arith) c.index.ensures None
    ∙ sym (undecided-get c.self.inside.slots.items c.self.inside.first c.args.at c.self.invariant.0.is_split))
