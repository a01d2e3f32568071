use Rattle.std.proofs.Common.{sym, ◌∙◌, ◌+◌, arith}
use Rattle.std.specs.Prelude.{None}
use Rattle.std.proofs.lemmas.List.{get_or_read}
use Rattle.cq_items.proofs.Unseen.{fresh-get, fresh-past}
use Rattle.cq_items.proofs.items.Items.fresh_item.Goals as goal

pub returns-then-at-saturating_sub : goal.returns-then-at-saturating_sub
returns-then-at-saturating_sub c = rw (← c.self.view_is) (sym (fresh-past c.self.inside.slots.items c.self.inside.first c.self.inside.unseen c.args.at c.self.invariant.0.is_split c.self.invariant.2.split (omega arith)))

pub returns : goal.returns
returns c = rw (← c.self.view_is) (c.message.ensures ∙ get_or_read c.self.inside.slots.items (c.self.inside.unseen + c.args.at) c.index.result.now (omega (arith, c.self.invariant.0.is_split.within)) c.index.ensures None
    ∙ sym (fresh-get c.self.inside.slots.items c.self.inside.first c.self.inside.unseen c.args.at c.self.invariant.0.is_split c.self.invariant.2.split (omega arith)))
