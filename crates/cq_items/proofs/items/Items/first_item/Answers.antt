use Rattle.std.proofs.Common.{◌≡◌, length, drop, sym, ◌∙◌, arith}
use Rattle.std.specs.Prelude.{None}
use Rattle.std.proofs.lemmas.List.{get_or_read}
use Rattle.cq_items.proofs.Places.{IsFirstPlace}
use Rattle.cq_items.proofs.Steps.{headed, headless, indexed-first, first-within, first-get, none-get}
use Rattle.cq_items.proofs.items.Items.first_item.Goals as goal

pub index-requires : goal.index-requires
index-requires c =
    let f : IsFirstPlace 0 c.self.inside.slots.items c.in-Some.at (drop 1 c.self.inside.waiting.items) = indexed-first c.self.inside.slots.items c.self.inside.waiting.items (drop 1 c.self.inside.waiting.items) c.self.inside.outs.held c.self.inside.gone.items c.self.inside.first c.in-Some.at c.self.invariant.0
    (headed c.self.inside.waiting.items c.in-Some.at (sym c.first.ensures ∙ c.in-Some.is)) in
    omega (arith, first-within c.self.inside.slots.items c.in-Some.at (drop 1 c.self.inside.waiting.items) f)

pub returns-in-Some : goal.returns-in-Some
returns-in-Some c =
    let f : IsFirstPlace 0 c.self.inside.slots.items c.in-Some.at (drop 1 c.self.inside.waiting.items) = indexed-first c.self.inside.slots.items c.self.inside.waiting.items (drop 1 c.self.inside.waiting.items) c.self.inside.outs.held c.self.inside.gone.items c.self.inside.first c.in-Some.at c.self.invariant.0
    (headed c.self.inside.waiting.items c.in-Some.at (sym c.first.ensures ∙ c.in-Some.is)) in
    rw (← c.self.view_is) (c.message.ensures
    ∙ get_or_read c.self.inside.slots.items c.in-Some.at c.index.result.now (first-within c.self.inside.slots.items c.in-Some.at (drop 1 c.self.inside.waiting.items) f) c.index.ensures None
    ∙ sym (first-get c.self.inside.slots.items c.in-Some.at (drop 1 c.self.inside.waiting.items) f))

pub returns-in-None : goal.returns-in-None
returns-in-None c =
    let none : length c.self.inside.waiting.items ≡ 0 = headless c.self.inside.waiting.items (sym c.first.ensures ∙ c.in-None.is) in
    rw (← c.self.view_is) (sym (none-get c.self.inside.slots.items c.self.inside.waiting.items c.self.inside.outs.held c.self.inside.gone.items c.self.inside.first c.self.invariant.0 none))
