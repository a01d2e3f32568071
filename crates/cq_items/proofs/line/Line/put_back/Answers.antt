use Rattle.std.proofs.Common.{◌≡◌, ◌<◌, ◌++◌, true, false, length, ap, sym, ◌∙◌, subst, arith, length-append}
use Rattle.std.specs.Prelude.{min, is_ok}
use Rattle.std.specs.VecDeque.{deque_capacity}
use Rattle.std.specs.BinaryHeap.{heap_items, heap_capacity}
use Rattle.cq_items.specs.Queue.{IsRising}
use Rattle.cq_items.specs.Line.{LineValue, ascending}
use Rattle.cq_items.proofs.Ascending.{ascending-permuted, length-ascending, put-low, put-high, rising-right}
use Rattle.cq_items.proofs.line.Line.put_back.Goals as goal

pub place_among-place-requires : goal.place_among-place-requires
place_among-place-requires c = rising-right (ascending (heap_items c.self.inside.back)) c.self.inside.fresh.items (subst (λ (v : LineValue). IsRising v.items) (sym c.self.view_is) c.requires.rising)

pub returns-in-Ok-clause-put : goal.returns-in-Ok-clause-put
returns-in-Ok-clause-put c =
    let rising = subst (λ (v : LineValue). IsRising v.items) (sym c.self.view_is) c.requires.rising in
    let same = ascending-permuted _ _ c.in-Ok.ensures.permutation in
    rw (← c.self.view_is, ← same) (put-low c.args.at (ascending (heap_items c.self.inside.back)) c.self.inside.fresh.items rising (sym c.comes_first.ensures ∙ c.if-comes_first.true))

pub returns-in-Err-clause-put : goal.returns-in-Err-clause-put
returns-in-Err-clause-put c =
    let room : length (ascending (heap_items c.self.inside.back) ++ c.self.inside.fresh.items) < min (heap_capacity c.self.inside.back) (deque_capacity c.self.inside.fresh) =
    subst (λ (v : LineValue). length v.items < v.room) (sym c.self.view_is) c.requires.room in
    let ok = c.push.ensures.succeeds (omega (arith, room, length-append (ascending (heap_items c.self.inside.back)) c.self.inside.fresh.items, length-ascending (heap_items c.self.inside.back))) in
    let t : false ≡ true = sym (ap is_ok c.in-Err.is) ∙ ok in
    cc

pub returns-else-comes_first-clause-put : goal.returns-else-comes_first-clause-put
returns-else-comes_first-clause-put c =
    let rising = subst (λ (v : LineValue). IsRising v.items) (sym c.self.view_is) c.requires.rising in
    rw (← c.self.view_is) (put-high c.args.at (ascending (heap_items c.self.inside.back)) c.self.inside.fresh.items _ c.place_among-place.result rising (sym c.comes_first.ensures ∙ c.if-comes_first.false) c.place_among-place.ensures c.put_at.ensures.items)
