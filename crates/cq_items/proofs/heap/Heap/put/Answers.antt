use Rattle.std.proofs.Common.{◌≡◌, ◌<◌, true, false, length, ap, sym, ◌∙◌, subst, arith}
use Rattle.std.specs.Prelude.{is_ok}
use Rattle.std.specs.BinaryHeap.{heap_items, heap_capacity}
use Rattle.cq_items.specs.Line.{LineValue, ascending}
use Rattle.cq_items.proofs.Ascending.{ascending-permuted, length-ascending}
use Rattle.cq_items.proofs.heap.Heap.put.Goals.{in-Ok, in-Err}
use Rattle.cq_items.proofs.heap.Heap.put.Goals as goal

pub returns-clause-items : goal.returns-clause-items
returns-clause-items c = elim c.match-push.branch [
  | in-Ok w ↦ rw (← c.self.view_is) (sym (ascending-permuted _ _ w.in-Ok.ensures.permutation))
  | in-Err w ↦ (
      let room : length (ascending (heap_items c.self.inside.places)) < heap_capacity c.self.inside.places = subst (λ (v : LineValue). length v.items < v.room) (sym c.self.view_is) c.requires in
      let ok = c.push.ensures.succeeds (omega (arith, room, length-ascending (heap_items c.self.inside.places))) in
      let t : false ≡ true = sym (ap is_ok w.in-Err.is) ∙ ok in
      cc)
]
