use Rattle.std.proofs.Common.{List, ℕ, [], ap, ◌∙◌, arith}
use Rattle.std.specs.Prelude.{Some, slice_get}
use Rattle.std.specs.BinaryHeap.{heap_items}
use Rattle.std.proofs.lemmas.List.{append-nil}
use Rattle.cq_items.specs.Line.{ascending}
use Rattle.cq_items.proofs.Ascending.{top-first}
use Rattle.cq_items.proofs.heap.Heap.first.Goals as goal

pub returns-in-Some : goal.returns-in-Some
returns-in-Some c = rw (← c.self.view_is) (ap Some c.number_of.ensures
    ∙ top-first (heap_items c.self.inside.places) [] c.in-Some.top.now (grind (arith, c.in-Some.ensures.variant)) c.in-Some.ensures.lookup (c.in-Some.ensures.greatest c.self.invariant)
    ∙ ap (λ (xs : List ℕ). slice_get xs 0) (append-nil (ascending (heap_items c.self.inside.places))))
