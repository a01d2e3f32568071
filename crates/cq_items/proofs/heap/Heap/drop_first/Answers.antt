use Rattle.std.proofs.Common.{◌≡◌, List, ℕ, [], ap, sym, ◌∙◌, drop, arith}
use Rattle.std.specs.BinaryHeap.{heap_items}
use Rattle.std.specs.declared.cmp.Reverse.{Reverse}
use Rattle.std.proofs.lemmas.List.{nil_from_length}
use Rattle.cq_items.specs.Line.{ascending}
use Rattle.cq_items.proofs.Ascending.{ascending-permuted, ascending-top}
use Rattle.cq_items.proofs.heap.Heap.drop_first.Goals.{in-Some, in-None}
use Rattle.cq_items.proofs.heap.Heap.drop_first.Goals as goal

pub returns-clause-items : goal.returns-clause-items
returns-clause-items c = elim c.match-pop.branch [
  | in-Some w ↦ rw (← c.self.view_is) (sym (ap (drop 1) (ascending-permuted _ _ w.in-Some.ensures.permutation ∙ ascending-top w.in-Some.field-0 _ (w.in-Some.ensures.below_top c.self.invariant))))
  | in-None w ↦ (
      let old : List (Reverse ℕ) = heap_items c.self.inside.places in
      let none : old ≡ [] = nil_from_length old (omega (arith, w.in-None.ensures.none)) in
      let same : heap_items c.pop.new.self ≡ old = w.in-None.ensures.unchanged.0 in
      rw (← c.self.view_is) (ap ascending (same ∙ none) ∙ sym (ap (λ (rs : List (Reverse ℕ)). drop 1 (ascending rs)) none)))
]
