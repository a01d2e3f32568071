use Rattle.std.proofs.Common.{◌≡◌, ◌+◌, ◌≤◌, length, subst, arith}
use Rattle.std.specs.Prelude.{OnOk}
use Rattle.std.specs.BinaryHeap.{heap_items, heap_len, heap_capacity}
use Rattle.cq_items.specs.Line.{ascending}
use Rattle.cq_items.proofs.Ascending.{length-ascending}
use Rattle.cq_items.proofs.heap.Heap.reserve.Goals as goal

pub returns-clause-ok : goal.returns-clause-ok
returns-clause-ok c =
    let same : heap_len c.reserve.new.self ≡ length (ascending (heap_items c.reserve.new.self)) = omega (arith, length-ascending (heap_items c.reserve.new.self)) in
    subst (λ n. OnOk c.reserve.result (n + c.args.count ≤ heap_capacity c.reserve.new.self)) same c.reserve.ensures.ok
