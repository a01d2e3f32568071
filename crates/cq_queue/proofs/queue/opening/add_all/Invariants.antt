use Rattle.std.proofs.Common.{◌≡◌, ◌++◌, take}
use Rattle.std.specs.Prelude.{All}
use Rattle.cq_queue.specs.QueueSegment.{number_of, present_of, small_len}
use Rattle.cq_queue.specs.Opening.{LiesIn, found_of}
use Rattle.cq_queue.proofs.queue.opening.add_all.Given as goal

abbrev pub invariant-loop-index : goal.invariant-loop-index
invariant-loop-index l =
    (l.items ≡ record { items = l.fn.items.items ++ found_of (number_of l.segment) (take l.index (present_of l.segment)) (take l.index l.entries); reserved = 0 })
    × All (LiesIn (small_len l.segment)) (take l.index l.entries)
