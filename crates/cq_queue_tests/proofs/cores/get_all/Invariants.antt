use Rattle.cq_queue.specs.Values.{value_of}
use Rattle.cq_queue_tests.specs.Goes.{GoesOn}
use Rattle.cq_queue_tests.proofs.cores.get_all.Given as goal

abbrev pub invariant-loop-delivery : goal.invariant-loop-delivery
invariant-loop-delivery l = GoesOn (value_of l.fn.core) (value_of l.core)
