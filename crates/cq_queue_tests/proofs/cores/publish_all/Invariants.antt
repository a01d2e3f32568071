use Rattle.cq_queue.specs.Values.{value_of}
use Rattle.cq_queue_tests.specs.Goes.{GoesOn}
use Rattle.cq_queue_tests.proofs.cores.publish_all.Given as goal

abbrev pub invariant-loop-number : goal.invariant-loop-number
invariant-loop-number l = GoesOn (value_of l.fn.core) (value_of l.core)
