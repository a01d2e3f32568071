use Rattle.cq_queue.specs.Values.{value_of}
use Rattle.cq_queue_tests.specs.Goes.{IsFit}
use Rattle.cq_queue_tests.proofs.cores.commit_all.Given as goal

abbrev pub invariant-loop-number : goal.invariant-loop-number
invariant-loop-number g l = IsFit l.number (value_of l.core) g.D.Disk.tells (g.D.Disk.files l.disk)
