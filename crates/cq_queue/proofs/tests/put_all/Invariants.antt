use Rattle.cq_queue.specs.Lists.{AreAt, AreBelow}
use Rattle.cq_queue.specs.Calls.{list_of, queue_of}
use Rattle.cq_queue.proofs.tests.put_all.Given as goal

abbrev pub invariant-loop-number : goal.invariant-loop-number
invariant-loop-number g l = AreBelow l.number (list_of l.segments) × (g.D.Disk.tells → AreAt (queue_of l.segments) (list_of l.segments) (g.D.Disk.files l.disk))
