use Rattle.std.proofs.Common.{sym}
use Rattle.cq_queue.proofs.Trying.{at_queue}
use Rattle.cq_queue.proofs.tests.put_shared.Goals as goal

pub add-requires-clause-at : goal.add-requires-clause-at
add-requires-clause-at g c = λ told. at_queue c.args.segments.now.queue c.take.new.self.queue (sym c.take.ensures.same.queue) (c.in_ok-segment.ensures.at (g.D.Disk.files c.args.disk.now) (c.requires.at told))
