use Rattle.cq_queue.specs.Values.{value_of}
use Rattle.cq_queue_tests.proofs.Goes.{fit_goes}
use Rattle.cq_queue_tests.proofs.stops.removes.Goals as goal

pub settle-requires-clause-at : goal.settle-requires-clause-at
settle-requires-clause-at g c =
    let d = g.D.Disk in
    let files = d.files c.filled.new.disk in
    (fit_goes 2 (value_of c.in_ok-core.core) (value_of c.get_all.new.core) d.tells files c.in_ok-core.ensures c.get_all.ensures).at
