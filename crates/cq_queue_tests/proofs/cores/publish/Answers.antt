use Rattle.std.proofs.Common.{refl}
use Rattle.cq_queue.specs.Values.{value_of}
use Rattle.cq_queue_tests.proofs.Goes.{goes_as, goes_more, goes_reserved}
use Rattle.cq_queue_tests.proofs.cores.publish.Goals as goal

pub returns : goal.returns
returns c =
    let old = value_of c.args.core.now in
    let mid = value_of c.reserve.new.self in
    let new = value_of c.publish.new.self in
    goes_more old mid new (goes_reserved old mid c.in_ok-reserve.ensures.ok) (goes_as mid new _ c.publish.ensures.queue refl refl c.publish.ensures.files)
