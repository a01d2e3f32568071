use Rattle.cq_queue.specs.Values.{value_of}
use Rattle.cq_queue_tests.proofs.Goes.{goes_more}
use Rattle.cq_queue_tests.proofs.cores.get_all.Goals as goal

pub returns-then-not-get : goal.returns-then-not-get
returns-then-not-get c = goes_more (value_of c.args.core.now) (value_of c.loop-delivery.core) (value_of c.get.new.core) c.loop-delivery.invariant c.get.ensures

pub loop-delivery-preserved : goal.loop-delivery-preserved
loop-delivery-preserved c =
    let old = value_of c.args.core.now in
    let mid = value_of c.get.new.core in
    let new = value_of c.acknowledge.new.core in
    goes_more old mid new (goes_more old (value_of c.loop-delivery.core) mid c.loop-delivery.invariant c.get.ensures) c.acknowledge.ensures
