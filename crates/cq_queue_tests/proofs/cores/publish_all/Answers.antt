use Rattle.cq_queue.specs.Values.{value_of}
use Rattle.cq_queue_tests.proofs.Goes.{goes_more, goes_none}
use Rattle.cq_queue_tests.proofs.cores.publish_all.Goals as goal

pub loop-number-init : goal.loop-number-init
loop-number-init c = goes_none (value_of c.args.core.now)

pub loop-number-preserved : goal.loop-number-preserved
loop-number-preserved c = goes_more (value_of c.args.core.now) (value_of c.loop-number.core) (value_of c.publish.new.core) c.loop-number.invariant c.in_ok-publish.ensures
