use Rattle.std.proofs.Common.{refl}
use Rattle.cq_queue.specs.Values.{value_of}
use Rattle.cq_queue_tests.proofs.Goes.{goes_as}
use Rattle.cq_queue_tests.proofs.cores.acknowledge.Goals as goal

pub returns : goal.returns
returns c = goes_as (value_of c.args.core.now) (value_of c.acked.new.self) _ c.acked.ensures.queue refl refl c.acked.ensures.files
