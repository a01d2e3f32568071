use Rattle.std.proofs.Common.{refl}
use Rattle.cq_queue.specs.Values.{value_of}
use Rattle.cq_queue_tests.proofs.Goes.{goes_as, goes_none}
use Rattle.cq_queue_tests.proofs.cores.get.Goals as goal

pub returns : goal.returns
returns c = goes_as (value_of c.args.core.now) (value_of c.deliver.new.self) _ c.deliver.ensures.queue refl refl c.deliver.ensures.files
