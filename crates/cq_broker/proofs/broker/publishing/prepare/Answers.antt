use Rattle.std.proofs.Common.{sym, subst}
use Rattle.cq_queues.specs.Changes.{AreBelow}
use Rattle.cq_broker.proofs.Publishing.{queues-below}
use Rattle.cq_broker.proofs.broker.publishing.prepare.Goals as goal

pub reserve-requires : goal.reserve-requires
reserve-requires c = subst AreBelow (sym c.numbers.ensures.same) (queues-below c.args.queues.now c.numbers.ensures.queues)
