use Rattle.std.proofs.Common.{refl}
use Rattle.cq_queue.proofs.queue.planning.entry_of.Goals as goal

pub returns-clause-present : goal.returns-clause-present
returns-clause-present c = record { valid = c.requires; id = c.ranges.id.fits; place = c.ranges.place.fits; spelled = refl }
