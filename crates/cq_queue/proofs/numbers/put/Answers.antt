use Rattle.std.proofs.Common.{◌∙◌}
use Rattle.cq_queue.proofs.Placing.{put_is}
use Rattle.cq_queue.proofs.numbers.put.Goals as goal

pub returns-clause-items : goal.returns-clause-items
returns-clause-items c = c.put_at.ensures.items ∙ put_is c.args.number c.args.numbers.now.items c.place_of-place.result c.place_of-place.ensures
