use Rattle.std.proofs.Common.{get_or, refl, arith}
use Rattle.cq_queue.proofs.Ids.{has_more}
use Rattle.cq_queue.proofs.queue.planning.set_of.Goals as goal

pub loop-id-preserved : goal.loop-id-preserved
loop-id-preserved c = has_more c.args.ids.now c.loop-id.id-index (get_or c.args.ids.now c.loop-id.id-index 0) c.loop-id.set c.insert.new.self (omega (arith, c.loop-id-test.true)) refl c.loop-id.invariant c.in_ok-insert.ensures.updates
