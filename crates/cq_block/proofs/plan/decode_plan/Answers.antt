use Rattle.std.proofs.Common.{sym}
use Rattle.cq_block.proofs.Planned.{moves_more}
use Rattle.cq_block.proofs.plan.decode_plan.Goals as goal

pub loop-k-preserved : goal.loop-k-preserved
loop-k-preserved c = let m = moves_more c.loop-k.k c.args.bytes.now 8 in rw (c.in_ok-push.ensures.items, c.loop-k.invariant, c.read.ensures) (sym m)
