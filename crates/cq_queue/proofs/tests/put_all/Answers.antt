use Rattle.std.proofs.Common.{◌^◌, arith}
use Rattle.cq_queue.proofs.Trying.{below_up}
use Rattle.cq_queue.proofs.tests.put_all.Goals as goal

pub put-requires-clause-numbers : goal.put-requires-clause-numbers
put-requires-clause-numbers g c = below_up c.loop-number.number (2 ^ 63) _ (omega (arith, c.loop-number-test.true)) c.loop-number.invariant.0

pub loop-number-preserved : goal.loop-number-preserved
loop-number-preserved g c = (c.in_ok-put.ensures.numbers c.loop-number.number c.loop-number.invariant.0, c.in_ok-put.ensures.at)
