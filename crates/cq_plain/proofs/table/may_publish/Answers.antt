use Rattle.std.proofs.Common.{arith}
use Rattle.std.proofs.lemmas.Bool.Decides.{nat_tests}
use Rattle.cq_plain.proofs.Rows.{true-queues}
use Rattle.cq_plain.proofs.table.may_publish.Goals as goal

pub returns-then-id-ne0 : goal.returns-then-id-ne0
returns-then-id-ne0 c = grind (arith, nat_tests, true-queues c.args.queues.now c.numbers.ensures.queues, c.numbers.ensures.same)
