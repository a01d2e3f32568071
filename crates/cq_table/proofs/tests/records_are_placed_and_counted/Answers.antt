use Rattle.std.proofs.Common.{arith}
use Rattle.cq_table.proofs.ByFile.{live_more}
use Rattle.cq_table.proofs.tests.records_are_placed_and_counted.Goals as goal

pub set-requires-clause-small : goal.set-requires-clause-small
set-requires-clause-small g c = omega (arith, c.live.ensures, live_more c.new-table.result.places 8 (record { file = 0; at = 163; len = 20 }))

pub set-requires-2-clause-small : goal.set-requires-2-clause-small
set-requires-2-clause-small g c = omega (arith, c.live-2.ensures, live_more c.set.new.self.places 7 (record { file = 0; at = 128; len = 10 }))
