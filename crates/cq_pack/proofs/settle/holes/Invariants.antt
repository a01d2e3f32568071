use Rattle.cq_pack.proofs.Found.{AreFound}
use Rattle.cq_pack.proofs.settle.holes.Given as goal

abbrev pub invariant-loop-record : goal.invariant-loop-record
invariant-loop-record l = AreFound l.records l.record-index l.start l.starts.items l.sizes.items
