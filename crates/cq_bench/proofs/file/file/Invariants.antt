use Rattle.cq_bench.proofs.Fits.{AreMade}
use Rattle.cq_bench.proofs.file.file.Given as goal

abbrev pub invariant-loop-k : goal.invariant-loop-k
invariant-loop-k l = AreMade l.count l.k l.at l.blocks.items l.ids.items
