use Rattle.std.proofs.Common.{◌≡◌, take}
use Rattle.cq_pack.specs.Packing.{live_of}
use Rattle.cq_pack.proofs.live.records.Given as goal

abbrev pub invariant-loop-block : goal.invariant-loop-block
invariant-loop-block l = l.records.items ≡ live_of l.live (take l.block-index l.blocks)
