use Rattle.std.proofs.Common.{◌≤◌, length, take}
use Rattle.cq_pack.specs.Holes.{AreIndexed}
use Rattle.cq_pack.proofs.sizes.Sizes.of.Given as goal

abbrev pub invariant-loop-hole : goal.invariant-loop-hole
invariant-loop-hole l = AreIndexed (take l.hole l.size-items) l.greatest l.keys × (length l.size-items ≤ length l.greatest)
