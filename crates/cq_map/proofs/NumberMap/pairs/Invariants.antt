use Rattle.std.proofs.Common.{◌≡◌, take}
use Rattle.cq_map.proofs.NumberMap.pairs.Given as goal

abbrev pub invariant-loop-i : goal.invariant-loop-i
invariant-loop-i g l = l.list.items ≡ take l.i l.self-inside.entries.entries
