use Rattle.std.proofs.Common.{take}
use Rattle.cq_queue.specs.Planning.{HasIds}
use Rattle.cq_queue.proofs.queue.planning.set_of.Given as goal

-- the ids so far
abbrev pub invariant-loop-id : goal.invariant-loop-id
invariant-loop-id l = HasIds (take l.id-index l.ids) l.set
