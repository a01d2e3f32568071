use Rattle.std.proofs.Common.{arith, rules}
use Rattle.cq_memdisk.proofs.disk.MemDisk.count_call.Goals as goal
use Rattle.cq_memdisk.proofs.disk.MemDisk.count_call.Goals.{then-now-via-then-now, then-now-via-else-now+then-is_planned}

pub returns-then-now-clause-failed : goal.returns-then-now-clause-failed
returns-then-now-clause-failed c =
    elim c.then-now.branch [ then-now-via-then-now w ↦ λ before time. absurd (omega arith) | then-now-via-else-now+then-is_planned w ↦ λ before time. search rules ]
