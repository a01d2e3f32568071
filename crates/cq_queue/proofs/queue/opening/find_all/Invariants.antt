use Rattle.std.proofs.Common.{take}
use Rattle.cq_disk.specs.Run.{Ran, OnlyReads}
use Rattle.cq_queue.specs.Opening.{HasFound}
use Rattle.cq_queue.proofs.queue.opening.find_all.Given as goal

abbrev pub invariant-loop-index : goal.invariant-loop-index
invariant-loop-index g l = let d = g.D.Disk in
    record {
      found : HasFound d.tells l.queue (d.files l.fn.disk) l.list.items (take l.index l.list.items) l.items;
      reads : d.tells → OnlyReads d l.fn.disk l.disk;
      ran : Ran d l.fn.disk l.disk ⊥;
    }
