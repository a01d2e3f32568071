use Rattle.std.proofs.Common.{◌≡◌, take}
use Rattle.cq_disk.specs.Run.{Ran, OnlyReads}
use Rattle.cq_back_q.specs.Found.{listed, places_of}
use Rattle.cq_back_q.specs.Reading.{HaveRead}
use Rattle.cq_back_q.proofs.reading.read_all.Given as goal

abbrev pub invariant-loop-index : goal.invariant-loop-index
invariant-loop-index g l =
    let d = g.D.Disk in
    record {
      read : HaveRead d.tells l.queue (d.files l.fn.disk) l.reader.taken;
      listing : places_of l.reader.taken.held.items ≡ listed (take l.index l.segments);
      reads : d.tells → OnlyReads d l.fn.disk l.disk;
      ran : Ran d l.fn.disk l.disk ⊥;
    }
