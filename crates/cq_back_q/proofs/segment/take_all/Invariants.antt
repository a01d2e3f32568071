use Rattle.std.proofs.Common.{take}
use Rattle.cq_disk.specs.Run.{Ran, OnlyReads}
use Rattle.cq_small.specs.Store.{name_of as store_name}
use Rattle.cq_index.specs.Segments.{name_of, present_of}
use Rattle.cq_bulk.specs.Bodies.{IsWindow}
use Rattle.cq_folder.specs.Queue.{listed_in}
use Rattle.cq_back_q.specs.Reading.{ReadsMore}
use Rattle.cq_back_q.proofs.segment.take_all.Given as goal

abbrev pub invariant-loop-index : goal.invariant-loop-index
invariant-loop-index g l =
    let d = g.D.Disk in
    let start = d.files l.fn.disk in
    record {
      taken : ReadsMore d.tells l.queue start (listed_in (name_of l.segment).number (take l.index (present_of l.segment))) l.fn.reader.taken l.reader.taken;
      window : d.tells → IsWindow l.reader.window (start (store_name l.store));
      reads : d.tells → OnlyReads d l.fn.disk l.disk;
      ran : Ran d l.fn.disk l.disk ⊥;
    }
