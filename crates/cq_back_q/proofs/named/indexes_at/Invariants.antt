use Rattle.std.proofs.Common.{◌≡◌, map, take}
use Rattle.std.specs.List.{AllByRecursion}
use Rattle.cq_disk.specs.Run.{Ran, OnlyReads}
use Rattle.cq_index.specs.Places.{index_name}
use Rattle.cq_index.specs.Segments.{IsOpen}
use Rattle.cq_folder.specs.Queue.{indexes_of}
use Rattle.cq_back_q.specs.Numbered.{IsReadIndex}
use Rattle.cq_back_q.proofs.named.indexes_at.Given as goal

abbrev pub invariant-loop-number : goal.invariant-loop-number
invariant-loop-number g l = let d = g.D.Disk in
    record {
      named : indexes_of l.segments.items ≡ map (index_name l.queue) (take l.number-index l.numbers);
      are_open : AllByRecursion IsOpen l.segments.items;
      read : d.tells → AllByRecursion (IsReadIndex (d.files l.fn.disk)) l.segments.items;
      reads : d.tells → OnlyReads d l.fn.disk l.disk;
      ran : Ran d l.fn.disk l.disk ⊥;
    }
