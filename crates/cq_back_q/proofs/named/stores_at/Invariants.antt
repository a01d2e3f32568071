use Rattle.std.proofs.Common.{◌≡◌, map, take}
use Rattle.std.specs.Prelude.{filter}
use Rattle.std.specs.List.{AllByRecursion}
use Rattle.cq_disk.specs.Run.{Ran, OnlyReads}
use Rattle.cq_small.specs.Store.{small_name, IsOpen}
use Rattle.cq_folder.specs.Queue.{has_number, indexes_of, stores_of}
use Rattle.cq_back_q.specs.Numbered.{HaveRead}
use Rattle.cq_back_q.proofs.named.stores_at.Given as goal

abbrev pub invariant-loop-number : goal.invariant-loop-number
invariant-loop-number g l = let d = g.D.Disk in
    record {
      named : stores_of l.stores.items ≡ map (small_name l.queue) (filter (has_number (indexes_of l.segments)) (take l.number-index l.numbers));
      are_open : AllByRecursion IsOpen l.stores.items;
      read : d.tells → HaveRead l.queue (d.files l.fn.disk) (take l.number-index l.numbers) l.stores.items;
      reads : d.tells → OnlyReads d l.fn.disk l.disk;
      ran : Ran d l.fn.disk l.disk ⊥;
    }
