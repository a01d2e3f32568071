use Rattle.std.proofs.Common.{◌≡◌, ◌<◌, ℕ, get_or}
use Rattle.cq_disk.specs.declared.name.Name.{Name}
use Rattle.cq_disk.specs.declared.name.Kind.TheVariants.{Shared}
use Rattle.cq_disk.specs.Run.{Ran, OnlyReads}
use Rattle.cq_folder.specs.Held.{as_read}
use Rattle.cq_back_q.specs.Folder.{IsBare}
use Rattle.cq_back_q.proofs.shelf.refuse_shelves.Given as goal

abbrev pub invariant-loop-name : goal.invariant-loop-name
invariant-loop-name g l = let d = g.D.Disk in
    record {
      bare : d.tells → (k : ℕ) (e : Name) → k < l.name-index → (get_or l.names k e).kind ≡ Shared → IsBare (as_read (d.files l.fn.disk) (get_or l.names k e));
      reads : d.tells → OnlyReads d l.fn.disk l.disk;
      ran : Ran d l.fn.disk l.disk ⊥;
    }
