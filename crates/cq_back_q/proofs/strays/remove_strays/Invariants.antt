use Rattle.cq_disk.specs.Run.{Ran, LeavesOnly}
use Rattle.cq_back_q.specs.Folder.{IsImageOrWithout}
use Rattle.cq_back_q.proofs.Removing.{Removed}
use Rattle.cq_back_q.proofs.strays.remove_strays.Given as goal

abbrev pub invariant-loop-name : goal.invariant-loop-name
invariant-loop-name g l =
    let d = g.D.Disk in
    record {
      removed : d.tells → Removed (d.files l.fn.disk) (d.files l.disk) l.names l.name-index;
      run : d.tells → LeavesOnly d l.fn.disk l.disk (IsImageOrWithout (d.files l.fn.disk));
      ran : Ran d l.fn.disk l.disk ⊥;
    }
