use Rattle.cq_disk.specs.Files.{IsImage}
use Rattle.cq_disk.specs.Run.{Ran, LeavesOnly}
use Rattle.cq_back_q.proofs.Synced.{Syncs}
use Rattle.cq_back_q.proofs.sync.sync_each.Given as goal

abbrev pub invariant-loop-name : goal.invariant-loop-name
invariant-loop-name g l =
    let d = g.D.Disk in
    let start = l.fn.disk in
    let now = l.disk in
    record {
      syncs : d.tells → Syncs (d.files start) (d.files now) l.names l.name-index;
      run : d.tells → LeavesOnly d start now (IsImage (d.files start));
      ran : Ran d start now ⊥;
    }
