use Rattle.std.proofs.Common.{◌≡◌, Option, get_or, subst}
use Rattle.cq_disk.specs.declared.name.Name.{Name}
use Rattle.cq_disk.specs.declared.name.Kind.TheVariants.{Index, Shared}
use Rattle.cq_disk.specs.File.{File}
use Rattle.cq_disk.specs.RunLemmas.{ran_next}
use Rattle.cq_folder.specs.Held.{as_read}
use Rattle.cq_back_q.specs.Folder.{IsBare}
use Rattle.cq_back_q.proofs.Opened.{reads_then}
use Rattle.cq_back_q.proofs.Quiet.{folder_damaged_before, one_more}
use Rattle.cq_back_q.proofs.Same.{same_files}
use Rattle.cq_back_q.proofs.shelf.refuse_shelves.Goals as goal

abbrev first : Name
first = record { kind = Index; queue = 0; number = 0 }

pub returns-in-Err-clause-damaged : goal.returns-in-Err-clause-damaged
returns-in-Err-clause-damaged g c = let d = g.D.Disk in
    folder_damaged_before d.tells (d.files c.args.disk.now) (d.files c.loop-name.disk) c.in-Err.error (λ told. (c.loop-name.invariant.reads told).files) c.in-Err.ensures.damaged

pub loop-name-preserved : goal.loop-name-preserved
loop-name-preserved g c = let d = g.D.Disk in
    let l = c.loop-name in
    let start = d.files c.args.disk.now in
    let name = get_or c.args.names.now l.name-index first in
    record {
      bare = λ told. one_more (λ (n : Name). n.kind ≡ Shared → IsBare (as_read start n)) c.args.names.now l.name-index first c.loop-name-test.true (l.invariant.bare told)
          (subst (λ (fs : Name → Option File). name.kind ≡ Shared → IsBare (as_read fs name)) (same_files start (d.files l.disk) (l.invariant.reads told).files) (c.in-Ok.ensures.bare told));
      reads = λ told. reads_then d (g.met.D.Disk.now_only told) c.args.disk.now l.disk c.refuse_shelf.new.disk (l.invariant.reads told) (c.in-Ok.ensures.reads told);
      ran = ran_next d c.args.disk.now l.disk c.refuse_shelf.new.disk _ _ ⊥ (λ no. absurd no) l.invariant.ran c.in-Ok.ensures.ran;
    }
