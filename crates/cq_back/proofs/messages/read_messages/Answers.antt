use Rattle.std.proofs.Common.{◌+◌, ℕ, Option, ◌∙◌, ap, subst}
use Rattle.cq_disk.specs.declared.name.Name.{Name}
use Rattle.cq_disk.specs.File.{File}
use Rattle.cq_disk.specs.RunLemmas.{ran_next}
use Rattle.cq_disk.specs.Moments.{quiet_then}
use Rattle.cq_small.specs.Store.{len_of as store_len}
use Rattle.cq_folder.specs.Held.{as_read, contents_of}
use Rattle.cq_back.specs.Folder.{index_file, file_bytes}
use Rattle.cq_back.specs.Read.{AreTaken, AreWithin, IsRead, BreaksFirst}
use Rattle.cq_back.proofs.Opening.{same_files, damaged_to, err_of}
use Rattle.cq_back.proofs.messages.read_messages.Goals as goal

pub returns-in-Err-clause-damaged : goal.returns-in-Err-clause-damaged
returns-in-Err-clause-damaged g c =
    let d = g.D.Disk in
    let i = c.loop-at in
    damaged_to c.in-Err.error _ _ (λ name place found broken told.
    subst (λ (fs : Name → Option File). IsRead (contents_of (as_read fs)) (file_bytes (fs index_file)) i.at i.taken.held.items i.taken.lines → AreTaken i.at i.taken.held.items i.taken.lines → BreaksFirst (contents_of (as_read fs)) (file_bytes (fs index_file)) name place found)
    (same_files (d.files c.args.disk.now) (d.files i.disk) (i.invariant.files told)) (broken told) (i.invariant.read told) i.invariant.taken) c.in-Err.ensures.damaged

pub returns-in-Err-clause-any_moment : goal.returns-in-Err-clause-any_moment
returns-in-Err-clause-any_moment g c = λ told.
    let d = g.D.Disk in
    let i = c.loop-at in
    quiet_then d.moment d.left d.files (g.met.D.Disk.now_only told) c.args.disk.now i.disk c.read_next.new.disk (i.invariant.run told) (i.invariant.files told) (c.in-Err.ensures.any_moment told)

pub returns-in-Err-clause-ran : goal.returns-in-Err-clause-ran
returns-in-Err-clause-ran g c = ran_next g.D.Disk c.args.disk.now c.loop-at.disk c.read_next.new.disk _ _ _ (err_of _ c.in-Err.error) c.loop-at.invariant.ran c.in-Err.ensures.ran

pub loop-at-preserved : goal.loop-at-preserved
loop-at-preserved g c =
    let d = g.D.Disk in
    let i = c.loop-at in
    let e = c.in-Ok.ensures in
    let new = c.read_next.new in
    record {
      ids = e.ids;
      taken = e.taken i.invariant.taken;
      within = subst (λ (len : ℕ). AreWithin len i.taken.held.items → AreWithin len new.taken.held.items) (ap store_len i.invariant.small) e.within i.invariant.within;
      read = λ told. subst (λ (fs : Name → Option File). IsRead (contents_of (as_read fs)) (file_bytes (fs index_file)) i.at i.taken.held.items i.taken.lines → IsRead (contents_of (as_read fs)) (file_bytes (fs index_file)) (i.at + 1) new.taken.held.items new.taken.lines)
          (same_files (d.files c.args.disk.now) (d.files i.disk) (i.invariant.files told)) (e.read told) (i.invariant.read told);
      segment = e.same ∙ i.invariant.segment;
      small = e.same_small ∙ i.invariant.small;
      files = λ told n. e.files told n ∙ i.invariant.files told n;
      run = λ told. quiet_then d.moment d.left d.files (g.met.D.Disk.now_only told) c.args.disk.now i.disk new.disk (i.invariant.run told) (i.invariant.files told) (e.any_moment told);
      ran = ran_next d c.args.disk.now i.disk new.disk _ _ ⊥ (λ no. absurd no) i.invariant.ran e.ran;
    }
