use Rattle.std.proofs.Common.{arith}
use Rattle.cq_disk.specs.Files.{IsImage}
use Rattle.cq_disk.specs.Moments.{started}
use Rattle.cq_disk.specs.RunLemmas.{ran_none, ran_next, ran_call}
use Rattle.cq_back_q.proofs.Synced.{syncs_none, syncs_more, still_there, run_more, none_new, none_within}
use Rattle.cq_back_q.proofs.sync.sync_each.Goals as goal

pub loop-name-init : goal.loop-name-init
loop-name-init g c =
    let d = g.D.Disk in
    let old = c.args.disk.now in
    record {
      syncs = λ told. syncs_none (d.files old) c.args.names.now;
      run = λ told. started d.moment d.left d.files (g.met.D.Disk.now_only told) old (IsImage (d.files old)) (λ image is. is);
      ran = ran_none d old;
    }

pub sync-requires : goal.sync-requires
sync-requires g c = λ told.
    let d = g.D.Disk in
    let i = c.loop-name in
    still_there (d.files c.args.disk.now) (d.files i.disk) c.args.names.now i.name-index i.name-index _ c.loop-name-test.true (c.requires told) (i.invariant.syncs told)

pub returns-in_err-sync-clause-any_moment : goal.returns-in_err-sync-clause-any_moment
returns-in_err-sync-clause-any_moment g c = λ told.
    let d = g.D.Disk in
    let i = c.loop-name in
    let all = c.args.names.now in
    run_more d.moment d.left d.files (g.met.D.Disk.now_only told) told c.args.disk.now i.disk c.sync.new.self all i.name-index _ c.sync.result (g.met.D.Disk.reads_left told i.disk)
    (still_there (d.files c.args.disk.now) (d.files i.disk) all i.name-index i.name-index _ c.loop-name-test.true (c.requires told) (i.invariant.syncs told))
    c.sync.ensures.ok c.sync.ensures.fault c.sync.ensures.time (i.invariant.syncs told) (i.invariant.run told)

pub returns-in_err-sync-clause-no_new : goal.returns-in_err-sync-clause-no_new
returns-in_err-sync-clause-no_new g c = λ told.
    let d = g.D.Disk in
    let i = c.loop-name in
    none_within (d.files c.args.disk.now) (d.files i.disk) (d.files c.sync.new.self) _ _ (i.invariant.syncs told).reads (c.in_err-sync.ensures.fault told)

pub loop-name-preserved : goal.loop-name-preserved
loop-name-preserved g c =
    let d = g.D.Disk in
    let i = c.loop-name in
    let all = c.args.names.now in
    let e = c.in_ok-sync.ensures in
    record {
      syncs = λ told. syncs_more (d.files c.args.disk.now) (d.files i.disk) (d.files c.sync.new.self) all i.name-index _ c.loop-name-test.true (g.met.D.Disk.reads_left told i.disk) (i.invariant.syncs told) (e.ok told);
      run = λ told. run_more d.moment d.left d.files (g.met.D.Disk.now_only told) told c.args.disk.now i.disk c.sync.new.self all i.name-index _ c.sync.result (g.met.D.Disk.reads_left told i.disk)
          (still_there (d.files c.args.disk.now) (d.files i.disk) all i.name-index i.name-index _ c.loop-name-test.true (c.requires told) (i.invariant.syncs told))
          c.sync.ensures.ok c.sync.ensures.fault c.sync.ensures.time (i.invariant.syncs told) (i.invariant.run told);
      ran = ran_next d c.args.disk.now i.disk c.sync.new.self _ _ ⊥ (λ no. absurd no) i.invariant.ran (ran_call d i.disk c.sync.new.self c.sync.result _ c.sync.ensures.time c.sync.ensures.called);
    }

pub returns-clause-settled : goal.returns-clause-settled
returns-clause-settled g c = λ told k d lt. (c.loop-name.invariant.syncs told).settled k d (omega (arith, lt))

pub returns-clause-reads : goal.returns-clause-reads
returns-clause-reads g c = λ told. (c.loop-name.invariant.syncs told).reads

pub returns-clause-any_moment : goal.returns-clause-any_moment
returns-clause-any_moment g c = λ told. c.loop-name.invariant.run told

pub returns-clause-no_new : goal.returns-clause-no_new
returns-clause-no_new g c = λ told. none_new (g.D.Disk.files c.args.disk.now) (g.D.Disk.files c.loop-name.disk) (c.loop-name.invariant.syncs told).reads
