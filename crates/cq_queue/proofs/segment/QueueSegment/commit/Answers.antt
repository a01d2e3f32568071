use Rattle.std.proofs.Common.{length}
use Rattle.cq_disk.specs.Moments.{on_ok}
use Rattle.cq_queue.proofs.Runs.{Tells, only_stays}
use Rattle.cq_queue.proofs.Steps.{commit_touches, commit_has, more_all}
use Rattle.cq_queue.proofs.segment.QueueSegment.commit.Goals as goal

pub returns-in_err-add_records-clause-touches : goal.returns-in_err-add_records-clause-touches
returns-in_err-add_records-clause-touches g c = λ told.
    let t : Tells g.D.Disk = record { only = g.met.D.Disk.now_only told; each = g.met.D.Disk.now_each told; readable = g.met.D.Disk.reads_left told } in
    let s = c.args.self.now in
    let touches = c.add_records.ensures.touches told in
    record { others = λ n not_small not_index. touches.others n not_small; any_moment = λ sharing ms lays. only_stays g.D.Disk t c.args.disk.now c.add_records.new.disk s.queue sharing ms touches.any_moment }

pub returns-clause-touches : goal.returns-clause-touches
returns-clause-touches g c = λ told.
    let t : Tells g.D.Disk = record { only = g.met.D.Disk.now_only told; each = g.met.D.Disk.now_each told; readable = g.met.D.Disk.reads_left told } in
    commit_touches g.D.Disk t c.args.self.now c.add_records.new.self c.args.disk.now c.add_records.new.disk c.add_entries.new.disk c.args.records.now c.args.entries.now (c.requires.knows told) c.requires.batch.few c.add_records.ensures.same (c.add_records.ensures.touches told) (c.in_ok-add_records.ensures.ok told) (c.add_entries.ensures.touches told)

pub returns-clause-ok : goal.returns-clause-ok
returns-clause-ok g c = on_ok c.add_entries.result (λ listed told.
    let t : Tells g.D.Disk = record { only = g.met.D.Disk.now_only told; each = g.met.D.Disk.now_each told; readable = g.met.D.Disk.reads_left told } in
    commit_has g.D.Disk t c.args.self.now c.add_records.new.self c.args.disk.now c.add_records.new.disk c.add_entries.new.disk c.args.records.now c.args.entries.now (c.requires.knows told) c.requires.batch.few c.add_records.ensures.same (c.add_records.ensures.touches told) (c.in_ok-add_records.ensures.ok told) (c.add_entries.ensures.touches told) (listed told)) c.add_entries.ensures.ok

pub returns-clause-shown : goal.returns-clause-shown
returns-clause-shown g c = on_ok c.add_entries.result (λ more. more_all c.args.self.now c.add_records.new.self c.add_entries.new.self (length c.args.entries.now) (length c.args.records.now) c.add_records.ensures.same c.in_ok-add_records.ensures.shown c.add_entries.ensures.same more) c.add_entries.ensures.shown
