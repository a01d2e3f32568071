use Rattle.std.proofs.Common.{length}
use Rattle.cq_disk.specs.Moments.{on_ok}
use Rattle.cq_queue.proofs.Runs.{Tells, only_stays}
use Rattle.cq_queue.proofs.Steps.{entries_touch, entries_next, more_next}
use Rattle.cq_queue.proofs.segment.QueueSegment.add_entries.Goals as goal

pub returns-in_err-make_index-clause-touches : goal.returns-in_err-make_index-clause-touches
returns-in_err-make_index-clause-touches g c = λ told.
    let t : Tells g.D.Disk = record { only = g.met.D.Disk.now_only told; each = g.met.D.Disk.now_each told; readable = g.met.D.Disk.reads_left told } in
    let s = c.args.self.now in
    let touches = c.make_index.ensures.touches told in
    record { others = touches.others; any_moment = λ sharing ms will. only_stays g.D.Disk t c.args.disk.now c.make_index.new.disk s.queue sharing ms touches.any_moment }

pub returns-clause-touches : goal.returns-clause-touches
returns-clause-touches g c = λ told.
    let t : Tells g.D.Disk = record { only = g.met.D.Disk.now_only told; each = g.met.D.Disk.now_each told; readable = g.met.D.Disk.reads_left told } in
    entries_touch g.D.Disk t c.args.self.now c.make_index.new.self c.args.disk.now c.make_index.new.disk c.extend_index.new.disk c.args.entries.now c.make_index.ensures.same (c.make_index.ensures.touches told) (c.in_ok-make_index.ensures.ok told) (c.extend_index.ensures.touches told)

pub returns-clause-ok : goal.returns-clause-ok
returns-clause-ok g c = on_ok c.extend_index.result (λ listed told.
    let t : Tells g.D.Disk = record { only = g.met.D.Disk.now_only told; each = g.met.D.Disk.now_each told; readable = g.met.D.Disk.reads_left told } in
    entries_next g.D.Disk t c.args.self.now c.make_index.new.self c.args.disk.now c.make_index.new.disk c.extend_index.new.disk c.args.entries.now c.make_index.ensures.same (c.make_index.ensures.touches told) (c.in_ok-make_index.ensures.ok told) c.in_ok-make_index.ensures.shown (listed told)) c.extend_index.ensures.ok

pub returns-clause-shown : goal.returns-clause-shown
returns-clause-shown g c = on_ok c.extend_index.result (λ more. more_next c.args.self.now c.make_index.new.self c.extend_index.new.self (length c.args.entries.now) c.make_index.ensures.same c.in_ok-make_index.ensures.shown c.extend_index.ensures.same more) c.extend_index.ensures.shown
