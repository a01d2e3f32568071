use Rattle.cq_disk.specs.Moments.{on_ok}
use Rattle.cq_queue.proofs.Runs.{Tells}
use Rattle.cq_queue.proofs.Steps.{records_touch, records_next}
use Rattle.cq_queue.proofs.segment.QueueSegment.append_records.Goals as goal

pub returns-clause-touches : goal.returns-clause-touches
returns-clause-touches g c = λ told.
    let t : Tells g.D.Disk = record { only = g.met.D.Disk.now_only told; each = g.met.D.Disk.now_each told; readable = g.met.D.Disk.reads_left told } in
    records_touch g.D.Disk t c.args.self.now c.make_small.new.self c.args.disk.now c.make_small.new.disk c.extend_small.new.disk c.make_small.ensures.same (c.make_small.ensures.touches told) (c.in_ok-make_small.ensures.ok told) (c.extend_small.ensures.touches told)

pub returns-clause-ok : goal.returns-clause-ok
returns-clause-ok g c = on_ok c.extend_small.result (λ recorded told.
    let t : Tells g.D.Disk = record { only = g.met.D.Disk.now_only told; each = g.met.D.Disk.now_each told; readable = g.met.D.Disk.reads_left told } in
    records_next g.D.Disk t c.args.self.now c.make_small.new.self c.args.disk.now c.make_small.new.disk c.extend_small.new.disk c.args.records.now c.make_small.ensures.same c.in_ok-make_small.ensures.shown (c.in_ok-make_small.ensures.ok told) (recorded told)) c.extend_small.ensures.ok
