use Rattle.cq_small.specs.Store.{small_name}
use Rattle.cq_queue.proofs.Runs.{Tells, nothing_touches}
use Rattle.cq_queue.proofs.segment.QueueSegment.add_records.Goals as goal

pub returns-then-is_empty-clause-touches : goal.returns-then-is_empty-clause-touches
returns-then-is_empty-clause-touches g c = λ told.
    let t : Tells g.D.Disk = record { only = g.met.D.Disk.now_only told; each = g.met.D.Disk.now_each told; readable = g.met.D.Disk.reads_left told } in
    let s = c.args.self.now in
    nothing_touches g.D.Disk t c.args.disk.now (small_name s.queue s.number)
