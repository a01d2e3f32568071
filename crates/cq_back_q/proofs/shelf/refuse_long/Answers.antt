use Rattle.cq_back_q.proofs.Opened.{reads_then}
use Rattle.cq_back_q.proofs.Quiet.{call_reads}
use Rattle.cq_back_q.proofs.shelf.refuse_long.Goals as goal

pub returns-clause-reads : goal.returns-clause-reads
returns-clause-reads g c = λ told. let d = g.D.Disk in
    let now_only = g.met.D.Disk.now_only told in
    reads_then d now_only c.args.disk.now c.len.new.self c.read.new.self
    (call_reads d now_only c.args.disk.now c.len.new.self c.len.ensures.time (c.len.ensures.files told))
    (call_reads d now_only c.len.new.self c.read.new.self c.read.ensures.time (c.read.ensures.files told))
