use Rattle.std.proofs.Common.{subst}
use Rattle.cq_index.specs.declared.error.SegmentError.{SegmentError}
use Rattle.cq_index.specs.Calls.{IsDamaged}
use Rattle.cq_index.specs.Opened.{IfDamaged}
use Rattle.cq_index.specs.Places.{index_name}
use Rattle.cq_back_q.proofs.Opened.{index_at, index_damaged}
use Rattle.cq_back_q.proofs.files.open_index.Goals as goal

pub returns-in-Ok-clause-at : goal.returns-in-Ok-clause-at
returns-in-Ok-clause-at g c = λ told.
    index_at c.in-Ok.segment (g.D.Disk.files c.args.disk.now (index_name c.args.queue c.args.number)) (c.requires.settled told) (c.in-Ok.ensures.segment told)

pub returns-in-Err-Damaged-clause-damaged : goal.returns-in-Err-Damaged-clause-damaged
returns-in-Err-Damaged-clause-damaged g c =
    let name = index_name c.args.queue c.args.number in
    let read = subst (λ (e : SegmentError). IfDamaged e (IsDamaged g.D.Disk name c.args.disk.now)) c.in-Err-Damaged.field-0-is c.in-Err-Damaged.ensures.damaged in
    index_damaged g.D.Disk.tells c.args.queue c.args.number (g.D.Disk.files c.args.disk.now) c.in-Err-Damaged.place c.in-Err-Damaged.found read.cause read.told
