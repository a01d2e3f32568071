use Rattle.std.proofs.Common.{sym, subst}
use Rattle.cq_small.specs.Store.{name_of as store_name}
use Rattle.cq_index.specs.Segments.{present_of}
use Rattle.cq_bulk.specs.Entries.{AreRead}
use Rattle.cq_folder.specs.Held.{as_read}
use Rattle.cq_back_q.specs.declared.error.BackError.{BackError}
use Rattle.cq_back_q.specs.Damage.{IfDamaged, IsMisread}
use Rattle.cq_back_q.specs.Reading.{KnowBoth}
use Rattle.cq_back_q.proofs.Going.{misread_err, misread_in, read_later, read_on}
use Rattle.cq_back_q.proofs.segment.read_beside.Goals as goal

pub take_all-requires-clause-told : goal.take_all-requires-clause-told
take_all-requires-clause-told g c = λ told.
    let d = g.D.Disk in
    let s = c.args.segment.now in
    let t = c.args.store.now in
    let reads = c.in-Ok.ensures.reads told in
    record {
      know = subst (KnowBoth s t) (λ j n. sym (reads.files n) j) (c.requires.told told);
      window_is = c.clear.ensures (d.files c.present_entries.new.disk (store_name t));
    }

pub take_all-requires-clause-read : goal.take_all-requires-clause-read
take_all-requires-clause-read g c =
    let d = g.D.Disk in
    record {
      read = read_on d.tells c.args.queue (d.files c.args.disk.now) (d.files c.present_entries.new.disk) (λ told. (λ j n. sym ((c.in-Ok.ensures.reads told).files n) j)) c.args.reader.now.taken c.requires.read.read;
      before = c.requires.read.before;
    }

pub take_all-requires-clause-entries : goal.take_all-requires-clause-entries
take_all-requires-clause-entries g c =
    let d = g.D.Disk in
    let s = c.args.segment.now in
    read_later d s c.args.disk.now c.present_entries.new.disk c.deref.result.now (λ told. (c.in-Ok.ensures.reads told).files) (subst (AreRead d s c.args.disk.now) (sym c.deref.ensures.value) c.in-Ok.ensures.entries)

pub returns-in-Ok-clause-damaged : goal.returns-in-Ok-clause-damaged
returns-in-Ok-clause-damaged g c =
    let d = g.D.Disk in
    misread_err d.tells c.args.queue (d.files c.present_entries.new.disk) (d.files c.args.disk.now) (λ told. (λ j n. (c.in-Ok.ensures.reads told).files n j)) c.take_all.result c.take_all.ensures.damaged

pub returns-in-Err-clause-damaged : goal.returns-in-Err-clause-damaged
returns-in-Err-clause-damaged g c =
    let d = g.D.Disk in
    let files = d.files c.args.disk.now in
    subst (λ (error : BackError). IfDamaged error (IsMisread d.tells c.args.queue (as_read files))) (sym c.in_index.ensures) (misread_in d.tells c.args.queue c.number.result files (present_of c.args.segment.now) c.in-Err.error c.in-Err.ensures.damaged)
