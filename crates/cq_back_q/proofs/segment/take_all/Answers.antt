use Rattle.std.proofs.Common.{rules, ◌∙◌, ◌<◌, length, sym, ap, arith}
use Rattle.cq_disk.specs.RunLemmas.{ran_next}
use Rattle.cq_small.specs.Store.{small_name}
use Rattle.cq_index.specs.Segments.{present_of}
use Rattle.cq_back_q.proofs.Going.{misread_on, next_before, next_more, next_taken, read_on}
use Rattle.cq_back_q.proofs.segment.take_all.Goals as goal

pub take_in-requires-clause-next : goal.take_in-requires-clause-next
take_in-requires-clause-next g c =
    let l = c.loop-index in
    let lt : l.index < length c.args.entries.now = omega (arith, c.loop-index-test.true, l.auto.index-end) in
    record { valid = c.requires.entries.valid l.index _ lt; named = c.requires.pair.small_is ∙ ap (small_name c.args.queue) (sym c.number.ensures) }

pub take_in-requires-clause-told : goal.take_in-requires-clause-told
take_in-requires-clause-told g c = λ told.
    let d = g.D.Disk in
    let l = c.loop-index in
    let lt : l.index < length c.args.entries.now = omega (arith, c.loop-index-test.true, l.auto.index-end) in
    next_taken d c.args.queue c.number.result c.args.segment.now c.present.result.now c.present.ensures.same c.number.ensures l.index told c.args.disk.now (d.files l.disk) c.args.store.now l.reader.window c.args.entries.now _ (λ j n. (l.invariant.reads told).files n j) c.requires.pair (c.requires.told told).know c.requires.entries (l.invariant.window told) lt

pub take_in-requires-clause-read : goal.take_in-requires-clause-read
take_in-requires-clause-read g c =
    let d = g.D.Disk in
    let l = c.loop-index in
    let start = d.files c.args.disk.now in
    let lt : l.index < length (present_of c.args.segment.now) = omega (arith, c.loop-index-test.true, l.auto.index-end, c.requires.entries.len) in
    record {
      read = read_on d.tells c.args.queue start (d.files l.disk) (λ told. (λ j n. sym ((l.invariant.reads told).files n) j)) l.reader.taken l.invariant.taken.read;
      before = next_before d c.args.queue c.number.result c.args.segment.now c.present.result.now c.present.ensures.same c.number.ensures l.index start c.args.reader.now.taken l.reader.taken lt c.requires.read.before l.invariant.taken;
    }

pub returns-in-Err-clause-damaged : goal.returns-in-Err-clause-damaged
returns-in-Err-clause-damaged g c =
    let d = g.D.Disk in
    let l = c.loop-index in
    misread_on d.tells c.args.queue (d.files l.disk) (d.files c.args.disk.now) (λ told. (λ j n. (l.invariant.reads told).files n j)) c.in-Err.error c.in-Err.ensures.damaged

pub loop-index-preserved : goal.loop-index-preserved
loop-index-preserved g c =
    let d = g.D.Disk in
    let l = c.loop-index in
    let start = d.files c.args.disk.now in
    let lt : l.index < length (present_of c.args.segment.now) = omega (arith, c.loop-index-test.true, l.auto.index-end, c.requires.entries.len) in
    record {
      taken = next_more d c.args.queue c.number.result c.args.segment.now c.present.result.now c.present.ensures.same c.number.ensures l.index start (d.files l.disk) c.args.reader.now.taken l.reader.taken c.take_in.new.reader.taken (λ told. (λ j n. (l.invariant.reads told).files n j)) lt l.invariant.taken c.in-Ok.ensures.taken;
      window = search rules;
      reads = search rules;
      ran = ran_next d c.args.disk.now l.disk c.take_in.new.disk _ _ ⊥ (λ no. absurd no) l.invariant.ran c.in-Ok.ensures.ran;
    }
