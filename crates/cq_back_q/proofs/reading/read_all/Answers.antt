use Rattle.std.proofs.Common.{rules, ◌≡◌, ◌<◌, Some, length, refl, sym, arith}
use Rattle.std.specs.Prelude.{slice_get}
use Rattle.std.proofs.lemmas.Option.{slice_get_read}
use Rattle.cq_disk.specs.RunLemmas.{ran_next}
use Rattle.cq_back_q.proofs.Going.{misread_on, read_on}
use Rattle.cq_back_q.proofs.Walking.{are_earlier, index_named, know_among, listing_next}
use Rattle.cq_back_q.proofs.reading.read_all.Goals as goal

pub read_segment-requires-clause-index : goal.read_segment-requires-clause-index
read_segment-requires-clause-index g c =
    let segments = c.args.segments.now in
    let l = c.loop-index in
    let s = c.index-segments-index.result in
    let lt : l.index < length segments = omega (arith, c.loop-index-test.true, l.auto.index-end) in
    let is : slice_get segments l.index ≡ Some s = slice_get_read segments (length segments) l.index s refl lt c.index-segments-index.is in
    index_named c.args.queue segments l.index s c.requires.indexes is

pub read_segment-requires-clause-told : goal.read_segment-requires-clause-told
read_segment-requires-clause-told g c = λ told.
    let d = g.D.Disk in
    let segments = c.args.segments.now in
    let l = c.loop-index in
    let s = c.index-segments-index.result in
    let lt : l.index < length segments = omega (arith, c.loop-index-test.true, l.auto.index-end) in
    let is : slice_get segments l.index ≡ Some s = slice_get_read segments (length segments) l.index s refl lt c.index-segments-index.is in
    know_among c.args.queue segments c.args.stores.now l.index s (d.files c.args.disk.now) (d.files l.disk) (λ j n. (l.invariant.reads told).files n j) is (c.requires.read told)

pub read_segment-requires-clause-read : goal.read_segment-requires-clause-read
read_segment-requires-clause-read g c =
    let d = g.D.Disk in
    let segments = c.args.segments.now in
    let l = c.loop-index in
    let s = c.index-segments-index.result in
    let lt : l.index < length segments = omega (arith, c.loop-index-test.true, l.auto.index-end) in
    let is : slice_get segments l.index ≡ Some s = slice_get_read segments (length segments) l.index s refl lt c.index-segments-index.is in
    record {
      read = read_on d.tells c.args.queue (d.files c.args.disk.now) (d.files l.disk) (λ told. (λ j n. sym ((l.invariant.reads told).files n) j)) l.reader.taken l.invariant.read;
      before = are_earlier c.args.queue segments l.index s l.reader.taken c.requires.indexes is l.invariant.listing;
    }

pub returns-in-Err-clause-damaged : goal.returns-in-Err-clause-damaged
returns-in-Err-clause-damaged g c =
    let d = g.D.Disk in
    let l = c.loop-index in
    misread_on d.tells c.args.queue (d.files l.disk) (d.files c.args.disk.now) (λ told. (λ j n. (l.invariant.reads told).files n j)) c.in-Err.error c.in-Err.ensures.damaged

pub loop-index-preserved : goal.loop-index-preserved
loop-index-preserved g c =
    let d = g.D.Disk in
    let segments = c.args.segments.now in
    let l = c.loop-index in
    let s = c.index-segments-index.result in
    let start = d.files c.args.disk.now in
    let new = c.read_segment.new in
    let lt : l.index < length segments = omega (arith, c.loop-index-test.true, l.auto.index-end) in
    let is : slice_get segments l.index ≡ Some s = slice_get_read segments (length segments) l.index s refl lt c.index-segments-index.is in
    let more = c.in-Ok.ensures.taken in
    record {
      read = read_on d.tells c.args.queue (d.files l.disk) start (λ told. (λ j n. (l.invariant.reads told).files n j)) new.reader.taken more.read;
      listing = listing_next d.tells c.args.queue (d.files l.disk) segments l.index s l.reader.taken new.reader.taken is l.invariant.listing more;
      reads = search rules;
      ran = ran_next d c.args.disk.now l.disk new.disk _ _ ⊥ (λ no. absurd no) l.invariant.ran c.in-Ok.ensures.ran;
    }
