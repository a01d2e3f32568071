use Rattle.std.proofs.Common.{◌≡◌, ◌∙◌, length, Some, refl, sym, arith}
use Rattle.std.specs.Prelude.{slice_get}
use Rattle.std.proofs.lemmas.Option.{slice_get_read}
use Rattle.cq_queue.specs.QueueSegment.{present_of}
use Rattle.cq_queue.proofs.Trying.{can_lose, some_of}
use Rattle.cq_queue.proofs.tests.take_away.Goals as goal

pub gone-requires-clause-entries : goal.gone-requires-clause-entries
gone-requires-clause-entries g c =
    let list = c.args.segments.now.list.items in
    let x = c.in-Some.segment.now in
    let at = c.deref.result.now in
    let is : Some x ≡ slice_get list 0 = sym (slice_get_read list (length list) 0 x refl c.in-Some.ensures.item.3.0 c.in-Some.ensures.lookup) in
    let same : at ≡ present_of x = c.deref.ensures.value ∙ (c.in_ok-extend_from_slice.ensures.items ∙ search) in
    let can = can_lose list x at is same c.present.ensures.rising (let some = some_of _ c.is_empty.result c.is_empty.ensures c.if-is_empty.false in omega (arith, some, c.deref.ensures.len)) in
    record { within = can.0; can = can.1 }
