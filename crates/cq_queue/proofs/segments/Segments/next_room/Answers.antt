use Rattle.std.proofs.Common.{◌≡◌, ◌∙◌, ◌-◌, ℕ, Bool, List, Some, length, sym, ap, arith}
use Rattle.std.specs.Prelude.{slice_get}
use Rattle.cq_queue.specs.declared.segment.QueueSegment.{QueueSegment}
use Rattle.cq_queue.specs.Tied.{Pick}
use Rattle.cq_queue.proofs.Picked.{got_last, pick_at}
use Rattle.cq_queue.proofs.segments.Segments.next_room.Goals as goal

pub returns-then-has_room : goal.returns-then-has_room
returns-then-has_room c =
    let s = c.args.self.now in
    let x = c.in-Some.last.now in
    let is : slice_get s.list.items (length s.list.items - 1) ≡ Some x = sym c.in-Some.ensures.value in
    let pick = got_last s.most s.list.items x is ∙ ap (λ (b : Bool). pick_at b x) (sym c.has_room.ensures ∙ c.if-has_room.true) in
    ap (λ (n : ℕ). s.most - n) (c.count.ensures.count ∙ sym (ap (λ (p : Pick). p.count) pick))

pub returns-else-has_room : goal.returns-else-has_room
returns-else-has_room c =
    let s = c.args.self.now in
    let x = c.in-Some.last.now in
    let is : slice_get s.list.items (length s.list.items - 1) ≡ Some x = sym c.in-Some.ensures.value in
    let pick = got_last s.most s.list.items x is ∙ ap (λ (b : Bool). pick_at b x) (sym c.has_room.ensures ∙ c.if-has_room.false) in
    let none : s.most ≡ s.most - 0 = omega arith in
    none ∙ ap (λ (n : ℕ). s.most - n) (sym (ap (λ (p : Pick). p.count) pick))
