use Rattle.std.proofs.Common.{◌≡◌, ◌≤◌, ◌∙◌, ℕ, length, set, Some, refl, sym, ap, subst, arith}
use Rattle.std.specs.VecDeque.{deque_capacity}
use Rattle.std.proofs.lemmas.List.{length-set}
use Rattle.cq_queue.specs.Ascending.{Ascend}
use Rattle.cq_queue.specs.Lists.{put_empty}
use Rattle.cq_queue.proofs.Emptied.{can_full, empties_ascend, empties_set, fewer_full}
use Rattle.std.specs.Prelude.{slice_get}
use Rattle.std.proofs.lemmas.Option.{slice_get_read}
use Rattle.cq_disk.specs.Moments.{on_ok}
use Rattle.cq_queue.specs.declared.segment.QueueSegment.{QueueSegment}
use Rattle.cq_queue.specs.QueueSegment.{HasLost, IsLess, LosesOnly, SameSmall}
use Rattle.cq_queue.proofs.Changes.{some_same, all_at, set_all, set_rise, set_changed}
use Rattle.cq_queue.proofs.segments.Segments.gone.Goals as goal

pub list_empty-requires-clause-rise : goal.list_empty-requires-clause-rise
list_empty-requires-clause-rise g c = let s = c.args.self.now in subst Ascend (sym s.empty_are) (empties_ascend s.list.items s.are.1)

pub list_empty-requires-clause-room : goal.list_empty-requires-clause-room
list_empty-requires-clause-room g c =
    let s = c.args.self.now in
    let x = c.index_mut-segment.result.now in
    let is : slice_get s.list.items c.args.index ≡ Some x = slice_get_read s.list.items (length s.list.items) c.args.index x refl c.requires.entries.within c.index_mut-segment.ensures.value in
    let few = fewer_full s.list.items c.args.index x is (can_full x c.args.at.now (c.requires.entries.can x is)) in
    let same = ap length s.empty_are in
    let room = s.room in
    omega (arith, few, same, room)

pub invariant_of-self : goal.invariant_of-self
invariant_of-self g c = let d = g.D.Disk in
    let s = c.args.self.now in
    let i = c.args.index in
    let x = c.index_mut-segment.result.now in
    let r = c.gone-result.new.self in
    let is : slice_get s.list.items i ≡ Some x = slice_get_read s.list.items (length s.list.items) i x refl c.requires.entries.within c.index_mut-segment.ensures.value in
    let number = c.gone-result.ensures.same.number in
    let full = can_full x c.args.at.now (c.requires.entries.can x is) in
    let long = length-set s.list.items i r in
    let was = s.room in
    let capacity = c.list_empty.ensures.capacity in
    let room : length (set s.list.items i r) ≤ deque_capacity c.list_empty.new.numbers = omega (arith, long, was, capacity) in
    record {
      empty_are = c.list_empty.ensures.items ∙ ap (put_empty r) s.empty_are ∙ sym (empties_set s.list.items i x r s.are.1 is number.number full);
      room = room;
      are = (
        set_all (λ (q : QueueSegment). q.queue ≡ s.queue) s.list.items i r (number.queue ∙ all_at (λ (q : QueueSegment). q.queue ≡ s.queue) s.list.items i x is s.are.0) s.are.0,
        set_rise s.list.items i x r is number.number s.are.1,
      );
    }

pub returns-clause-at : goal.returns-clause-at
returns-clause-at g c = let d = g.D.Disk in
    let s = c.args.self.now in
    let x = c.index_mut-segment.result.now in
    let is : slice_get s.list.items c.args.index ≡ Some x = slice_get_read s.list.items (length s.list.items) c.args.index x refl c.requires.entries.within c.index_mut-segment.ensures.value in
    on_ok c.gone-result.result (λ knows told. set_changed x (d.files c.args.disk.now) (d.files c.gone-result.new.disk) (λ n not_small not_index. (c.gone-result.ensures.touches told).others n not_index) s.queue s.list.items c.args.index c.gone-result.new.self is s.are.1 c.gone-result.ensures.same.number.queue c.gone-result.ensures.same.number.number (knows told) (c.requires.at told)) c.gone-result.ensures.knows

pub returns-clause-list : goal.returns-clause-list
returns-clause-list g c = let d = g.D.Disk in
    let s = c.args.self.now in
    let x = c.index_mut-segment.result.now in
    let is : slice_get s.list.items c.args.index ≡ Some x = slice_get_read s.list.items (length s.list.items) c.args.index x refl c.requires.entries.within c.index_mut-segment.ensures.value in
    λ p isp. record {
      other = c.gone-result.new.self;
      list = refl;
      same = subst (λ (r : QueueSegment). SameSmall r c.gone-result.new.self) (some_same x p (sym is ∙ isp)) c.gone-result.ensures.same;
    }

pub returns-clause-shown : goal.returns-clause-shown
returns-clause-shown g c = let d = g.D.Disk in
    let s = c.args.self.now in
    let x = c.index_mut-segment.result.now in
    let is : slice_get s.list.items c.args.index ≡ Some x = slice_get_read s.list.items (length s.list.items) c.args.index x refl c.requires.entries.within c.index_mut-segment.ensures.value in
    on_ok c.gone-result.result (λ less p isp. record {
      less = c.gone-result.new.self;
      list = refl;
      is = subst (λ (r : QueueSegment). IsLess r c.gone-result.new.self c.args.at.now) (some_same x p (sym is ∙ isp)) less;
    }) c.gone-result.ensures.shown

pub returns-clause-ok : goal.returns-clause-ok
returns-clause-ok g c = let d = g.D.Disk in
    let s = c.args.self.now in
    let x = c.index_mut-segment.result.now in
    let is : slice_get s.list.items c.args.index ≡ Some x = slice_get_read s.list.items (length s.list.items) c.args.index x refl c.requires.entries.within c.index_mut-segment.ensures.value in
    on_ok c.gone-result.result (λ lost told p isp. subst (λ (r : QueueSegment). HasLost d r c.args.disk.now c.gone-result.new.disk c.args.at.now) (some_same x p (sym is ∙ isp)) (lost told)) c.gone-result.ensures.ok

pub returns-clause-touches : goal.returns-clause-touches
returns-clause-touches g c = λ told p isp.
    let d = g.D.Disk in
    let s = c.args.self.now in
    let x = c.index_mut-segment.result.now in
    let is : slice_get s.list.items c.args.index ≡ Some x = slice_get_read s.list.items (length s.list.items) c.args.index x refl c.requires.entries.within c.index_mut-segment.ensures.value in
    subst (λ (r : QueueSegment). LosesOnly d r c.args.disk.now c.gone-result.new.disk c.args.at.now) (some_same x p (sym is ∙ isp)) (c.gone-result.ensures.touches told)
