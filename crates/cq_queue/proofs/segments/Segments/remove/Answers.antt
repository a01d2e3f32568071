use Rattle.std.proofs.Common.{◌≡◌, ◌≤◌, ◌+◌, ◌∙◌, ℕ, List, length, Some, refl, sym, ap, subst, arith}
use Rattle.cq_queue.specs.Ascending.{Ascend, removed}
use Rattle.cq_queue.proofs.Emptied.{empties_ascend, empties_without}
use Rattle.std.specs.Prelude.{slice_get}
use Rattle.std.specs.VecDeque.{deque_capacity}
use Rattle.std.proofs.lemmas.Option.{slice_get_read}
use Rattle.cq_disk.specs.Moments.{on_ok}
use Rattle.cq_queue.specs.declared.segment.QueueSegment.{QueueSegment}
use Rattle.cq_queue.specs.QueueSegment.{KnowsFiles, RemovesOnly, is_empty, removal_calls}
use Rattle.cq_queue.specs.Lists.{AreAt, AreSegments, empty_numbers}
use Rattle.cq_queue.proofs.Changes.{some_same, all_at, parts_without, without_changed}
use Rattle.cq_queue.proofs.segments.Segments.remove.Goals as goal

pub take_out-requires : goal.take_out-requires
take_out-requires g c = let s = c.args.self.now in subst Ascend (sym s.empty_are) (empties_ascend s.list.items s.are.1)

pub invariant_of-self : goal.invariant_of-self
invariant_of-self g c = let s = c.args.self.now in
    let i = c.args.index in
    let x = c.in-Some.segment in
    let ps = s.list.items in
    let is : slice_get ps i ≡ Some x = slice_get_read ps (length ps) i x refl c.requires.over.within c.in-Some.ensures.value in
    let long = s.list.ok.0 in
    let long_new = c.remove.new.self.ok.0 in
    let fewer = c.in-Some.ensures.len in
    let was = s.room in
    let capacity = c.take_out.ensures.capacity in
    let room : length c.remove.new.self.items ≤ deque_capacity c.take_out.new.numbers = omega (arith, long, long_new, fewer, was, capacity) in
    record {
      empty_are = c.take_out.ensures.items ∙ ap (removed x.number) s.empty_are
          ∙ sym (empties_without ps i x s.are.1 is (ap is_empty (c.requires.over.over x is))) ∙ sym (ap empty_numbers c.in-Some.ensures.items);
      room = room;
      are = subst (AreSegments s.queue) (sym c.in-Some.ensures.items) (parts_without s.queue ps i s.are);
    }

pub remove-requires-in-Some-clause-knows : goal.remove-requires-in-Some-clause-knows
remove-requires-in-Some-clause-knows g c = λ told.
    let s = c.args.self.now in
    let x = c.in-Some.segment in
    let is : slice_get s.list.items c.args.index ≡ Some x = slice_get_read s.list.items (length s.list.items) c.args.index x refl c.requires.over.within c.in-Some.ensures.value in
    all_at (λ (r : QueueSegment). KnowsFiles r (g.D.Disk.files c.args.disk.now)) s.list.items c.args.index x is (c.requires.at told).each

pub remove-requires-in-Some-clause-over : goal.remove-requires-in-Some-clause-over
remove-requires-in-Some-clause-over g c =
    let s = c.args.self.now in
    let x = c.in-Some.segment in
    let is : slice_get s.list.items c.args.index ≡ Some x = slice_get_read s.list.items (length s.list.items) c.args.index x refl c.requires.over.within c.in-Some.ensures.value in
    c.requires.over.over x is

pub returns-in-Some-clause-at : goal.returns-in-Some-clause-at
returns-in-Some-clause-at g c = let d = g.D.Disk in
    let s = c.args.self.now in
    let x = c.in-Some.segment in
    let is : slice_get s.list.items c.args.index ≡ Some x = slice_get_read s.list.items (length s.list.items) c.args.index x refl c.requires.over.within c.in-Some.ensures.value in
    let own : x.queue ≡ s.queue = all_at (λ (r : QueueSegment). r.queue ≡ s.queue) s.list.items c.args.index x is s.are.0 in
    on_ok c.remove-in-Some.result (λ none told. subst (λ (ps : List QueueSegment). AreAt s.queue ps (d.files c.remove-in-Some.new.disk)) (sym c.in-Some.ensures.items)
    (without_changed x (d.files c.args.disk.now) (d.files c.remove-in-Some.new.disk) (c.remove-in-Some.ensures.touches told).others s.queue s.list.items c.args.index is s.are.1 own ((none told).index, (none told).small) (c.requires.at told))) c.remove-in-Some.ensures.none

pub returns-in-Some-clause-touches : goal.returns-in-Some-clause-touches
returns-in-Some-clause-touches g c = λ told p isp.
    let d = g.D.Disk in
    let s = c.args.self.now in
    let x = c.in-Some.segment in
    let is : slice_get s.list.items c.args.index ≡ Some x = slice_get_read s.list.items (length s.list.items) c.args.index x refl c.requires.over.within c.in-Some.ensures.value in
    subst (λ (r : QueueSegment). RemovesOnly d r c.args.disk.now c.remove-in-Some.new.disk) (some_same x p (sym is ∙ isp)) (c.remove-in-Some.ensures.touches told)

pub returns-in-Some-clause-calls : goal.returns-in-Some-clause-calls
returns-in-Some-clause-calls g c = let d = g.D.Disk in
    let s = c.args.self.now in
    let x = c.in-Some.segment in
    let is : slice_get s.list.items c.args.index ≡ Some x = slice_get_read s.list.items (length s.list.items) c.args.index x refl c.requires.over.within c.in-Some.ensures.value in
    on_ok c.remove-in-Some.result (λ calls p isp. calls ∙ ap (λ (r : QueueSegment). d.moment c.args.disk.now + removal_calls r) (some_same x p (sym is ∙ isp))) c.remove-in-Some.ensures.calls
