use Rattle.std.proofs.Common.{◌≡◌, ◌≤◌, ◌∙◌, ℕ, List, ◌++◌, ◌∷◌, [], length, sym, ap, subst, arith}
use Rattle.std.specs.VecDeque.{deque_capacity}
use Rattle.cq_queue.specs.declared.segment.QueueSegment.{QueueSegment}
use Rattle.cq_queue.specs.Ascending.{Ascend}
use Rattle.cq_queue.specs.Lists.{AreSegments, empty_numbers, put_empty}
use Rattle.cq_queue.proofs.Changes.{parts_push}
use Rattle.cq_queue.proofs.Emptied.{empties_ascend, empties_few, empties_push}
use Rattle.cq_queue.proofs.segments.Segments.push.Goals as goal

pub list_empty-requires-clause-rise : goal.list_empty-requires-clause-rise
list_empty-requires-clause-rise c = let s = c.args.self.now in subst Ascend (sym s.empty_are) (empties_ascend s.list.items s.are.1)

pub list_empty-requires-clause-room : goal.list_empty-requires-clause-room
list_empty-requires-clause-room c = let s = c.args.self.now in
    let long = s.list.ok.0 in
    let same = ap length s.empty_are in
    let few = empties_few s.list.items in
    let room = c.requires.room.empty in
    omega (arith, long, same, few, room)

pub invariant_of-self : goal.invariant_of-self
invariant_of-self c = let s = c.args.self.now in
    let long = s.list.ok.0 in
    let long_new = c.push_back_reserved.new.self.ok.0 in
    let more = c.push_back_reserved.ensures.len in
    let spare = c.requires.room.empty in
    let capacity = c.list_empty.ensures.capacity in
    let room : length c.push_back_reserved.new.self.items ≤ deque_capacity c.list_empty.new.numbers = omega (arith, long, long_new, more, spare, capacity) in record {
      empty_are =
          c.list_empty.ensures.items ∙ ap (put_empty c.args.segment) s.empty_are ∙ sym (empties_push s.list.items c.args.segment c.requires.next) ∙ sym (ap empty_numbers c.push_back_reserved.ensures.items);
      room = room;
      are = subst (AreSegments s.queue) (sym c.push_back_reserved.ensures.items) (parts_push s.queue s.list.items c.args.segment s.are c.requires.own c.requires.next);
    }
