use Rattle.std.proofs.Common.{◌≡◌, ◌≤◌, ◌<◌, ◌∙◌, ℕ, List, ◌++◌, ◌∷◌, [], length, sym, ap, subst, arith}
use Rattle.std.specs.VecDeque.{deque_capacity, deque_len}
use Rattle.cq_queue.specs.declared.segment.QueueSegment.{QueueSegment}
use Rattle.cq_queue.specs.Ascending.{Ascend, removed}
use Rattle.cq_queue.specs.Lists.{AreSegments, empty_numbers}
use Rattle.cq_queue.proofs.Changes.{parts_front}
use Rattle.cq_queue.proofs.Emptied.{empties_ascend, empties_front}
use Rattle.cq_queue.proofs.segments.Segments.pop.Goals as goal

pub take_out-requires : goal.take_out-requires
take_out-requires c = let s = c.args.self.now in subst Ascend (sym s.empty_are) (empties_ascend s.list.items s.are.1)

pub invariant_of-self-2 : goal.invariant_of-self-2
invariant_of-self-2 c = let s = c.args.self.now in
    let last = c.in_ok-last.last in
    let front = c.pop_back.new.self.items in
    let whole : s.list.items ≡ front ++ last ∷ [] = c.in_ok-last.ensures.items in
    let parts = parts_front s.queue front last (subst (AreSegments s.queue) whole s.are) in
    let long = s.list.ok.0 in
    let long_front = c.pop_back.new.self.ok.0 in
    let fewer = c.in_ok-last.ensures.cases in
    let was = s.room in
    let capacity = c.take_out.ensures.capacity in
    let room : length front ≤ deque_capacity c.take_out.new.numbers = omega (arith, long, long_front, fewer, was, capacity) in
    record {
      empty_are = c.take_out.ensures.items ∙ ap (removed last.number) s.empty_are ∙ ap (λ (ps : List QueueSegment). removed last.number (empty_numbers ps)) whole ∙ sym (empties_front front last parts.1.1);
      room = room;
      are = parts.0;
    }

pub returns-clause-follows : goal.returns-clause-follows
returns-clause-follows c = let s = c.args.self.now in
    let last = c.in_ok-last.last in
    let front = c.pop_back.new.self.items in
    let whole : s.list.items ≡ front ++ last ∷ [] = c.in_ok-last.ensures.items in
    let parts = parts_front s.queue front last (subst (AreSegments s.queue) whole s.are) in
    let long = s.list.ok.0 in
    let fits = s.list.small.1 in
    let fewer = c.in_ok-last.ensures.cases in
    let was = s.room in
    let capacity = c.take_out.ensures.capacity in
    let list_capacity = c.pop_back.ensures.capacity in
    let list_room : deque_len c.pop_back.new.self < deque_capacity c.pop_back.new.self = omega (arith, fits, fewer, list_capacity) in
    let empty_room : deque_len c.pop_back.new.self < deque_capacity c.take_out.new.numbers = omega (arith, long, fewer, was, capacity) in
    record { room = record { list = list_room; empty = empty_room }; own = parts.1.0; next = parts.1.1 }
