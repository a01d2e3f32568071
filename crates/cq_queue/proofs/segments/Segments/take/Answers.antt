use Rattle.std.proofs.Common.{◌≡◌, ◌<◌, ◌≤◌, ◌^◌, ◌+◌, ◌∙◌, ℕ, Bool, false, true, List, ◌++◌, ◌∷◌, [], sym, ap, subst, arith}
use Rattle.std.specs.Prelude.{nat_lt}
use Rattle.std.specs.List.{AllByRecursion}
use Rattle.cq_queue.specs.declared.segment.QueueSegment.{QueueSegment}
use Rattle.cq_queue.specs.declared.segments.Segments.{Segments}
use Rattle.cq_queue.specs.QueueSegment.{IsNew, IsSame, count_of, reserved_of}
use Rattle.cq_queue.specs.Lists.{AreAt, AreBelow, AreSame}
use Rattle.cq_queue.specs.Lists.IsPicked.{First, Last, Next}
use Rattle.cq_queue.specs.Calls.{CanFollow}
use Rattle.cq_queue.proofs.Changes.{all_back, at_same, at_next, below_next, if_each, if_ok, if_only, if_three, on_err, lt_of, ge_of, same_parts}
use Rattle.cq_queue.proofs.segments.Segments.take.Goals as goal

pub overflow_add-number : goal.overflow_add-number
overflow_add-number c = let s = c.args.self.now in
    let last = c.in-Some.last in
    let front = c.pop.new.self.list.items in
    let small = (all_back (λ (p : QueueSegment). p.number < 2 ^ 63) front (last ∷ []) (subst (λ (ps : List QueueSegment). AllByRecursion (λ (p : QueueSegment). p.number < 2 ^ 63) ps) c.in-Some.ensures.last c.requires.numbers)).0 in
    omega (arith, small)

pub take_new-requires : goal.take_new-requires
take_new-requires c =
    let last = c.in-Some.last in
    let front = c.pop.new.self.list.items in
    let after : c.push.new.self.list.items ≡ front ++ last ∷ [] = c.push.ensures.list in
    subst (AreBelow (last.number + 1)) (sym after) (below_next front last (last.number + 1) c.in-Some.ensures.follows.next (λ i. last.number + 1))

pub take_new-requires-in-None : goal.take_new-requires-in-None
take_new-requires-in-None c = subst (AreBelow 0) (sym c.in-None.ensures.none.1) tt

pub returns-then-has_room-clause-taken : goal.returns-then-has_room-clause-taken
returns-then-has_room-clause-taken c = let s = c.args.self.now in
    let last = c.in-Some.last in
    let old = c.pop.new.self in
    let room : nat_lt (count_of last) s.most ≡ true = subst (λ (m : ℕ). nat_lt (count_of last) m ≡ true) c.pop.ensures.same.most (sym c.has_room.ensures ∙ c.if-has_room.true) in
    if_three c.take_last.result _ _ _ _ c.take_last.ensures.segment c.take_last.ensures.reserved c.take_last.ensures.ok
    (λ segment same reserved stays. record {
      picked = Last last (c.in-Some.ensures.last ∙ ap (λ (ps : List QueueSegment). ps ++ last ∷ []) (sym (ap (λ (v : Segments). v.list.items) stays))) same (lt_of (count_of last) s.most room);
      reserved = reserved;
      follows = subst (λ (v : Segments). CanFollow v segment) (sym stays) (record {
        room = c.in-Some.ensures.follows.room;
        own = same.number.queue ∙ c.in-Some.ensures.follows.own;
        next = subst (λ (n : ℕ). AreBelow n old.list.items) (sym same.number.number) c.in-Some.ensures.follows.next;
      });
    })

pub returns-then-has_room-clause-at : goal.returns-then-has_room-clause-at
returns-then-has_room-clause-at c = let s = c.args.self.now in
    let last = c.in-Some.last in
    let front = c.pop.new.self.list.items in
    if_ok c.take_last.result (IsSame last) _ _ c.take_last.ensures.segment c.take_last.ensures.ok
    (λ segment same stays files at. subst (λ (ps : List QueueSegment). AreAt s.queue (ps ++ segment ∷ []) files) (sym (ap (λ (v : Segments). v.list.items) stays))
    (at_same s.queue front last segment files same (subst (λ (ps : List QueueSegment). AreAt s.queue ps files) c.in-Some.ensures.last at)))

pub returns-else-has_room-clause-taken : goal.returns-else-has_room-clause-taken
returns-else-has_room-clause-taken c = let s = c.args.self.now in
    let last = c.in-Some.last in
    let front = c.pop.new.self.list.items in
    let queue : c.push.new.self.queue ≡ s.queue = c.push.ensures.same.queue ∙ c.pop.ensures.same.queue in
    let after : c.take_new.new.self.list.items ≡ front ++ last ∷ [] = c.take_new.ensures.list ∙ c.push.ensures.list in
    let full : nat_lt (count_of last) s.most ≡ false = subst (λ (m : ℕ). nat_lt (count_of last) m ≡ false) c.pop.ensures.same.most (sym c.has_room.ensures ∙ c.if-has_room.false) in
    if_each c.take_new.result (IsNew c.push.new.self.queue (last.number + 1)) (λ segment. c.args.count ≤ reserved_of segment) (CanFollow c.take_new.new.self) _ c.take_new.ensures.new c.take_new.ensures.reserved c.take_new.ensures.follows
    (λ segment new reserved follows. record {
      picked = Next front last c.in-Some.ensures.last (ge_of (count_of last) s.most full) (subst (AreSame s.list.items) (c.in-Some.ensures.last ∙ sym after) (same_parts s.list.items))
          (subst (λ (q : ℕ). IsNew q (last.number + 1) segment) queue new);
      reserved = reserved;
      follows = follows;
    })

pub returns-else-has_room-clause-at : goal.returns-else-has_room-clause-at
returns-else-has_room-clause-at c = let s = c.args.self.now in
    let last = c.in-Some.last in
    let front = c.pop.new.self.list.items in
    let queue : c.push.new.self.queue ≡ s.queue = c.push.ensures.same.queue ∙ c.pop.ensures.same.queue in
    let after : c.take_new.new.self.list.items ≡ front ++ last ∷ [] = c.take_new.ensures.list ∙ c.push.ensures.list in
    if_only c.take_new.result (IsNew c.push.new.self.queue (last.number + 1)) _ c.take_new.ensures.new (λ segment fresh files at. let new = subst (λ (q : ℕ). IsNew q (last.number + 1) segment) queue fresh in
    subst (λ (ps : List QueueSegment). AreAt s.queue (ps ++ segment ∷ []) files) (sym after)
    (at_next s.queue (last.number + 1) (front ++ last ∷ []) segment files new (below_next front last segment.number c.in-Some.ensures.follows.next new.number) (subst (λ (ps : List QueueSegment). AreAt s.queue ps files) c.in-Some.ensures.last at)))

pub returns-else-has_room-clause-err : goal.returns-else-has_room-clause-err
returns-else-has_room-clause-err c = let s = c.args.self.now in
    let after = c.take_new.ensures.list ∙ c.push.ensures.list in
    on_err c.take_new.result (AreSame s.list.items c.take_new.new.self.list.items) (subst (AreSame s.list.items) (c.in-Some.ensures.last ∙ sym after) (same_parts s.list.items))

pub returns-in-None-clause-taken : goal.returns-in-None-clause-taken
returns-in-None-clause-taken c = let s = c.args.self.now in
    let none = c.in-None.ensures.none in
    if_each c.take_new-in-None.result (IsNew c.pop.new.self.queue 0) (λ segment. c.args.count ≤ reserved_of segment) (CanFollow c.take_new-in-None.new.self) _ c.take_new-in-None.ensures.new c.take_new-in-None.ensures.reserved c.take_new-in-None.ensures.follows
    (λ segment new reserved follows. record {
      picked = First none.0 (c.take_new-in-None.ensures.list ∙ none.1) (subst (λ (q : ℕ). IsNew q 0 segment) c.pop.ensures.same.queue new);
      reserved = reserved;
      follows = follows;
    })

pub returns-in-None-clause-at : goal.returns-in-None-clause-at
returns-in-None-clause-at c = let s = c.args.self.now in
    let none = c.in-None.ensures.none in
    if_only c.take_new-in-None.result (IsNew c.pop.new.self.queue 0) _ c.take_new-in-None.ensures.new (λ segment fresh files at. let new = subst (λ (q : ℕ). IsNew q 0 segment) c.pop.ensures.same.queue fresh in
    subst (λ (ps : List QueueSegment). AreAt s.queue (ps ++ segment ∷ []) files) (sym (c.take_new-in-None.ensures.list ∙ none.1))
    (at_next s.queue 0 [] segment files new tt (subst (λ (ps : List QueueSegment). AreAt s.queue ps files) none.0 at)))

pub returns-in-None-clause-err : goal.returns-in-None-clause-err
returns-in-None-clause-err c = let s = c.args.self.now in
    let none = c.in-None.ensures.none in
    on_err c.take_new-in-None.result (AreSame s.list.items c.take_new-in-None.new.self.list.items) (subst (AreSame s.list.items) (none.0 ∙ sym (c.take_new-in-None.ensures.list ∙ none.1)) (same_parts s.list.items))
