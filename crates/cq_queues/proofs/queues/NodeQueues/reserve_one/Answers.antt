use Rattle.std.proofs.Common.{◌≡◌, ◌≢◌, ◌<◌, ◌∙◌, ℕ, List, length, refl, ap, subst, length-set, arith}
use Rattle.std.specs.Prelude.{OnOk, set}
use Rattle.cq_queue.specs.declared.queue.QueueCore.{QueueCore}
use Rattle.cq_queue.specs.Values.{QueueValue, value_of}
use Rattle.cq_queues.specs.Changes.{AreReserved}
use Rattle.std.proofs.Common.{[], ◌∷◌}
use Rattle.cq_queues.specs.Values.{IsMarked, value_in}
use Rattle.cq_queues.proofs.Marking.{marks_after}
use Rattle.cq_queues.proofs.Places.{all_own, both, there}
use Rattle.cq_queues.proofs.Places.{each, room_kept, room_only, room_there}
use Rattle.cq_queues.proofs.queues.NodeQueues.reserve_one.Goals as goal

pub returns-clause-more : goal.returns-clause-more
returns-clause-more c =
    let n = c.args.self.now in
    let cs = n.cores.items in
    let q = c.args.queue in
    let old = c.index_mut.result.now in
    let new = c.reserve-reserved.new.self in
    let near : q < length cs = omega (arith, n.count, c.requires) in
    λ r some. (each cs q old new near c.index_mut.ensures.value (λ v w. 0 < v.reserved → 0 < w.reserved) (λ v s. s) (room_kept c.reserve-reserved.result (value_of old) (value_of new) c.reserve-reserved.ensures.ok c.reserve-reserved.ensures.err) r some.0, tt)

pub invariant_of-self : goal.invariant_of-self
invariant_of-self c =
    let n = c.args.self.now in
    let cs = n.cores.items in
    let q = c.args.queue in
    let old = c.index_mut.result.now in
    let new = c.reserve-reserved.new.self in
    let near : q < length cs = omega (arith, n.count, c.requires) in
    record {
      count = length-set cs q new ∙ n.count;
      own = all_own cs q old new near c.index_mut.ensures.value n.most n.own (let e = room_only c.reserve-reserved.result (value_of old) (value_of new) c.reserve-reserved.ensures.ok c.reserve-reserved.ensures.err in record { queue = ap (λ (v : QueueValue). v.queue) e; most = ap (λ (v : QueueValue). v.most) e });
      are_marked = marks_after (value_in cs) (value_in (set cs q new)) q n.undecided n.settling n.finished _ _ _ (there cs q new) n.are_marked (subst (λ (l : List QueueCore). (r : ℕ) → r < 256 → (r ≢ q → IsMarked (value_in l r) n.undecided n.settling n.finished r) → IsMarked (value_in l r) c.note.new.undecided c.note.new.settling c.note.new.finished r) c.deref.ensures.value c.note.ensures);
    }

pub returns-clause-room : goal.returns-clause-room
returns-clause-room c =
    let n = c.args.self.now in
    let cs = n.cores.items in
    let q = c.args.queue in
    let old = c.index_mut.result.now in
    let new = c.reserve-reserved.new.self in
    let near : q < length cs = omega (arith, n.count, c.requires) in
    each cs q old new near c.index_mut.ensures.value (λ v w. w ≡ record v { reserved = w.reserved }) (λ v. refl) (room_only c.reserve-reserved.result (value_of old) (value_of new) c.reserve-reserved.ensures.ok c.reserve-reserved.ensures.err)

pub returns-clause-ok : goal.returns-clause-ok
returns-clause-ok c =
    let n = c.args.self.now in
    let cs = n.cores.items in
    let q = c.args.queue in
    let old = c.index_mut.result.now in
    let new = c.reserve-reserved.new.self in
    let near : q < length cs = omega (arith, n.count, c.requires) in
    both cs q old new near c.index_mut.ensures.value (λ v w. OnOk c.reserve-reserved.result (AreReserved (λ r. w) (q ∷ []))) (room_there c.reserve-reserved.result (value_of old) (value_of new) q c.reserve-reserved.ensures.ok)

pub returns-clause-others : goal.returns-clause-others
returns-clause-others c =
    let n = c.args.self.now in
    let cs = n.cores.items in
    let q = c.args.queue in
    let old = c.index_mut.result.now in
    let new = c.reserve-reserved.new.self in
    let near : q < length cs = omega (arith, n.count, c.requires) in
    there cs q new
