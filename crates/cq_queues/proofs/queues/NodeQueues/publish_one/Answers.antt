use Rattle.std.proofs.Common.{◌≡◌, ◌≢◌, ◌<◌, ◌∙◌, ℕ, List, length, ap, subst, length-set, arith}
use Rattle.std.specs.Prelude.{set}
use Rattle.cq_queue.specs.declared.queue.QueueCore.{QueueCore}
use Rattle.cq_queue.specs.Values.{QueueValue}
use Rattle.cq_queues.specs.Values.{IsMarked, value_in}
use Rattle.cq_queues.proofs.Marking.{marks_after}
use Rattle.cq_queues.proofs.Places.{all_own, all_stay, both, there}
use Rattle.cq_queues.specs.Changes.{joined_by}
use Rattle.cq_queues.proofs.Loops.{at_one}
use Rattle.cq_queues.proofs.queues.NodeQueues.publish_one.Goals as goal

pub invariant_of-self : goal.invariant_of-self
invariant_of-self c =
    let n = c.args.self.now in
    let cs = n.cores.items in
    let q = c.args.queue in
    let old = c.index_mut.result.now in
    let new = c.publish.new.self in
    let near : q < length cs = omega (arith, n.count, c.requires.queue) in
    record {
      count = length-set cs q new ∙ n.count;
      own = all_own cs q old new near c.index_mut.ensures.value n.most n.own (record { queue = ap (λ (v : QueueValue). v.queue) c.publish.ensures.queue; most = ap (λ (v : QueueValue). v.most) c.publish.ensures.queue });
      are_marked = marks_after (value_in cs) (value_in (set cs q new)) q n.undecided n.settling n.finished _ _ _ (there cs q new) n.are_marked (subst (λ (l : List QueueCore). (r : ℕ) → r < 256 → (r ≢ q → IsMarked (value_in l r) n.undecided n.settling n.finished r) → IsMarked (value_in l r) c.note.new.undecided c.note.new.settling c.note.new.finished r) c.deref.ensures.value c.note.ensures);
    }

pub returns-clause-joined : goal.returns-clause-joined
returns-clause-joined c =
    let n = c.args.self.now in
    let cs = n.cores.items in
    let q = c.args.queue in
    let old = c.index_mut.result.now in
    let new = c.publish.new.self in
    let near : q < length cs = omega (arith, n.count, c.requires.queue) in
    at_one q (value_in cs) (value_in (set cs q new)) (joined_by c.args.id c.args.copy c.args.len) (both cs q old new near c.index_mut.ensures.value (λ v w. w ≡ joined_by c.args.id c.args.copy c.args.len v) c.publish.ensures.queue) (there cs q new)

pub returns-clause-files : goal.returns-clause-files
returns-clause-files c =
    let n = c.args.self.now in
    let cs = n.cores.items in
    let q = c.args.queue in
    let old = c.index_mut.result.now in
    let new = c.publish.new.self in
    let near : q < length cs = omega (arith, n.count, c.requires.queue) in
    all_stay cs q old new near c.index_mut.ensures.value c.publish.ensures.files
