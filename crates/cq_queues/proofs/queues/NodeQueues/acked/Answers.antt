use Rattle.std.proofs.Common.{◌≢◌, ◌<◌, ◌∙◌, ℕ, List, length, ap, subst, length-set, arith}
use Rattle.std.specs.Prelude.{set}
use Rattle.cq_queue.specs.declared.queue.QueueCore.{QueueCore}
use Rattle.cq_queue.specs.Values.{QueueValue}
use Rattle.cq_queues.specs.Values.{IsMarked, value_in}
use Rattle.cq_queues.proofs.Marking.{marks_after}
use Rattle.cq_queues.proofs.Places.{all_own, all_stay, there}
use Rattle.cq_queues.proofs.queues.NodeQueues.acked.Goals as goal

pub invariant_of-self : goal.invariant_of-self
invariant_of-self c =
    let n = c.args.self.now in
    let cs = n.cores.items in
    let q = c.args.queue in
    let old = c.index_mut.result.now in
    let new = c.acked.new.self in
    let near : q < length cs = omega (arith, n.count, c.requires) in
    record {
      count = length-set cs q new ∙ n.count;
      own = all_own cs q old new near c.index_mut.ensures.value n.most n.own (record { queue = ap (λ (v : QueueValue). v.queue) c.acked.ensures.queue; most = ap (λ (v : QueueValue). v.most) c.acked.ensures.queue });
      are_marked = marks_after (value_in cs) (value_in (set cs q new)) q n.undecided n.settling n.finished _ _ _ (there cs q new) n.are_marked (subst (λ (l : List QueueCore). (r : ℕ) → r < 256 → (r ≢ q → IsMarked (value_in l r) n.undecided n.settling n.finished r) → IsMarked (value_in l r) c.note.new.undecided c.note.new.settling c.note.new.finished r) c.deref.ensures.value c.note.ensures);
    }

pub returns-clause-files : goal.returns-clause-files
returns-clause-files c =
    let n = c.args.self.now in
    let cs = n.cores.items in
    let q = c.args.queue in
    let old = c.index_mut.result.now in
    let new = c.acked.new.self in
    let near : q < length cs = omega (arith, n.count, c.requires) in
    all_stay cs q old new near c.index_mut.ensures.value c.acked.ensures.files
