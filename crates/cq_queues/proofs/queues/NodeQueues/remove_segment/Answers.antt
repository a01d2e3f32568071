use Rattle.std.proofs.Common.{◌≡◌, ◌≢◌, ◌<◌, ◌+◌, ◌∙◌, ℕ, List, length, subst, length-set, arith}
use Rattle.std.specs.Prelude.{IfOk, OnOk, set}
use Rattle.cq_queue.specs.declared.queue.QueueCore.{QueueCore}
use Rattle.cq_queues.specs.Values.{IsMarked, value_in}
use Rattle.cq_queues.proofs.Marking.{marks_after}
use Rattle.cq_queues.proofs.Places.{all_at, all_own, before, both, there}
use Rattle.cq_queue.specs.QueueCalls.{HasRemoved, KeepsAll, calls_to_remove}
use Rattle.cq_queues.proofs.queues.NodeQueues.remove_segment.Goals as goal

pub invariant_of-self : goal.invariant_of-self
invariant_of-self g c =
    let n = c.args.self.now in
    let cs = n.cores.items in
    let q = c.args.queue in
    let old = c.index_mut.result.now in
    let new = c.remove_segment-removed.new.self in
    let near : q < length cs = omega (arith, n.count, c.requires.queue) in
    record {
      count = length-set cs q new ∙ n.count;
      own = all_own cs q old new near c.index_mut.ensures.value n.most n.own c.remove_segment-removed.ensures.own;
      are_marked = marks_after (value_in cs) (value_in (set cs q new)) q n.undecided n.settling n.finished _ _ _ (there cs q new) n.are_marked (subst (λ (l : List QueueCore). (r : ℕ) → r < 256 → (r ≢ q → IsMarked (value_in l r) n.undecided n.settling n.finished r) → IsMarked (value_in l r) c.note.new.undecided c.note.new.settling c.note.new.finished r) c.deref.ensures.value c.note.ensures);
    }

pub returns-clause-ok : goal.returns-clause-ok
returns-clause-ok g c =
    let n = c.args.self.now in
    let cs = n.cores.items in
    let q = c.args.queue in
    let old = c.index_mut.result.now in
    let new = c.remove_segment-removed.new.self in
    let near : q < length cs = omega (arith, n.count, c.requires.queue) in
    both cs q old new near c.index_mut.ensures.value (λ v w. IfOk c.remove_segment-removed.result (λ removed. HasRemoved v removed w)) c.remove_segment-removed.ensures.ok

pub returns-clause-others : goal.returns-clause-others
returns-clause-others g c =
    let n = c.args.self.now in
    let cs = n.cores.items in
    let q = c.args.queue in
    let old = c.index_mut.result.now in
    let new = c.remove_segment-removed.new.self in
    let near : q < length cs = omega (arith, n.count, c.requires.queue) in
    there cs q new

pub returns-clause-at : goal.returns-clause-at
returns-clause-at g c =
    let n = c.args.self.now in
    let cs = n.cores.items in
    let q = c.args.queue in
    let old = c.index_mut.result.now in
    let new = c.remove_segment-removed.new.self in
    let near : q < length cs = omega (arith, n.count, c.requires.queue) in
    λ told. all_at cs q old new near c.index_mut.ensures.value n.most (g.D.Disk.files c.args.disk.now) (g.D.Disk.files c.remove_segment-removed.new.disk) c.requires.queue n.own (c.requires.at told) (before cs q old new near c.index_mut.ensures.value (λ v. KeepsAll g.D.Disk v c.args.disk.now c.remove_segment-removed.new.disk) (c.remove_segment-removed.ensures.touches told)).others (λ running. c.remove_segment-removed.ensures.at told running)

pub returns-clause-touches : goal.returns-clause-touches
returns-clause-touches g c =
    let n = c.args.self.now in
    let cs = n.cores.items in
    let q = c.args.queue in
    let old = c.index_mut.result.now in
    let new = c.remove_segment-removed.new.self in
    let near : q < length cs = omega (arith, n.count, c.requires.queue) in
    λ told. before cs q old new near c.index_mut.ensures.value (λ v. KeepsAll g.D.Disk v c.args.disk.now c.remove_segment-removed.new.disk) (c.remove_segment-removed.ensures.touches told)

pub returns-clause-calls : goal.returns-clause-calls
returns-clause-calls g c =
    let n = c.args.self.now in
    let cs = n.cores.items in
    let q = c.args.queue in
    let old = c.index_mut.result.now in
    let new = c.remove_segment-removed.new.self in
    let near : q < length cs = omega (arith, n.count, c.requires.queue) in
    before cs q old new near c.index_mut.ensures.value (λ v. OnOk c.remove_segment-removed.result (g.D.Disk.moment c.remove_segment-removed.new.disk ≡ g.D.Disk.moment c.args.disk.now + calls_to_remove v)) c.remove_segment-removed.ensures.calls
