use Rattle.std.proofs.Common.{◌≡◌, ◌≢◌, ◌<◌, ◌+◌, ◌∙◌, ℕ, List, length, subst, length-set, arith}
use Rattle.std.specs.Prelude.{IfOk, IfErr, OnOk, set}
use Rattle.cq_queue.specs.declared.queue.QueueCore.{QueueCore}
use Rattle.cq_queues.specs.Values.{IsMarked, value_in}
use Rattle.cq_queues.proofs.Marking.{marks_after}
use Rattle.cq_queues.proofs.Places.{all_at, all_own, before, both, there}
use Rattle.cq_queue.specs.QueueCalls.{HasSettled, Leaves, SettledAreLost, SettlesOnly, calls_to_settle}
use Rattle.cq_items.specs.Items.{settling_ids}
use Rattle.cq_queues.proofs.queues.NodeQueues.settle.Goals as goal

pub invariant_of-self : goal.invariant_of-self
invariant_of-self g c =
    let n = c.args.self.now in
    let cs = n.cores.items in
    let q = c.args.queue in
    let old = c.index_mut.result.now in
    let new = c.settle-ids.new.self in
    let near : q < length cs = omega (arith, n.count, c.requires.queue) in
    record {
      count = length-set cs q new ∙ n.count;
      own = all_own cs q old new near c.index_mut.ensures.value n.most n.own c.settle-ids.ensures.own;
      are_marked = marks_after (value_in cs) (value_in (set cs q new)) q n.undecided n.settling n.finished _ _ _ (there cs q new) n.are_marked (subst (λ (l : List QueueCore). (r : ℕ) → r < 256 → (r ≢ q → IsMarked (value_in l r) n.undecided n.settling n.finished r) → IsMarked (value_in l r) c.note.new.undecided c.note.new.settling c.note.new.finished r) c.deref.ensures.value c.note.ensures);
    }

pub returns-clause-ok : goal.returns-clause-ok
returns-clause-ok g c =
    let n = c.args.self.now in
    let cs = n.cores.items in
    let q = c.args.queue in
    let old = c.index_mut.result.now in
    let new = c.settle-ids.new.self in
    let near : q < length cs = omega (arith, n.count, c.requires.queue) in
    both cs q old new near c.index_mut.ensures.value (λ v w. IfOk c.settle-ids.result (λ ids. HasSettled v ids.items w)) c.settle-ids.ensures.ok

pub returns-clause-err : goal.returns-clause-err
returns-clause-err g c =
    let n = c.args.self.now in
    let cs = n.cores.items in
    let q = c.args.queue in
    let old = c.index_mut.result.now in
    let new = c.settle-ids.new.self in
    let near : q < length cs = omega (arith, n.count, c.requires.queue) in
    both cs q old new near c.index_mut.ensures.value (λ v w. IfErr c.settle-ids.result (Leaves v w (c.settle-ids.new.disk ≡ c.args.disk.now))) c.settle-ids.ensures.err

pub returns-clause-others : goal.returns-clause-others
returns-clause-others g c =
    let n = c.args.self.now in
    let cs = n.cores.items in
    let q = c.args.queue in
    let old = c.index_mut.result.now in
    let new = c.settle-ids.new.self in
    let near : q < length cs = omega (arith, n.count, c.requires.queue) in
    there cs q new

pub returns-clause-at : goal.returns-clause-at
returns-clause-at g c =
    let n = c.args.self.now in
    let cs = n.cores.items in
    let q = c.args.queue in
    let old = c.index_mut.result.now in
    let new = c.settle-ids.new.self in
    let near : q < length cs = omega (arith, n.count, c.requires.queue) in
    λ told. all_at cs q old new near c.index_mut.ensures.value n.most (g.D.Disk.files c.args.disk.now) (g.D.Disk.files c.settle-ids.new.disk) c.requires.queue n.own (c.requires.at told) (before cs q old new near c.index_mut.ensures.value (λ v. SettlesOnly g.D.Disk v c.args.disk.now c.settle-ids.new.disk) (c.settle-ids.ensures.touches told)).others (λ running. c.settle-ids.ensures.at told running)

pub returns-clause-lost : goal.returns-clause-lost
returns-clause-lost g c =
    let n = c.args.self.now in
    let cs = n.cores.items in
    let q = c.args.queue in
    let old = c.index_mut.result.now in
    let new = c.settle-ids.new.self in
    let near : q < length cs = omega (arith, n.count, c.requires.queue) in
    before cs q old new near c.index_mut.ensures.value (λ v. OnOk c.settle-ids.result (g.D.Disk.tells → SettledAreLost g.D.Disk v c.args.disk.now c.settle-ids.new.disk)) c.settle-ids.ensures.lost

pub returns-clause-touches : goal.returns-clause-touches
returns-clause-touches g c =
    let n = c.args.self.now in
    let cs = n.cores.items in
    let q = c.args.queue in
    let old = c.index_mut.result.now in
    let new = c.settle-ids.new.self in
    let near : q < length cs = omega (arith, n.count, c.requires.queue) in
    λ told. before cs q old new near c.index_mut.ensures.value (λ v. SettlesOnly g.D.Disk v c.args.disk.now c.settle-ids.new.disk) (c.settle-ids.ensures.touches told)

pub returns-clause-calls : goal.returns-clause-calls
returns-clause-calls g c =
    let n = c.args.self.now in
    let cs = n.cores.items in
    let q = c.args.queue in
    let old = c.index_mut.result.now in
    let new = c.settle-ids.new.self in
    let near : q < length cs = omega (arith, n.count, c.requires.queue) in
    before cs q old new near c.index_mut.ensures.value (λ v. OnOk c.settle-ids.result (g.D.Disk.moment c.settle-ids.new.disk ≡ g.D.Disk.moment c.args.disk.now + calls_to_settle (settling_ids v.items))) c.settle-ids.ensures.calls
