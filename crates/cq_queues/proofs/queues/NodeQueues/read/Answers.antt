use Rattle.std.proofs.Common.{◌≡◌, ◌≢◌, ◌<◌, ◌+◌, ◌∙◌, ℕ, List, length, subst, length-set, arith}
use Rattle.std.specs.Prelude.{OnOk, slice_get, set}
use Rattle.cq_queue.specs.declared.queue.QueueCore.{QueueCore}
use Rattle.cq_queues.specs.Values.{IsMarked, value_in}
use Rattle.cq_queues.proofs.Marking.{marks_after}
use Rattle.cq_queues.proofs.Places.{all_at, all_own, before, both, there}
use Rattle.cq_queue.specs.QueueCalls.{HasBody, IsBodyInMemory, calls_to_read}
use Rattle.cq_items.specs.Items.{waiting_items}
use Rattle.cq_queues.proofs.queues.NodeQueues.read.Goals as goal

pub invariant_of-self : goal.invariant_of-self
invariant_of-self g c =
    let n = c.args.self.now in
    let cs = n.cores.items in
    let q = c.args.queue in
    let old = c.index_mut.result.now in
    let new = c.read-done.new.self in
    let near : q < length cs = omega (arith, n.count, c.requires.queue) in
    record {
      count = length-set cs q new ∙ n.count;
      own = all_own cs q old new near c.index_mut.ensures.value n.most n.own c.read-done.ensures.own;
      are_marked = marks_after (value_in cs) (value_in (set cs q new)) q n.undecided n.settling n.finished _ _ _ (there cs q new) n.are_marked (subst (λ (l : List QueueCore). (r : ℕ) → r < 256 → (r ≢ q → IsMarked (value_in l r) n.undecided n.settling n.finished r) → IsMarked (value_in l r) c.note.new.undecided c.note.new.settling c.note.new.finished r) c.deref.ensures.value c.note.ensures);
    }

pub returns-clause-same : goal.returns-clause-same
returns-clause-same g c =
    let n = c.args.self.now in
    let cs = n.cores.items in
    let q = c.args.queue in
    let old = c.index_mut.result.now in
    let new = c.read-done.new.self in
    let near : q < length cs = omega (arith, n.count, c.requires.queue) in
    both cs q old new near c.index_mut.ensures.value (λ v w. OnOk c.read-done.result (w ≡ v)) c.read-done.ensures.same

pub returns-clause-others : goal.returns-clause-others
returns-clause-others g c =
    let n = c.args.self.now in
    let cs = n.cores.items in
    let q = c.args.queue in
    let old = c.index_mut.result.now in
    let new = c.read-done.new.self in
    let near : q < length cs = omega (arith, n.count, c.requires.queue) in
    there cs q new

pub returns-clause-memory : goal.returns-clause-memory
returns-clause-memory g c =
    let n = c.args.self.now in
    let cs = n.cores.items in
    let q = c.args.queue in
    let old = c.index_mut.result.now in
    let new = c.read-done.new.self in
    let near : q < length cs = omega (arith, n.count, c.requires.queue) in
    before cs q old new near c.index_mut.ensures.value (λ v. OnOk c.read-done.result (IsBodyInMemory (slice_get (waiting_items v.items) 0) c.read-done.new.into)) c.read-done.ensures.memory

pub returns-clause-body : goal.returns-clause-body
returns-clause-body g c =
    let n = c.args.self.now in
    let cs = n.cores.items in
    let q = c.args.queue in
    let old = c.index_mut.result.now in
    let new = c.read-done.new.self in
    let near : q < length cs = omega (arith, n.count, c.requires.queue) in
    before cs q old new near c.index_mut.ensures.value (λ v. OnOk c.read-done.result (g.D.Disk.tells → HasBody g.D.Disk v c.args.disk.now c.args.id c.read-done.new.into)) c.read-done.ensures.body

pub returns-clause-at : goal.returns-clause-at
returns-clause-at g c =
    let n = c.args.self.now in
    let cs = n.cores.items in
    let q = c.args.queue in
    let old = c.index_mut.result.now in
    let new = c.read-done.new.self in
    let near : q < length cs = omega (arith, n.count, c.requires.queue) in
    λ told. all_at cs q old new near c.index_mut.ensures.value n.most (g.D.Disk.files c.args.disk.now) (g.D.Disk.files c.read-done.new.disk) c.requires.queue n.own (c.requires.at told) (λ name off. (c.read-done.ensures.reads told).files name) (λ running. c.read-done.ensures.at told running)

pub returns-clause-calls : goal.returns-clause-calls
returns-clause-calls g c =
    let n = c.args.self.now in
    let cs = n.cores.items in
    let q = c.args.queue in
    let old = c.index_mut.result.now in
    let new = c.read-done.new.self in
    let near : q < length cs = omega (arith, n.count, c.requires.queue) in
    before cs q old new near c.index_mut.ensures.value (λ v. OnOk c.read-done.result (g.D.Disk.moment c.read-done.new.disk ≡ g.D.Disk.moment c.args.disk.now + calls_to_read (slice_get (waiting_items v.items) 0))) c.read-done.ensures.calls
