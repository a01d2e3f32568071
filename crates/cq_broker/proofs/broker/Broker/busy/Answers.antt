use Rattle.std.proofs.Common.{ℕ, refl}
use Rattle.cq_journal.specs.declared.event.Event.TheVariants as event
use Rattle.cq_journal.specs.declared.event.Entry.{Entry}
use Rattle.cq_queue.specs.Values.{QueueValue}
use Rattle.cq_broker.specs.Broker.{queue_at}
use Rattle.cq_broker.proofs.Quiet.{quiet-keeps, quiet-kept, stay-same}
use Rattle.cq_broker.proofs.broker.Broker.busy.Goals as goal

pub invariant_of-self : goal.invariant_of-self
invariant_of-self c =
    let b = c.args.self.now in
    let queues : ℕ → QueueValue = queue_at b in
    let e : Entry = record { event = event.Busy c.args.client c.args.queue; stamp = c.args.stamp } in
    record { legal = c.busy.ensures.legal; in_memory = quiet-kept queues queues b.history.entries c.busy.new.self.entries e b.history.lacks c.busy.new.self.lacks c.busy.ensures.entries c.busy.ensures.changes.lacks c.busy.ensures.legal tt (λ r. refl) (λ _ r. refl) b.in_memory }

pub returns-clause-keeps : goal.returns-clause-keeps
returns-clause-keeps c =
    let b = c.args.self.now in
    let queues : ℕ → QueueValue = queue_at b in
    let e : Entry = record { event = event.Busy c.args.client c.args.queue; stamp = c.args.stamp } in
    quiet-keeps queues queues b.history.entries c.busy.new.self.entries e c.busy.ensures.entries c.busy.ensures.legal tt (λ r. refl) (λ _ r. refl) (stay-same queues)
