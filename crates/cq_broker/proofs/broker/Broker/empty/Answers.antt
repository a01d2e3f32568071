use Rattle.std.proofs.Common.{ℕ, refl}
use Rattle.cq_journal.specs.declared.event.Event.TheVariants as event
use Rattle.cq_journal.specs.declared.event.Entry.{Entry}
use Rattle.cq_queue.specs.Values.{QueueValue}
use Rattle.cq_broker.specs.Broker.{queue_at}
use Rattle.cq_broker.proofs.Quiet.{quiet-keeps, quiet-kept, stay-same}
use Rattle.cq_broker.proofs.broker.Broker.empty.Goals as goal

pub invariant_of-self : goal.invariant_of-self
invariant_of-self c =
    let b = c.args.self.now in
    let queues : ℕ → QueueValue = queue_at b in
    let e : Entry = record { event = event.Empty c.args.client c.args.queue; stamp = c.args.stamp } in
    record { legal = c.empty.ensures.legal; in_memory = quiet-kept queues queues b.history.entries c.empty.new.self.entries e b.history.lacks c.empty.new.self.lacks c.empty.ensures.entries c.empty.ensures.changes.lacks c.empty.ensures.legal tt (λ r. refl) (λ _ r. refl) b.in_memory }

pub returns-clause-keeps : goal.returns-clause-keeps
returns-clause-keeps c =
    let b = c.args.self.now in
    let queues : ℕ → QueueValue = queue_at b in
    let e : Entry = record { event = event.Empty c.args.client c.args.queue; stamp = c.args.stamp } in
    quiet-keeps queues queues b.history.entries c.empty.new.self.entries e c.empty.ensures.entries c.empty.ensures.legal tt (λ r. refl) (λ _ r. refl) (stay-same queues)
