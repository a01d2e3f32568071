use Rattle.std.proofs.Common.{refl}
use Rattle.cq_journal.specs.declared.event.Event.TheVariants as event
use Rattle.cq_journal.specs.declared.event.Entry.{Entry}
use Rattle.cq_queues.specs.Queues as queues
use Rattle.cq_broker.specs.Broker.{queue_at}
use Rattle.cq_broker.proofs.Quiet.{given-everywhere, quiet-keeps, quiet-kept}
use Rattle.cq_broker.proofs.broker.Broker.end.Goals as goal

pub invariant_of-self : goal.invariant_of-self
invariant_of-self c =
    let b = c.args.self.now in
    let e : Entry = record { event = event.Ended c.args.client; stamp = c.args.stamp } in
    record {
      legal = c.end.ensures.legal;
      in_memory = quiet-kept (queue_at b) (queues.queue_at c.give_back.new.queues) b.history.entries c.end.new.self.entries e b.history.lacks c.end.new.self.lacks c.end.ensures.entries c.end.ensures.changes.lacks c.end.ensures.legal tt (λ r. refl)
          (given-everywhere c.args.client c.opens.result.now b.history.entries (queue_at b) (queues.queue_at c.give_back.new.queues) c.opens.ensures.journal c.give_back.ensures.back) b.in_memory;
    }

pub returns-clause-keeps : goal.returns-clause-keeps
returns-clause-keeps c =
    let b = c.args.self.now in
    let e : Entry = record { event = event.Ended c.args.client; stamp = c.args.stamp } in
    quiet-keeps (queue_at b) (queues.queue_at c.give_back.new.queues) b.history.entries c.end.new.self.entries e c.end.ensures.entries c.end.ensures.legal tt (λ r. refl)
    (given-everywhere c.args.client c.opens.result.now b.history.entries (queue_at b) (queues.queue_at c.give_back.new.queues) c.opens.ensures.journal c.give_back.ensures.back) c.give_back.ensures.files
