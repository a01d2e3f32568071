use Rattle.cq_queues.specs.Queues as queues
use Rattle.cq_broker.specs.Broker.{queue_at}
use Rattle.cq_broker.proofs.Publishing.{room-first, room-kept, room-refused}
use Rattle.cq_broker.proofs.broker.Broker.publish.Goals as goal

pub invariant_of-self : goal.invariant_of-self
invariant_of-self c =
    let b = c.args.self.now in
    record { legal = b.legal; in_memory = room-kept (queue_at b) (queues.queue_at c.prepare.new.all) b.history.entries b.history.lacks c.prepare.ensures.room b.in_memory }

pub returns-in-Ok-clause-room : goal.returns-in-Ok-clause-room
returns-in-Ok-clause-room c = room-refused c.publish_copies.result (queue_at c.args.self.now) (queues.queue_at c.prepare.new.all) (queue_at c.publish_copies.new.self) c.in-Ok.ensures.room c.publish_copies.ensures.queues

pub returns-in-Ok-clause-keeps : goal.returns-in-Ok-clause-keeps
returns-in-Ok-clause-keeps c =
    let b = c.args.self.now in
    room-first (queue_at b) (queues.queue_at c.prepare.new.all) (queue_at c.publish_copies.new.self) b.history.entries c.publish_copies.new.self.history.entries c.in-Ok.ensures.room c.publish_copies.ensures.keeps
