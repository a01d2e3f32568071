use Rattle.std.proofs.Common.{ℕ, length, ◌∙◌}
use Rattle.cq_history.specs.History.{account_at}
use Rattle.cq_history.specs.Steps.{AddsPublish}
use Rattle.cq_queues.specs.Changes.{HasJoined}
use Rattle.cq_queues.specs.Queues as queues
use Rattle.cq_broker.specs.Broker.{queue_at}
use Rattle.cq_broker.proofs.Publishing.{joined-exactly, joined-items, joined-next, published-keeps, published-kept}
use Rattle.cq_broker.proofs.broker.Broker.publish_copies.Goals as goal

pub invariant_of-self : goal.invariant_of-self
invariant_of-self c =
    let b = c.args.self.now in
    let id : ℕ = c.next_id-id.result in
    let number : ℕ = (account_at b.history.clients c.args.client).published in
    let added : AddsPublish c.args.client id c.args.stamp c.args.queues c.args.body b.history c.publish.new.self = c.in-Ok.ensures.adds id c.next_id-id.ensures in
    let joined : HasJoined id c.args.body (length c.args.body) c.args.queues (queue_at b) (queues.queue_at c.publish-in-Ok.new.self) =
    joined-exactly id c.args.body _ c.args.queues _ (queue_at b) (queues.queue_at c.publish-in-Ok.new.self) c.bytes.ensures.same (c.numbers-in-Ok.ensures.same ∙ c.requires.copies.numbers_are) (c.publish-in-Ok.ensures.joined c.args.body c.requires.copies.same) in
    record {
      legal = c.publish.ensures.legal;
      in_memory = published-kept _ _ b.history.entries c.publish.new.self.entries b.history.lacks c.publish.new.self.lacks c.args.stamp c.args.client number id c.args.queues c.args.body added.entries added.lacks c.publish.ensures.legal
          (joined-items id c.args.body c.args.queues (queue_at b) (queues.queue_at c.publish-in-Ok.new.self) joined) b.in_memory;
    }

pub returns-in-Ok-clause-published : goal.returns-in-Ok-clause-published
returns-in-Ok-clause-published c = record {
  adds = c.in-Ok.ensures.adds;
  count = (c.in-Ok.ensures.adds c.next_id-id.result c.next_id-id.ensures).count;
  accounts = c.in-Ok.ensures.accounts;
  whole = c.publish.ensures.whole;
}

pub returns-in-Ok-clause-joined : goal.returns-in-Ok-clause-joined
returns-in-Ok-clause-joined c =
    let b = c.args.self.now in
    joined-next b.history.entries c.next_id-id.result c.args.body c.args.queues (queue_at b) (queues.queue_at c.publish-in-Ok.new.self) c.next_id-id.ensures
    (joined-exactly c.next_id-id.result c.args.body _ c.args.queues _ (queue_at b) (queues.queue_at c.publish-in-Ok.new.self) c.bytes.ensures.same (c.numbers-in-Ok.ensures.same ∙ c.requires.copies.numbers_are) (c.publish-in-Ok.ensures.joined c.args.body c.requires.copies.same))

pub returns-in-Ok-clause-keeps : goal.returns-in-Ok-clause-keeps
returns-in-Ok-clause-keeps c =
    let b = c.args.self.now in
    let id : ℕ = c.next_id-id.result in
    let number : ℕ = (account_at b.history.clients c.args.client).published in
    let added : AddsPublish c.args.client id c.args.stamp c.args.queues c.args.body b.history c.publish.new.self = c.in-Ok.ensures.adds id c.next_id-id.ensures in
    let joined : HasJoined id c.args.body (length c.args.body) c.args.queues (queue_at b) (queues.queue_at c.publish-in-Ok.new.self) =
    joined-exactly id c.args.body _ c.args.queues _ (queue_at b) (queues.queue_at c.publish-in-Ok.new.self) c.bytes.ensures.same (c.numbers-in-Ok.ensures.same ∙ c.requires.copies.numbers_are) (c.publish-in-Ok.ensures.joined c.args.body c.requires.copies.same) in
    published-keeps (queue_at b) (queues.queue_at c.publish-in-Ok.new.self) b.history.entries c.publish.new.self.entries c.args.stamp c.args.client number id c.args.queues c.args.body added.entries c.publish.ensures.legal
    (joined-items id c.args.body c.args.queues (queue_at b) (queues.queue_at c.publish-in-Ok.new.self) joined) c.publish-in-Ok.ensures.files
