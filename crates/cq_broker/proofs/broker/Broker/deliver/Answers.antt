use Rattle.std.proofs.Common.{◌≡◌, ℕ, false, cond, refl, sym, subst}
use Rattle.std.specs.Prelude.{◌==◌}
use Rattle.cq_journal.specs.declared.event.Event.TheVariants as event
use Rattle.cq_journal.specs.declared.event.Entry.{Entry}
use Rattle.cq_items.specs.Items.{hand_out, is_out_to}
use Rattle.cq_queues.specs.Queues as queues
use Rattle.cq_history.specs.History.{account_at}
use Rattle.cq_broker.specs.Broker.{queue_at}
use Rattle.cq_broker.specs.InMemory.{items_of}
use Rattle.cq_broker.proofs.Quiet.{changed-at, quiet-keeps, quiet-kept}
use Rattle.cq_broker.proofs.Waits.{next_fresh, some_waits}
use Rattle.cq_broker.proofs.broker.Broker.deliver.Goals as goal

pub deliver-requires-clause-some : goal.deliver-requires-clause-some
deliver-requires-clause-some c =
    let b = c.args.self.now in
    some_waits (items_of (queue_at b)) b.history.entries b.history.lacks c.args.queue c.args.id b.legal b.in_memory c.requires.first

pub deliver-requires-clause-fresh : goal.deliver-requires-clause-fresh
deliver-requires-clause-fresh c =
    let b = c.args.self.now in
    subst (λ n. is_out_to c.args.client n (items_of (queue_at b) c.args.queue) ≡ false) (sym c.delivered-delivery.ensures.journal)
    (next_fresh (items_of (queue_at b)) b.history.entries b.history.lacks c.args.queue c.args.client b.legal b.in_memory)

pub invariant_of-self : goal.invariant_of-self
invariant_of-self c =
    let b = c.args.self.now in
    let number : ℕ = (account_at b.history.clients c.args.client).delivered in
    let e : Entry = record { event = event.Delivered c.args.client number c.args.queue c.args.id; stamp = c.args.stamp } in
    let changes : (r : ℕ) → items_of (queues.queue_at c.deliver.new.self) r ≡ cond (c.args.queue == r) (hand_out c.args.client number (items_of (queue_at b) r)) (items_of (queue_at b) r) =
    subst (λ n. (r : ℕ) → items_of (queues.queue_at c.deliver.new.self) r ≡ cond (c.args.queue == r) (hand_out c.args.client n (items_of (queue_at b) r)) (items_of (queue_at b) r)) c.delivered-delivery.ensures.account
    (changed-at c.args.queue (hand_out c.args.client c.delivered-delivery.result) (queue_at b) (queues.queue_at c.deliver.new.self) c.deliver.ensures.queue c.deliver.ensures.others) in
    record {
      legal = c.deliver-2.ensures.legal;
      in_memory = quiet-kept (queue_at b) (queues.queue_at c.deliver.new.self) b.history.entries c.deliver-2.new.self.entries e b.history.lacks c.deliver-2.new.self.lacks c.deliver-2.ensures.entries c.deliver-2.ensures.changes.lacks c.deliver-2.ensures.legal tt (λ r. refl) (λ _. changes) b.in_memory;
    }

pub returns-clause-keeps : goal.returns-clause-keeps
returns-clause-keeps c =
    let b = c.args.self.now in
    let number : ℕ = (account_at b.history.clients c.args.client).delivered in
    let e : Entry = record { event = event.Delivered c.args.client number c.args.queue c.args.id; stamp = c.args.stamp } in
    let changes : (r : ℕ) → items_of (queues.queue_at c.deliver.new.self) r ≡ cond (c.args.queue == r) (hand_out c.args.client number (items_of (queue_at b) r)) (items_of (queue_at b) r) =
    subst (λ n. (r : ℕ) → items_of (queues.queue_at c.deliver.new.self) r ≡ cond (c.args.queue == r) (hand_out c.args.client n (items_of (queue_at b) r)) (items_of (queue_at b) r)) c.delivered-delivery.ensures.account
    (changed-at c.args.queue (hand_out c.args.client c.delivered-delivery.result) (queue_at b) (queues.queue_at c.deliver.new.self) c.deliver.ensures.queue c.deliver.ensures.others) in
    quiet-keeps (queue_at b) (queues.queue_at c.deliver.new.self) b.history.entries c.deliver-2.new.self.entries e c.deliver-2.ensures.entries c.deliver-2.ensures.legal tt (λ r. refl) (λ _. changes) c.deliver.ensures.files
