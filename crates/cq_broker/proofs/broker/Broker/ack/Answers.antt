use Rattle.std.proofs.Common.{◌≡◌, ◌∷◌, refl, ap, ◌∙◌, subst}
use Rattle.std.specs.Prelude.{IfSome}
use Rattle.cq_journal.specs.declared.event.Event.TheVariants as event
use Rattle.cq_journal.specs.declared.event.Entry.{Entry}
use Rattle.cq_queues.specs.Queues as queues
use Rattle.cq_history.specs.Steps.{IsOpenFrom, ack_event, noted}
use Rattle.cq_broker.specs.Broker.{queue_at}
use Rattle.cq_broker.proofs.Quiet.{acked-everywhere, quiet-keeps, quiet-kept, stay-same}
use Rattle.cq_broker.proofs.broker.Broker.ack.Goals as goal

pub invariant_of-self : goal.invariant_of-self
invariant_of-self c =
    let b = c.args.self.now in
    let e : Entry = record { event = event.Acked c.args.client c.args.delivery; stamp = c.args.stamp } in
    let is : c.ack.new.self.entries ≡ e ∷ b.history.entries = c.ack.ensures.entries ∙ ap (λ r. noted (ack_event c.args.client c.args.delivery r) c.args.stamp b.history.entries) c.in-Some.is in
    let from : IsOpenFrom c.args.client c.args.delivery b.history.entries c.in-Some.queue = subst (λ r. IfSome r (IsOpenFrom c.args.client c.args.delivery b.history.entries)) c.in-Some.is c.ack.ensures.from in
    record {
      legal = c.ack.ensures.legal;
      in_memory = quiet-kept (queue_at b) (queues.queue_at c.acked.new.self) b.history.entries c.ack.new.self.entries e b.history.lacks c.ack.new.self.lacks is c.ack.ensures.changes.lacks c.ack.ensures.legal tt (λ r. refl)
          (acked-everywhere c.in-Some.queue c.args.client c.args.delivery b.history.entries (queue_at b) (queues.queue_at c.acked.new.self) b.legal from.open_ c.acked.ensures.queue c.acked.ensures.others) b.in_memory;
    }

pub invariant_of-self-in_default : goal.invariant_of-self-in_default
invariant_of-self-in_default c =
    let b = c.args.self.now in
    let e : Entry = record { event = event.Unknown c.args.client c.args.delivery; stamp = c.args.stamp } in
    let is : c.ack.new.self.entries ≡ e ∷ b.history.entries = c.ack.ensures.entries ∙ ap (λ r. noted (ack_event c.args.client c.args.delivery r) c.args.stamp b.history.entries) c.in_default.is in
    record {
      legal = c.ack.ensures.legal;
      in_memory = quiet-kept (queue_at b) (queue_at b) b.history.entries c.ack.new.self.entries e b.history.lacks c.ack.new.self.lacks is c.ack.ensures.changes.lacks c.ack.ensures.legal tt (λ r. refl) (λ _ r. refl) b.in_memory;
    }

pub returns-in-Some-clause-keeps : goal.returns-in-Some-clause-keeps
returns-in-Some-clause-keeps c =
    let b = c.args.self.now in
    let e : Entry = record { event = event.Acked c.args.client c.args.delivery; stamp = c.args.stamp } in
    let is : c.ack.new.self.entries ≡ e ∷ b.history.entries = c.ack.ensures.entries ∙ ap (λ r. noted (ack_event c.args.client c.args.delivery r) c.args.stamp b.history.entries) c.in-Some.is in
    let from : IsOpenFrom c.args.client c.args.delivery b.history.entries c.in-Some.queue = subst (λ r. IfSome r (IsOpenFrom c.args.client c.args.delivery b.history.entries)) c.in-Some.is c.ack.ensures.from in
    quiet-keeps (queue_at b) (queues.queue_at c.acked.new.self) b.history.entries c.ack.new.self.entries e is c.ack.ensures.legal tt (λ r. refl)
    (acked-everywhere c.in-Some.queue c.args.client c.args.delivery b.history.entries (queue_at b) (queues.queue_at c.acked.new.self) b.legal from.open_ c.acked.ensures.queue c.acked.ensures.others) c.acked.ensures.files

pub returns-in_default-clause-keeps : goal.returns-in_default-clause-keeps
returns-in_default-clause-keeps c =
    let b = c.args.self.now in
    let e : Entry = record { event = event.Unknown c.args.client c.args.delivery; stamp = c.args.stamp } in
    let is : c.ack.new.self.entries ≡ e ∷ b.history.entries = c.ack.ensures.entries ∙ ap (λ r. noted (ack_event c.args.client c.args.delivery r) c.args.stamp b.history.entries) c.in_default.is in
    quiet-keeps (queue_at b) (queue_at b) b.history.entries c.ack.new.self.entries e is c.ack.ensures.legal tt (λ r. refl) (λ _ r. refl) (stay-same (queue_at b))
