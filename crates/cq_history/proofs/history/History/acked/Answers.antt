use Rattle.std.proofs.Common.{◌≡◌, ◌<◌, ◌≤◌, true, [], ◌∷◌, ◌++◌, length, length-set, sym, subst, ap, refl}
use Rattle.std.specs.Prelude.{is_some}
use Rattle.cq_journal.specs.Legal.{newest}
use Rattle.cq_journal.specs.declared.reply.Reply.TheVariants as reply
use Rattle.cq_client.specs.Client.{Account, queue_of, without}
use Rattle.cq_history.specs.History.{HistoryValue, account_at}
use Rattle.cq_history.proofs.Lists.{changed}
use Rattle.cq_history.proofs.Steps.{kept-acked, legal-acked, kept_at}
use Rattle.cq_history.proofs.Whole.{whole-step}
use Rattle.cq_journal.specs.declared.event.Event.TheVariants as event
use Rattle.cq_history.proofs.history.History.acked.Goals as goal

pub invariant_of-self : goal.invariant_of-self
invariant_of-self c =
    let near : c.args.client < length c.self.inside.clients.items = subst (λ (v : HistoryValue). c.args.client < length v.clients) (sym c.self.view_is) c.requires.ready.near in
    let later : newest c.self.inside.journal.entries ≤ c.args.stamp = subst (λ (v : HistoryValue). newest v.entries ≤ c.args.stamp) (sym c.self.view_is) c.requires.ready.later in
    let there : is_some (queue_of c.args.delivery (account_at c.self.inside.clients.items c.args.client).opens) ≡ true = subst (λ (v : HistoryValue). is_some (queue_of c.args.delivery (account_at v.clients c.args.client).opens) ≡ true) (sym c.self.view_is) c.requires.open_ in
    kept_at c.push.ensures.entries (kept-acked c.args.client c.args.delivery c.args.stamp _ _ c.self.invariant near later there (length-set c.self.inside.clients.items c.args.client c.ack.new.self)
    (changed c.self.inside.clients.items c.args.client c.index_mut.result.now c.ack.new.self (λ (a : Account). record a { opens = without c.args.delivery a.opens; replies = a.replies ++ reply.Acked c.args.delivery ∷ [] }) near c.index_mut.ensures.value c.ack.ensures))

pub returns-clause-legal : goal.returns-clause-legal
returns-clause-legal c =
    let near : c.args.client < length c.self.inside.clients.items = subst (λ (v : HistoryValue). c.args.client < length v.clients) (sym c.self.view_is) c.requires.ready.near in
    let later : newest c.self.inside.journal.entries ≤ c.args.stamp = subst (λ (v : HistoryValue). newest v.entries ≤ c.args.stamp) (sym c.self.view_is) c.requires.ready.later in
    let there : is_some (queue_of c.args.delivery (account_at c.self.inside.clients.items c.args.client).opens) ≡ true = subst (λ (v : HistoryValue). is_some (queue_of c.args.delivery (account_at v.clients c.args.client).opens) ≡ true) (sym c.self.view_is) c.requires.open_ in
    rw c.push.ensures.entries (legal-acked c.args.client c.args.delivery c.args.stamp c.self.invariant near later there)

pub returns-clause-whole : goal.returns-clause-whole
returns-clause-whole c =
    let near : c.args.client < length c.self.inside.clients.items = subst (λ (v : HistoryValue). c.args.client < length v.clients) (sym c.self.view_is) c.requires.ready.near in
    rw (← c.self.view_is) (whole-step c.self.inside.journal.entries c.push.new.self.entries (record { event = event.Acked c.args.client c.args.delivery; stamp = c.args.stamp }) c.self.inside.clients.items c.args.client c.index_mut.result.now c.ack.new.self (reply.Acked c.args.delivery) (reply.Acked c.args.delivery) near c.index_mut.ensures.value (ap (λ (a : Account). a.replies) c.ack.ensures) refl c.push.ensures.entries (λ k. refl))
