use Rattle.std.proofs.Common.{◌≡◌, ◌<◌, ◌≤◌, length, length-set, sym, subst, ap, refl}
use Rattle.std.specs.Prelude.{None}
use Rattle.cq_journal.specs.Legal.{newest}
use Rattle.cq_journal.specs.declared.reply.Reply.TheVariants as reply
use Rattle.cq_client.specs.Client.{queue_of}
use Rattle.cq_history.specs.Accounts.{after_reply}
use Rattle.cq_history.specs.History.{HistoryValue, account_at}
use Rattle.cq_history.proofs.Lists.{changed}
use Rattle.cq_history.proofs.Steps.{kept-unknown, legal-unknown, kept_at}
use Rattle.cq_history.proofs.Whole.{whole-step}
use Rattle.cq_client.specs.Client.{Account}
use Rattle.cq_journal.specs.declared.event.Event.TheVariants as event
use Rattle.cq_history.proofs.history.History.unknown.Goals as goal

pub invariant_of-self : goal.invariant_of-self
invariant_of-self c =
    let near : c.args.client < length c.self.inside.clients.items = subst (λ (v : HistoryValue). c.args.client < length v.clients) (sym c.self.view_is) c.requires.ready.near in
    let later : newest c.self.inside.journal.entries ≤ c.args.stamp = subst (λ (v : HistoryValue). newest v.entries ≤ c.args.stamp) (sym c.self.view_is) c.requires.ready.later in
    let closed : queue_of c.args.delivery (account_at c.self.inside.clients.items c.args.client).opens ≡ None = subst (λ (v : HistoryValue). queue_of c.args.delivery (account_at v.clients c.args.client).opens ≡ None) (sym c.self.view_is) c.requires.closed in
    kept_at c.push.ensures.entries (kept-unknown c.args.client c.args.delivery c.args.stamp _ _ c.self.invariant near later closed (length-set c.self.inside.clients.items c.args.client c.unknown.new.self)
    (changed c.self.inside.clients.items c.args.client c.index_mut.result.now c.unknown.new.self (after_reply (reply.Unknown c.args.delivery)) near c.index_mut.ensures.value c.unknown.ensures))

pub returns-clause-legal : goal.returns-clause-legal
returns-clause-legal c =
    let near : c.args.client < length c.self.inside.clients.items = subst (λ (v : HistoryValue). c.args.client < length v.clients) (sym c.self.view_is) c.requires.ready.near in
    let later : newest c.self.inside.journal.entries ≤ c.args.stamp = subst (λ (v : HistoryValue). newest v.entries ≤ c.args.stamp) (sym c.self.view_is) c.requires.ready.later in
    let closed : queue_of c.args.delivery (account_at c.self.inside.clients.items c.args.client).opens ≡ None = subst (λ (v : HistoryValue). queue_of c.args.delivery (account_at v.clients c.args.client).opens ≡ None) (sym c.self.view_is) c.requires.closed in
    rw c.push.ensures.entries (legal-unknown c.args.client c.args.delivery c.args.stamp c.self.invariant near later closed)

pub returns-clause-whole : goal.returns-clause-whole
returns-clause-whole c =
    let near : c.args.client < length c.self.inside.clients.items = subst (λ (v : HistoryValue). c.args.client < length v.clients) (sym c.self.view_is) c.requires.ready.near in
    rw (← c.self.view_is) (whole-step c.self.inside.journal.entries c.push.new.self.entries (record { event = event.Unknown c.args.client c.args.delivery; stamp = c.args.stamp }) c.self.inside.clients.items c.args.client c.index_mut.result.now c.unknown.new.self (reply.Unknown c.args.delivery) (reply.Unknown c.args.delivery) near c.index_mut.ensures.value (ap (λ (a : Account). a.replies) c.unknown.ensures) refl c.push.ensures.entries (λ k. refl))
