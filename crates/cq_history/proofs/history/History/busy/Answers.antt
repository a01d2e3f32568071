use Rattle.std.proofs.Common.{◌≡◌, ◌<◌, ◌≤◌, length, length-set, sym, subst, ap, refl}
use Rattle.cq_journal.specs.History.{unacked}
use Rattle.cq_journal.specs.Legal.{newest}
use Rattle.cq_journal.specs.declared.reply.Reply.TheVariants as reply
use Rattle.cq_history.specs.Accounts.{after_reply}
use Rattle.cq_history.specs.History.{HistoryValue}
use Rattle.cq_history.proofs.Lists.{changed}
use Rattle.cq_history.proofs.Steps.{kept-busy, kept_at}
use Rattle.cq_history.proofs.Whole.{whole-step}
use Rattle.cq_client.specs.Client.{Account}
use Rattle.cq_journal.specs.declared.event.Event.TheVariants as event
use Rattle.cq_history.proofs.history.History.busy.Goals as goal

pub invariant_of-self : goal.invariant_of-self
invariant_of-self c =
    let near : c.args.client < length c.self.inside.clients.items = subst (λ (v : HistoryValue). c.args.client < length v.clients) (sym c.self.view_is) c.requires.ready.near in
    let later : newest c.self.inside.journal.entries ≤ c.args.stamp = subst (λ (v : HistoryValue). newest v.entries ≤ c.args.stamp) (sym c.self.view_is) c.requires.ready.later in
    let full : length (unacked c.self.inside.journal.entries c.args.client) ≡ 64 = subst (λ (v : HistoryValue). length (unacked v.entries c.args.client) ≡ 64) (sym c.self.view_is) c.requires.full in
    kept_at c.push.ensures.entries (kept-busy c.args.client c.args.queue c.args.stamp _ _ c.self.invariant near later full (length-set c.self.inside.clients.items c.args.client c.busy.new.self)
    (changed c.self.inside.clients.items c.args.client c.index_mut.result.now c.busy.new.self (after_reply (reply.Busy c.args.queue)) near c.index_mut.ensures.value c.busy.ensures))

pub returns-clause-whole : goal.returns-clause-whole
returns-clause-whole c =
    let near : c.args.client < length c.self.inside.clients.items = subst (λ (v : HistoryValue). c.args.client < length v.clients) (sym c.self.view_is) c.requires.ready.near in
    rw (← c.self.view_is) (whole-step c.self.inside.journal.entries c.push.new.self.entries (record { event = event.Busy c.args.client c.args.queue; stamp = c.args.stamp }) c.self.inside.clients.items c.args.client c.index_mut.result.now c.busy.new.self (reply.Busy c.args.queue) (reply.Busy c.args.queue) near c.index_mut.ensures.value (ap (λ (a : Account). a.replies) c.busy.ensures) refl c.push.ensures.entries (λ k. refl))
