use Rattle.std.proofs.Common.{◌≡◌, ◌<◌, ◌≤◌, [], length, length-set, sym, subst, ap, refl}
use Rattle.cq_journal.specs.History.{unacked, waiting}
use Rattle.cq_journal.specs.Legal.{newest}
use Rattle.cq_journal.specs.declared.reply.Reply.TheVariants as reply
use Rattle.cq_history.specs.Accounts.{after_reply}
use Rattle.cq_history.specs.History.{HistoryValue}
use Rattle.cq_history.proofs.Lists.{changed}
use Rattle.cq_history.proofs.Steps.{kept-empty, kept_at}
use Rattle.cq_history.proofs.Whole.{whole-step}
use Rattle.cq_client.specs.Client.{Account}
use Rattle.cq_journal.specs.declared.event.Event.TheVariants as event
use Rattle.cq_history.proofs.history.History.empty.Goals as goal

pub invariant_of-self : goal.invariant_of-self
invariant_of-self c =
    let near : c.args.client < length c.self.inside.clients.items = subst (λ (v : HistoryValue). c.args.client < length v.clients) (sym c.self.view_is) c.requires.ready.near in
    let later : newest c.self.inside.journal.entries ≤ c.args.stamp = subst (λ (v : HistoryValue). newest v.entries ≤ c.args.stamp) (sym c.self.view_is) c.requires.ready.later in
    let few : length (unacked c.self.inside.journal.entries c.args.client) < 64 = subst (λ (v : HistoryValue). length (unacked v.entries c.args.client) < 64) (sym c.self.view_is) c.requires.few in
    let none : waiting c.self.inside.journal.entries c.args.queue ≡ [] = subst (λ (v : HistoryValue). waiting v.entries c.args.queue ≡ []) (sym c.self.view_is) c.requires.none in
    kept_at c.push.ensures.entries (kept-empty c.args.client c.args.queue c.args.stamp _ _ c.self.invariant near later few none (length-set c.self.inside.clients.items c.args.client c.empty.new.self)
    (changed c.self.inside.clients.items c.args.client c.index_mut.result.now c.empty.new.self (after_reply (reply.Empty c.args.queue)) near c.index_mut.ensures.value c.empty.ensures))

pub returns-clause-whole : goal.returns-clause-whole
returns-clause-whole c =
    let near : c.args.client < length c.self.inside.clients.items = subst (λ (v : HistoryValue). c.args.client < length v.clients) (sym c.self.view_is) c.requires.ready.near in
    rw (← c.self.view_is) (whole-step c.self.inside.journal.entries c.push.new.self.entries (record { event = event.Empty c.args.client c.args.queue; stamp = c.args.stamp }) c.self.inside.clients.items c.args.client c.index_mut.result.now c.empty.new.self (reply.Empty c.args.queue) (reply.Empty c.args.queue) near c.index_mut.ensures.value (ap (λ (a : Account). a.replies) c.empty.ensures) refl c.push.ensures.entries (λ k. refl))
