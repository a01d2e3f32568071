use Rattle.std.proofs.Common.{◌<◌, ◌≤◌, length, length-set, sym, subst, ap, refl}
use Rattle.cq_journal.specs.Legal.{newest}
use Rattle.cq_history.specs.Accounts.{after_end}
use Rattle.cq_history.specs.History.{HistoryValue}
use Rattle.cq_history.proofs.Lists.{changed}
use Rattle.cq_history.proofs.Steps.{kept-ended, kept_at}
use Rattle.cq_history.proofs.Whole.{whole-step}
use Rattle.cq_client.specs.Client.{Account}
use Rattle.cq_journal.specs.declared.event.Event.TheVariants as event
use Rattle.cq_journal.specs.declared.reply.Reply.TheVariants as reply
use Rattle.cq_history.proofs.history.History.end.Goals as goal

pub invariant_of-self : goal.invariant_of-self
invariant_of-self c =
    let near : c.args.client < length c.self.inside.clients.items = subst (λ (v : HistoryValue). c.args.client < length v.clients) (sym c.self.view_is) c.requires.ready.near in
    let later : newest c.self.inside.journal.entries ≤ c.args.stamp = subst (λ (v : HistoryValue). newest v.entries ≤ c.args.stamp) (sym c.self.view_is) c.requires.ready.later in
    kept_at c.push.ensures.entries (kept-ended c.args.client c.args.stamp _ _ c.self.invariant near later (length-set c.self.inside.clients.items c.args.client c.end.new.self)
    (changed c.self.inside.clients.items c.args.client c.index_mut.result.now c.end.new.self after_end near c.index_mut.ensures.value c.end.ensures))

pub returns-clause-whole : goal.returns-clause-whole
returns-clause-whole c =
    let near : c.args.client < length c.self.inside.clients.items = subst (λ (v : HistoryValue). c.args.client < length v.clients) (sym c.self.view_is) c.requires.ready.near in
    rw (← c.self.view_is) (whole-step c.self.inside.journal.entries c.push.new.self.entries (record { event = event.Ended c.args.client; stamp = c.args.stamp }) c.self.inside.clients.items c.args.client c.index_mut.result.now c.end.new.self reply.Ended reply.Ended near c.index_mut.ensures.value (ap (λ (a : Account). a.replies) c.end.ensures) refl c.push.ensures.entries (λ k. refl))
