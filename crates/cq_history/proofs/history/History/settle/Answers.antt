use Rattle.std.proofs.Common.{◌≡◌, ◌≤◌, true, false, sym, subst, refl}
use Rattle.cq_bytes.specs.Numbers.{contains}
use Rattle.cq_journal.specs.History.{acked, settled}
use Rattle.cq_journal.specs.Legal.{newest}
use Rattle.cq_history.specs.History.{HistoryValue}
use Rattle.cq_history.proofs.Steps.{kept-settled, kept_at}
use Rattle.cq_journal.specs.declared.event.Event.TheVariants as event
use Rattle.cq_history.proofs.Whole.{whole-quiet}
use Rattle.cq_history.proofs.history.History.settle.Goals as goal

pub invariant_of-self : goal.invariant_of-self
invariant_of-self c =
    let later : newest c.self.inside.journal.entries ≤ c.args.stamp = subst (λ (v : HistoryValue). newest v.entries ≤ c.args.stamp) (sym c.self.view_is) c.requires.later in
    let gone : contains (acked c.self.inside.journal.entries c.args.queue) c.args.id ≡ true = subst (λ (v : HistoryValue). contains (acked v.entries c.args.queue) c.args.id ≡ true) (sym c.self.view_is) c.requires.acked in
    let here : contains (settled c.self.inside.journal.entries c.args.queue) c.args.id ≡ false = subst (λ (v : HistoryValue). contains (settled v.entries c.args.queue) c.args.id ≡ false) (sym c.self.view_is) c.requires.unsettled in
    kept_at c.push.ensures.entries (kept-settled c.args.queue c.args.id c.args.stamp c.self.invariant later gone here)

pub returns-clause-whole : goal.returns-clause-whole
returns-clause-whole c = rw (← c.self.view_is) (whole-quiet c.self.inside.journal.entries c.push.new.self.entries (record { event = event.Settled c.args.queue c.args.id; stamp = c.args.stamp }) c.self.inside.clients.items c.push.ensures.entries (λ k. refl))
