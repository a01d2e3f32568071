use Rattle.std.proofs.Common.{◌≡◌, [], ap, ◌∙◌, subst}
use Rattle.cq_journal.specs.declared.event.Event.TheVariants as event
use Rattle.cq_journal.specs.Legal.{Legal}
use Rattle.cq_history.specs.History.{HistoryValue}
use Rattle.cq_history.specs.Steps.{noted}
use Rattle.cq_broker.proofs.Beginning.{all-empty, begins}
use Rattle.cq_broker.proofs.broker.Broker.vacant.Goals as goal

pub invariant_of-result : goal.invariant_of-result
invariant_of-result c =
    let queues = c.in_ok-queues.queues in
    let past : c.in_ok-history.history.entries ≡ noted (event.Opened []) c.args.stamp [] = c.in_ok-history.ensures.opened ∙ ap (λ l. noted (event.Opened l) c.args.stamp []) c.new-lines.ensures in
    record {
      legal = subst (λ (v : HistoryValue). Legal v.entries) c.history.view_is c.history.invariant.legal;
      in_memory = ∣ begins queues c.args.stamp c.in_ok-history.history.entries c.in_ok-history.history.lacks past c.in_ok-history.ensures.lacks (all-empty queues c.args.most c.in_ok-queues.ensures.empty) ∣₁;
    }
