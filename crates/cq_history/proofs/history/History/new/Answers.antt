use Rattle.std.proofs.Common.{◌≡◌, List, [], ap, ◌∙◌, arith}
use Rattle.cq_journal.specs.declared.event.Event.TheVariants as event
use Rattle.cq_journal.specs.declared.event.Entry.{Entry}
use Rattle.cq_history.specs.History.{account_at}
use Rattle.cq_history.specs.Steps.{noted}
use Rattle.cq_history.proofs.Steps.{kept_at}
use Rattle.cq_history.proofs.Beginning.{kept-opened}
use Rattle.cq_history.proofs.history.History.new.Goals as goal

pub invariant_of-result : goal.invariant_of-result
invariant_of-result c =
    let is : c.push.new.self.entries ≡ noted (event.Opened c.args.lines) c.args.stamp [] = c.push.ensures.entries ∙ ap (λ (p : List Entry). noted (event.Opened c.args.lines) c.args.stamp p) (c.reserve.ensures.entries ∙ c.new-journal.ensures) in
    kept_at is (kept-opened c.args.stamp _ c.args.lines c.args.taken.items (account_at c.in_ok-clients.clients.items) c.new-2.result c.in_ok-ids.ids c.requires.lines c.requires.taken (omega (arith, c.in_ok-clients.ensures.0)) c.in_ok-clients.ensures.1 c.new-2.ensures c.in_ok-ids.ensures.same c.in_ok-ids.ensures.first c.in_ok-ids.ensures.none)
