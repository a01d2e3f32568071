use Rattle.std.proofs.Common.{sym, subst}
use Rattle.cq_core.specs.Core.{IsNextId}
use Rattle.cq_history.specs.History.{HistoryValue}
use Rattle.cq_history.proofs.Publishing.{next-id}
use Rattle.cq_history.proofs.history.History.next_id.Goals as goal

pub returns : goal.returns
returns c = subst (λ (v : HistoryValue). IsNextId v.entries c.next.result) c.self.view_is (subst (IsNextId c.self.inside.journal.entries) (sym c.next.ensures.next) (next-id c.self.invariant))
