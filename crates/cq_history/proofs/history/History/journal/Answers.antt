use Rattle.std.proofs.Common.{subst}
use Rattle.cq_journal.specs.Confirms.{AreConfirmed}
use Rattle.cq_history.specs.History.{HistoryValue, NoneLacks}
use Rattle.cq_history.specs.Kept.{AreDecided}
use Rattle.cq_history.proofs.Publishing.{all-confirmed}
use Rattle.cq_history.proofs.history.History.journal.Goals as goal

pub returns-clause-decided : goal.returns-clause-decided
returns-clause-decided c = subst (λ (v : HistoryValue). AreDecided v.entries v.lacks) c.self.view_is c.self.invariant.decided

pub returns-clause-confirmed : goal.returns-clause-confirmed
returns-clause-confirmed c = subst (λ (v : HistoryValue). NoneLacks v.lacks → AreConfirmed v.entries) c.self.view_is (all-confirmed c.self.invariant)
