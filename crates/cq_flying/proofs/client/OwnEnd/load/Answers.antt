use Rattle.std.proofs.Common.{sym, ℕ, ◌<◌, subst}
use Rattle.cq_flying.proofs.Steps.{loads_allowed}
use Rattle.cq_flying.proofs.client.OwnEnd.load.Goals as goal

pub load-requires : goal.load-requires
load-requires c = (c.requires.0, subst (λ (z : ℕ). c.args.word < z) (sym c.args.words.now.sized) c.requires.1, loads_allowed _ _ _ _)
