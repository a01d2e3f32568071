use Rattle.std.proofs.Common.{arith, refl, sym, ℕ, ◌<◌, subst}
use Rattle.cq_flying.proofs.Steps.{tries_allowed}
use Rattle.cq_flying.proofs.client.OwnEnd.drop_at.Goals as goal

pub compare_exchange-requires : goal.compare_exchange-requires
compare_exchange-requires c = (c.requires.0, subst (λ (z : ℕ). c.args.word < z) (sym c.args.words.now.sized) c.requires.1, tries_allowed _ _ _ _ c.args.delivery _ _ c.requires.1 refl (omega arith) refl c.args.self.now.role)
