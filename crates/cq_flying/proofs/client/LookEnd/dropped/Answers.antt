use Rattle.std.proofs.Common.{arith, sym, ℕ, ◌<◌, subst}
use Rattle.cq_flying.specs.Ends.{names}
use Rattle.cq_flying.proofs.Steps.{looks_allowed}
use Rattle.cq_flying.proofs.Opened.{opened_at}
use Rattle.cq_flying.proofs.client.LookEnd.dropped.Goals as goal

pub unreachable-requires : goal.unreachable-requires
unreachable-requires c =
    let me = c.args.self.now in
    let at = opened_at (names me) c.args.delivery c.requires.opened in
    let near : at.0 < 64 = subst (λ (n : ℕ). at.0 < n) me.long at.1 in
    c.in_default.ensures at.0 0 (omega arith) near at.2

pub load-requires : goal.load-requires
load-requires c =
    let me = c.args.self.now in
    let i : ℕ = c.in-Some.word in
    let near : i < 64 = c.in-Some.ensures.0 in
    (c.requires.words, subst (λ (z : ℕ). i < z) (sym c.args.words.now.sized) near, looks_allowed _ _ _ _ near me.role)
