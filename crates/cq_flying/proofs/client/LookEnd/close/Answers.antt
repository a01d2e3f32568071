use Rattle.std.proofs.Common.{arith, refl, sym, ap, ◌≡◌, ℕ, ◌<◌, subst, List, length, set}
use Rattle.cq_inbox.specs.Flags.{Leaves}
use Rattle.cq_flying.specs.Rule.{IsOnce}
use Rattle.cq_flying.specs.Ends.{opened, names}
use Rattle.cq_flying.proofs.Steps.{names_allowed}
use Rattle.cq_flying.proofs.Opened.{opened_at, name_leaves}
use Rattle.cq_flying.proofs.client.LookEnd.close.Goals as goal

pub unreachable-requires : goal.unreachable-requires
unreachable-requires c =
    let me = c.args.self.now in
    let at = opened_at (names me) c.args.delivery c.requires.opened in
    let near : at.0 < 64 = subst (λ (n : ℕ). at.0 < n) me.long at.1 in
    c.in_default.ensures at.0 0 (omega arith) near at.2

pub store-requires : goal.store-requires
store-requires c =
    let me = c.args.self.now in
    let i : ℕ = c.in-Some.word in
    let near : i < 64 = c.in-Some.ensures.0 in
    (c.requires.words, subst (λ (z : ℕ). i < z) (sym c.args.words.now.sized) near, names_allowed _ _ _ _ 0 _ near refl refl (λ (p : 0 < 0). absurd (omega arith)) me.role)

pub returns-clause-opened : goal.returns-clause-opened
returns-clause-opened c =
    let me = c.args.self.now in
    let i : ℕ = c.in-Some.word in
    let d : ℕ = c.args.delivery in
    let new : c.store.new.seat.me.0.names ≡ set (names me) i 0 = ap (λ m. m.0.names) c.store.ensures.2 in
    let near : i < length (names me) = subst (λ (n : ℕ). i < n) (sym me.long) c.in-Some.ensures.0 in
    let once : IsOnce (names me) = subst (λ (l : List ℕ). IsOnce l) (sym me.kept) me.once in
    subst (λ (l : List ℕ). Leaves d (opened (names me)) (opened l)) (sym new) (name_leaves (names me) i d once near (c.in-Some.ensures.1 0))
