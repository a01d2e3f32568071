use Rattle.std.proofs.Common.{◌≡◌, ℕ, ◌≤◌, ◌%◌, ◌^◌, true, false, sym, subst, ◌∙◌}
use Rattle.cq_pack.specs.Holes.{NoneIs, IsFirstOf}
use Rattle.std.specs.Ordering.{nat_cmp}
use Rattle.std.specs.BTreeSet.{contains}
use Rattle.std.specs.Option.{MatchOption}
use Rattle.cq_pack.proofs.Keys.{exact_found, exact_other, exact_none}
use Rattle.cq_pack.proofs.sizes.Sizes.exact.Goals as goal

pub returns-in_err-found : goal.returns-in_err-found
returns-in_err-found c =
    subst (λ r. MatchOption r (NoneIs c.args.size c.args.self.now) (IsFirstOf c.args.size c.args.self.now)) (sym c.from_residual.ensures)
    (subst (NoneIs c.args.size) c.self.view_is (exact_none c.self.inside.sizes.items c.self.inside.greatest c.self.inside.keys c.args.size c.self.invariant (subst (λ (n : ℕ). (q : ℕ) → n ≤ q → contains nat_cmp c.self.inside.keys q ≡ false) c.key.ensures c.in_err-found.ensures.none)))

pub returns-then-found-from : goal.returns-then-found-from
returns-then-found-from c =
    subst (λ l. IsFirstOf c.args.size l (c.in_ok-found.found % 2 ^ 64)) c.self.view_is
    (exact_found c.self.inside.sizes.items c.self.inside.greatest c.self.inside.keys c.args.size c.in_ok-found.found c.self.invariant c.in_ok-found.ensures.there
    (subst (λ (n : ℕ). (q : ℕ) → n ≤ q → contains nat_cmp c.self.inside.keys q ≡ true → c.in_ok-found.found ≤ q) c.key.ensures c.in_ok-found.ensures.least)
    (c.if-found-from.true ∙ c.from.ensures))

pub returns-else-found-from : goal.returns-else-found-from
returns-else-found-from c =
    subst (NoneIs c.args.size) c.self.view_is
    (exact_other c.self.inside.sizes.items c.self.inside.greatest c.self.inside.keys c.args.size c.in_ok-found.found c.self.invariant
    (subst (λ (n : ℕ). n ≤ c.in_ok-found.found) c.key.ensures c.in_ok-found.ensures.from)
    (subst (λ (n : ℕ). (q : ℕ) → n ≤ q → contains nat_cmp c.self.inside.keys q ≡ true → c.in_ok-found.found ≤ q) c.key.ensures c.in_ok-found.ensures.least)
    (λ e. c.if-found-from.false (e ∙ sym c.from.ensures)))
