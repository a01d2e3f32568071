use Rattle.std.proofs.Common.{arith, sym, ap, ◌∙◌, ℕ, ◌<◌, subst, List, Contains}
use Rattle.cq_flying.proofs.Comings.{joins}
use Rattle.cq_flying.proofs.Steps.{settles_allowed}
use Rattle.cq_flying.proofs.client.ClientWords.close.Goals as goal

pub join_seat-requires : goal.join_seat-requires
join_seat-requires c = (c.requires.0, c.requires.1, c.args.look_end.empty, subst (λ (z : ℕ). 0 < z) (sym c.args.self.sized) (omega arith), joins _ _ _ _ c.args.own_end.role c.args.look_end.role)

pub load-requires : goal.load-requires
load-requires c =
    let e = c.join_seat.ensures in
    (e.0 ∙ c.requires.0, subst (λ (z : ℕ). 0 < z) (sym c.args.self.sized) (omega arith), settles_allowed _ _ _ _ (ap (λ m. m.0.owns) e.2 ∙ c.args.own_end.role) (ap (λ m. m.0.looks) e.2 ∙ c.args.look_end.role))

pub returns : goal.returns
returns c = λ d h.
    let e = c.join_seat.ensures in
    let dropped = ap (λ m. m.0.dropped) e.2 in
    let seen = ap (λ m. m.0.seen) e.2 in
    subst (λ (l : List ℕ). Contains l d) dropped (c.load.ensures.2.1 d (subst (λ (l : List ℕ). Contains l d) (sym seen) h))
