use Rattle.std.proofs.Common.{sym, ap, ◌∙◌, ◌≡◌, ◌≢◌, ℕ, ◌+◌, ◌*◌, ◌++◌, ◌∷◌, [], List, append_assoc, length-append}
use Rattle.std.specs.Prelude.{⊤, MatchBool}
use Rattle.std.proofs.Common.{Bool, true, false, inr}
use mathlib.Core.Option.{some}
use lib.ListN.{get_elem?}
use Rattle.atomic_table.proofs.Lists.{at_last}
use Rattle.cq_inbox.proofs.Places.{all_more}
use Rattle.cq_flying.proofs.client.OwnEnd.drop_delivery.Goals as goal

pub loop-word-preserved : goal.loop-word-preserved
loop-word-preserved c =
    let i = c.loop-word.invariant in
    let e = c.load.ensures in
    let found : List (ℕ × ℕ) = i.none.0 in
    let one : ℕ × ℕ = (c.loop-word.word, c.load.result) in
    let w : ℕ = 2 * (c.args.delivery + 1) in record {
      same = e.same.0 ∙ i.same;
      dropped = e.same.1 ∙ i.dropped;
      tried = e.same.2 ∙ i.tried;
      none = (
        found ++ one ∷ [],
        e.look ∙ (ap (λ (l : List (ℕ × ℕ)). l ++ one ∷ []) i.none.1 ∙ append_assoc _ found (one ∷ [])),
        (
          length-append found (one ∷ []) ∙ ap (λ (z : ℕ). z + 1) i.none.2.0,
          all_more (λ (k : ℕ) (p : ℕ × ℕ). (p.0 ≡ k) × (p.1 ≢ w)) found one i.none.2.1 (sym i.none.2.0, c.if-load-out.false),
        ),
      );
    }

-- where the answer is false
on_false : (b : Bool) (P Q R : Type 0) → (Q → R) → MatchBool b P Q → MatchBool b ⊤ R
on_false true P Q R f h = tt
on_false false P Q R f h = f h

pub returns-then-load-out-clause-cause : goal.returns-then-load-out-clause-cause
returns-then-load-out-clause-cause c =
    let i = c.loop-word.invariant in
    let k : ℕ = c.loop-word.word in
    let w : ℕ = 2 * (c.args.delivery + 1) in
    let found : List (ℕ × ℕ) = i.none.0 in
    let hit : ℕ × ℕ = (k, c.load.result) in
    let looks = c.drop_at.ensures.same.1 ∙ (c.load.ensures.look ∙ (ap (λ (l : List (ℕ × ℕ)). l ++ hit ∷ []) i.none.1 ∙ append_assoc _ found (hit ∷ []))) in
    let at : get_elem? (found ++ hit ∷ []) k ≡ some (k, w) = at_last found hit k i.none.2.0 ∙ ap (λ (z : ℕ). some (k, z)) c.if-load-out.true in
    let tries = c.load.ensures.same.2 ∙ i.tried in
    on_false c.drop_at.result _ _ _ (λ h. (found ++ hit ∷ [], looks, inr (k, h.1.0, at, h.1.1, h.1.2 ∙ ap (λ (l : List (ℕ × ℕ)). l ++ (k, h.1.0) ∷ []) tries))) c.drop_at.ensures.done
