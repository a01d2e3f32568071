-- A list of queues has 256 numbers at most.
use Rattle.std.proofs.Common.{◌≡◌, ℕ, ◌<◌, ◌≤◌, Bool, true, false, eqb, List, [], ◌∷◌, length, refl, sym, subst}
use Rattle.std.specs.Prelude.{◌||◌, ◌==◌}
use Rattle.std.specs.List.{AllByRecursion, IsDistinct, list_any}
use Rattle.std.proofs.lemmas.Bool.{or_parts, eqb-true, eqb-false, ne_eqb}
use Rattle.std.proofs.lemmas.Map.Steps.{length-le_from_distinct_below}
use Rattle.cq_bytes.specs.Numbers.{contains, AreQueues}

apart : (x : ℕ) (xs : List ℕ) → contains xs x ≡ false → AllByRecursion (λ y. eqb x y ≡ false) xs
apart x [] h = tt
apart x (y ∷ ys) h = let p = or_parts (y == x) (contains ys x) h in (ne_eqb x y (λ e. eqb-false y x p.0 (sym e)), apart x ys p.1)

distinct : (qs : List ℕ) → AreQueues qs → IsDistinct eqb qs
unfolding IsDistinct
distinct [] a = tt
distinct (q ∷ qs) a = (apart q qs a.1, distinct qs a.2)

one-below : (q x : ℕ) (b rest : Bool) → eqb q x ≡ b → x < 256 → (rest ≡ true → q < 256) → (b || rest) ≡ true → q < 256
one-below q x true rest e small later h = subst (λ k. k < 256) (sym (eqb-true q x e)) small
one-below q x false rest e small later h = later h

below : (qs : List ℕ) → AreQueues qs → (q : ℕ) → list_any (eqb q) qs ≡ true → q < 256
below [] a q h = cc
below (x ∷ xs) a q h = one-below q x (eqb q x) (list_any (eqb q) xs) refl a.0 (below xs a.2 q) h

pub few-queues : (qs : List ℕ) → AreQueues qs → length qs ≤ 256
few-queues qs a = length-le_from_distinct_below qs 256 (distinct qs a) (below qs a)
