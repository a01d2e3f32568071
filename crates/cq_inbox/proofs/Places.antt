-- The elements of a list at their places.
use Rattle.std.proofs.Common.{◌≡◌, ℕ, zero, suc, ◌<◌, ◌⊎◌, inl, inr, List, [], ◌∷◌, ◌++◌, length, sym, refl, ap, subst, ⊎_elim, arith}
use mathlib.Core.Option.{some, some-injective, some-ne-none}
use lib.ListN.{get_elem?}

module _ {X : Type 0} where
  -- an element of the longer list was there, or is the new one
  pub snoc_cases : (l : List X) (a b : X) (j : ℕ) → get_elem? (l ++ a ∷ []) j ≡ some b → ((get_elem? l j ≡ some b) ⊎ ((j ≡ length l) × (a ≡ b)))
  snoc_cases [] a b zero e = inr (refl, some-injective a b e)
  snoc_cases [] a b (suc j) e = absurd (some-ne-none b (sym e))
  snoc_cases (x ∷ xs) a b zero e = inl e
  snoc_cases (x ∷ xs) a b (suc j) e = ⊎_elim (λ h. inl h) (λ h. inr (ap suc h.0, h.1)) (snoc_cases xs a b j e)

  -- what holds of each element and its place, after one more
  pub all_more : (P : ℕ → X → Type 0) (l : List X) (a : X) → ((k : ℕ) (w : X) → get_elem? l k ≡ some w → P k w) → P (length l) a → (k : ℕ) (w : X) → get_elem? (l ++ a ∷ []) k ≡ some w → P k w
  all_more P l a old new k w e = ⊎_elim (λ h. old k w h) (λ (h : (k ≡ length l) × (a ≡ w)). subst (λ (y : ℕ × X). P y.0 y.1) (λ i. (sym h.0 i, h.1 i)) new) (snoc_cases l a w k e)

  pub inside : (l : List X) (k : ℕ) (w : X) → get_elem? l k ≡ some w → k < length l
  inside [] k w e = absurd (some-ne-none w (sym e))
  inside (x ∷ xs) zero w e = omega arith
  inside (x ∷ xs) (suc k) w e = let h = inside xs k w e in omega arith

  pub in_front : (l m : List X) (k : ℕ) (w : X) → k < length l → get_elem? (l ++ m) k ≡ some w → get_elem? l k ≡ some w
  in_front [] m k w lt e = absurd (omega arith)
  in_front (x ∷ xs) m zero w lt e = e
  in_front (x ∷ xs) m (suc k) w lt e = in_front xs m k w (omega arith) e

  pub there : (l : List X) (k : ℕ) → k < length l → (x : X) × (get_elem? l k ≡ some x)
  there [] k lt = absurd (omega arith)
  there (x ∷ xs) zero lt = (x, refl)
  there (x ∷ xs) (suc k) lt = there xs k (omega arith)
