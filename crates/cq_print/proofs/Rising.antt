-- What the entries of a map give, one after another, by their keys from 0 on.
use Rattle.std.proofs.Common.{◌≡◌, ℕ, zero, suc, ◌≤◌, ◌<◌, ◌+◌, true, false, cond, List, [], ◌∷◌, ◌++◌, filter, refl, sym, ap, ◌∙◌, append-nil, arith}
use Rattle.std.specs.Prelude.{◌==◌, nat_lt, Option, None, Some}
use Rattle.std.specs.List.{AllByRecursion, flat_map}
use Rattle.std.specs.List.Sorted.{IsStrictlySortedBy}
use Rattle.std.specs.Ordering.{nat_cmp, is_eq}
use Rattle.std.specs.declared.cmp.Ordering.TheVariants.{Less}
use Rattle.std.specs.Cmp.{unsigned_tied}
use Rattle.std.specs.Map.{keys_of, lookup}
use Rattle.std.specs.BTreeMap.{is_at}
use Rattle.std.proofs.lemmas.Bool.{eqb-true, eqb-false, eq-eqb, lt-ltb, le-ltb, ltb-false}
use Rattle.std.proofs.lemmas.Bool.Decides.{nat_tests}
use Rattle.std.proofs.lemmas.List.Concat.{flat_map-append}
use Rattle.std.proofs.lemmas.Map.Keys.{sorted_head, sorted_tail}

-- the entries with keys below a number
abbrev below : {V : Type 0} → ℕ → List (ℕ × V) → List (ℕ × V)
below n es = filter (λ e. nat_lt e.0 n) es

-- what a look-up found, with its key
abbrev pub found : {V : Type 0} → ℕ → Option V → List (ℕ × V)
found n None = []
found n (Some v) = (n, v) ∷ []

at-self : (k : ℕ) → is_at (nat_cmp k) k ≡ true
at-self k = unsigned_tied k k ∙ eq-eqb k k refl

less : (x y : ℕ) → nat_cmp x y ≡ Less → x < y
less x y h = grind (arith, nat_tests)

none-below : {V : Type 0} (n k : ℕ) (es : List (ℕ × V)) → n ≤ k + 1 → AllByRecursion (λ y. nat_cmp k y ≡ Less) (keys_of es) → below n es ≡ []
none-below n k [] h a = refl
none-below n k (e ∷ es) h a =
    let above = less k e.0 a.0 in
    ap (λ b. cond b (e ∷ below n es) (below n es)) (le-ltb e.0 n (omega arith)) ∙ none-below n k es h a.1

none-below-zero : {V : Type 0} (es : List (ℕ × V)) → below 0 es ≡ []
none-below-zero [] = refl
none-below-zero (e ∷ es) = ap (λ b. cond b (e ∷ below 0 es) (below 0 es)) (le-ltb e.0 0 (omega arith)) ∙ none-below-zero es

-- a key isn't found among greater ones
not-found : {V : Type 0} (k : ℕ) (es : List (ℕ × V)) → AllByRecursion (λ y. nat_cmp k y ≡ Less) (keys_of es) → lookup (is_at (nat_cmp k)) es ≡ None
not-found k [] a = refl
not-found k (e ∷ es) a = ap (λ o. cond (is_eq o) (Some e.1) (lookup (is_at (nat_cmp k)) es)) a.0 ∙ not-found k es a.1

-- below the next number stands what is below this one, and what a look-up of it finds
next-below : {V : Type 0} (n : ℕ) (es : List (ℕ × V)) → IsStrictlySortedBy nat_cmp (keys_of es) → below (suc n) es ≡ below n es ++ found n (lookup (is_at (nat_cmp n)) es)
next-below n [] s = refl
next-below n (e ∷ es) s =
    let head = sorted_head nat_cmp e.0 (keys_of es) s in
    let tail = next-below n es (sorted_tail nat_cmp e.0 (keys_of es) s) in
    (elim (n == e.0) as (λ b. (n == e.0) ≡ b → below (suc n) (e ∷ es) ≡ below n (e ∷ es) ++ found n (cond b (Some e.1) (lookup (is_at (nat_cmp n)) es))) [
      | true ↦ λ t. (
          let same = eqb-true n e.0 t in
          ap (λ b. cond b (e ∷ below (suc n) es) (below (suc n) es)) (lt-ltb e.0 (suc n) (omega (arith, same)))
          ∙ ap (λ xs. e ∷ xs) (none-below (suc n) e.0 es (omega (arith, same)) head)
          ∙ ap (λ k. (k, e.1) ∷ []) (sym same)
          ∙ ap (λ xs. xs ++ (n, e.1) ∷ []) (sym (none-below n e.0 es (omega (arith, same)) head))
          ∙ ap (λ b. cond b (e ∷ below n es) (below n es) ++ (n, e.1) ∷ []) (sym (le-ltb e.0 n (omega (arith, same)))))
      | false ↦ λ t. (
          let apart = eqb-false n e.0 t in
          ap (λ b. cond b (e ∷ below (suc n) es) (below (suc n) es)) (same-test n e.0 apart)
          ∙ (elim (nat_lt e.0 n) as (λ b. cond b (e ∷ below (suc n) es) (below (suc n) es) ≡ cond b (e ∷ below n es) (below n es) ++ found n (lookup (is_at (nat_cmp n)) es)) [
            | true ↦ ap (λ xs. e ∷ xs) tail
            | false ↦ tail
          ]))
    ]) refl
    ∙ ap (λ b. below n (e ∷ es) ++ found n (cond b (Some e.1) (lookup (is_at (nat_cmp n)) es))) (sym (unsigned_tied n e.0))
  where
    same-test : (n k : ℕ) → (n ≡ k → ⊥) → nat_lt k (suc n) ≡ nat_lt k n
    same-test n k apart = grind (arith, nat_tests)

-- ---- what they give

module _ {V A : Type 0} (f : ℕ × V → List A) where
  -- what the entry of a key gives
  abbrev pub given : List (ℕ × V) → ℕ → List A
  given es q = flat_map f (found q (lookup (is_at (nat_cmp q)) es))

  given-rest : (e : ℕ × V) (es : List (ℕ × V)) (q : ℕ) → AllByRecursion (λ y. nat_cmp e.0 y ≡ Less) (keys_of es) → given (e ∷ es) q ≡ [] → given es q ≡ []
  given-rest e es q a h =
      (elim (q == e.0) as (λ b. (q == e.0) ≡ b → flat_map f (found q (cond b (Some e.1) (lookup (is_at (nat_cmp q)) es))) ≡ [] → given es q ≡ []) [
        | true ↦ λ t h. ap (λ k. given es k) (eqb-true q e.0 t) ∙ ap (λ o. flat_map f (found e.0 o)) (not-found e.0 es a)
        | false ↦ λ t h. h
      ]) refl (ap (λ b. flat_map f (found q (cond b (Some e.1) (lookup (is_at (nat_cmp q)) es)))) (sym (unsigned_tied q e.0)) ∙ h)

  all-below : (n : ℕ) (es : List (ℕ × V)) → IsStrictlySortedBy nat_cmp (keys_of es) → ((q : ℕ) → n ≤ q → given es q ≡ []) → flat_map f (below n es) ≡ flat_map f es
  all-below n [] s h = refl
  all-below n (e ∷ es) s h =
      let head = sorted_head nat_cmp e.0 (keys_of es) s in
      let tail = all-below n es (sorted_tail nat_cmp e.0 (keys_of es) s) (λ q l. given-rest e es q head (h q l)) in
      (elim (nat_lt e.0 n) as (λ b. nat_lt e.0 n ≡ b → flat_map f (cond b (e ∷ below n es) (below n es)) ≡ f e ++ flat_map f es) [
        | true ↦ λ t. ap (λ xs. f e ++ xs) tail
        | false ↦ λ t. (
            let none : f e ≡ [] =
            sym (append-nil (f e))
            ∙ ap (λ b. flat_map f (found e.0 (cond b (Some e.1) (lookup (is_at (nat_cmp e.0)) es)))) (sym (at-self e.0))
            ∙ h e.0 (ltb-false e.0 n t) in
            tail ∙ ap (λ xs. xs ++ flat_map f es) (sym none))
      ]) refl

  told-below : (text : ℕ → List A) (es : List (ℕ × V)) (n : ℕ) → IsStrictlySortedBy nat_cmp (keys_of es) → text 0 ≡ [] → ((q : ℕ) → text (suc q) ≡ text q ++ given es q)
      → flat_map f (below n es) ≡ text n
  told-below text es zero s z h = ap (flat_map f) (none-below-zero es) ∙ sym z
  told-below text es (suc n) s z h =
      ap (flat_map f) (next-below n es s)
      ∙ flat_map-append f (below n es) (found n (lookup (is_at (nat_cmp n)) es))
      ∙ ap (λ xs. xs ++ given es n) (told-below text es n s z h)
      ∙ sym (h n)

  -- a text that grows from key to key is what all entries give, at a number from which on no key gives anything
  pub told-rising : (text : ℕ → List A) (es : List (ℕ × V)) (n : ℕ) → IsStrictlySortedBy nat_cmp (keys_of es) → text 0 ≡ [] → ((q : ℕ) → text (suc q) ≡ text q ++ given es q)
      → ((q : ℕ) → n ≤ q → given es q ≡ []) → flat_map f es ≡ text n
  told-rising text es n s z h e = sym (all-below n es s e) ∙ told-below text es n s z h
