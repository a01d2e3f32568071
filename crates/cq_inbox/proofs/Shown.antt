-- A fact that each element shows, after one element of a list is replaced.
use Rattle.std.proofs.Common.{◌≡◌, ℕ, zero, suc, ◌<◌, ◌≢◌, List, [], ◌∷◌, map, length, get_or, set, replicate, slice_get, Some, refl, sym, ap, ◌∙◌, subst, get_or-set_other, get_or-set_same}
use Rattle.std.proofs.lemmas.List.{get_or-map, map-set, get_or_default}
use Rattle.std.proofs.lemmas.Option.{slice_get-get_or}
use Rattle.atomic_table.proofs.Lists.{at_index}
use mathlib.Core.Option.{some, some-injective, some-ne-none}
use lib.ListN.{get_elem?, length-map}

module _ {X Y : Type 0} (f : X → Y) where
  -- elements at one place of lists that show the same are shown the same
  pub same_at : {Z : Type 0} (g : Z → Y) (xs : List X) (zs : List Z) (i : ℕ) (x : X) (z : Z) → map f xs ≡ map g zs → i < length xs → x ≡ get_or xs i x → z ≡ get_or zs i z → f x ≡ g z
  same_at g xs zs i x z e lt p q =
      let long : length zs ≡ length xs = sym (length-map zs g) ∙ (ap length (sym e) ∙ length-map xs f) in
      ap f p ∙ (sym (get_or-map f xs i x (f x) lt) ∙ (ap (λ l. get_or l i (f x)) e ∙ (get_or-map g zs i z (f x) (subst (λ (n : ℕ). i < n) (sym long) lt) ∙ sym (ap g q))))

  pub map_at : (xs : List X) (i : ℕ) (x : X) (d : Y) → get_elem? xs i ≡ some x → get_or (map f xs) i d ≡ f x
  map_at [] i x d e = absurd (some-ne-none x (sym e))
  map_at (z ∷ xs) zero x d e = ap f (some-injective z x e)
  map_at (z ∷ xs) (suc i) x d e = map_at xs i x d e

  -- the element that was read, and the one that stands there now
  pub set_shows : (R : Y → Y → Type 0) (xs : List X) (i : ℕ) (old new : X) (d : Y) → i < length xs → old ≡ get_or xs i old → R (f old) (f new) → R (get_or (map f xs) i d) (get_or (map f (set xs i new)) i d)
  set_shows R xs i old new d near read h =
      let near' : i < length (map f xs) = subst (λ (n : ℕ). i < n) (sym (length-map xs f)) near in
      let was : f old ≡ get_or (map f xs) i d = ap f read ∙ sym (get_or-map f xs i old d near) in
      let is : f new ≡ get_or (map f (set xs i new)) i d = sym (ap (λ (l : List Y). get_or l i d) (map-set f xs i new) ∙ get_or-set_same (map f xs) i (f new) d near') in
      subst (λ (y : Y × Y). R y.0 y.1) (λ k. (was k, is k)) h

  pub set_keeps : (xs : List X) (i k : ℕ) (new : X) (d : Y) → k ≢ i → get_or (map f (set xs i new)) k d ≡ get_or (map f xs) k d
  set_keeps xs i k new d ne = ap (λ (l : List Y). get_or l k d) (map-set f xs i new) ∙ get_or-set_other (map f xs) i k (f new) d ne

-- elements that stand at their own numbers are found by them
pub in_place : {X Y : Type 0} (number : X → ℕ) (f : X → Y) (xs : List X) (ys : List Y) → map f xs ≡ ys → ((c : ℕ) (x : X) → get_elem? xs c ≡ some x → number x ≡ c) → (k : ℕ) (d : X) → k < length xs → slice_get ys (number (get_or xs k d)) ≡ Some (f (get_or xs k d))
in_place {X} {Y} number f xs ys is places k d near =
    let x : X = get_or xs k d in
    let at : number x ≡ k = places k x (at_index xs k x near (get_or_default xs k d x near)) in
    let near' : k < length (map f xs) = subst (λ (n : ℕ). k < n) (sym (length-map xs f)) near in
    ap (slice_get ys) at ∙ (ap (λ (l : List Y). slice_get l k) (sym is) ∙ (slice_get-get_or (map f xs) k (f x) near' ∙ ap Some (get_or-map f xs k d (f x) near)))

-- each of so many empty lists is empty
pub none_each : {X : Type 0} (n c : ℕ) → ◌≡◌ {A = List X} (get_or (replicate n []) c []) []
none_each zero c = refl
none_each (suc n) zero = refl
none_each (suc n) (suc c) = none_each n c
