-- How what is shown changes with one place.
use Rattle.std.proofs.Common.{ℕ, ◌≡◌, ◌<◌, ◌≤◌, suc, zero, Bool, true, false, List, [], ◌∷◌, Option, Some, None, length, get_or, set, map, replicate, refl, sym, ap, ◌∙◌, subst, arith}
use Rattle.cq_notice.specs.Shown.{Shown, shown_at, shown_all, told_one, Tells}

module _ {B : Type 0} (t : B → Option (List (ℕ × ℕ))) (f : B → ℕ) where
  pub length-shown : (os : List (Option B)) (ss : List Bool) → length (shown_all t f os ss) ≡ length os
  length-shown [] ss = refl
  length-shown (o ∷ os) [] = ap suc (length-shown os [])
  length-shown (o ∷ os) (s ∷ ss) = ap suc (length-shown os ss)

  -- what is shown of one place
  pub shown-at : (os : List (Option B)) (ss : List Bool) (c : ℕ) → get_or (shown_all t f os ss) c None ≡ shown_at t f (get_or os c None) (get_or ss c false)
  shown-at [] ss c = refl
  shown-at (o ∷ os) [] zero = refl
  shown-at (o ∷ os) (s ∷ ss) zero = refl
  shown-at (o ∷ os) [] (suc c) = shown-at os [] c
  shown-at (o ∷ os) (s ∷ ss) (suc c) = shown-at os ss c

  -- of boxes of which none is silent
  pub shown-loud : (os : List (Option B)) (n : ℕ) → shown_all t f os (replicate n false) ≡ map (λ o. shown_at t f o false) os
  shown-loud [] n = refl
  shown-loud (o ∷ os) zero = ap (λ (l : List (Option Shown)). shown_at t f o false ∷ l) (shown-loud os zero)
  shown-loud (o ∷ os) (suc n) = ap (λ (l : List (Option Shown)). shown_at t f o false ∷ l) (shown-loud os n)

  -- a place is emptied
  pub shown-emptied : (os : List (Option B)) (ss : List Bool) (c : ℕ) → shown_all t f (set os c None) ss ≡ set (shown_all t f os ss) c None
  shown-emptied [] ss c = refl
  shown-emptied (o ∷ os) [] zero = refl
  shown-emptied (o ∷ os) (s ∷ ss) zero = refl
  shown-emptied (o ∷ os) [] (suc c) = ap (λ (l : List (Option Shown)). shown_at t f o false ∷ l) (shown-emptied os [] c)
  shown-emptied (o ∷ os) (s ∷ ss) (suc c) = ap (λ (l : List (Option Shown)). shown_at t f o s ∷ l) (shown-emptied os ss c)

  -- a place and its silence are written
  pub shown-set : (os : List (Option B)) (ss : List Bool) (c : ℕ) (o : Option B) (s : Bool) → c < length ss
      → shown_all t f (set os c o) (set ss c s) ≡ set (shown_all t f os ss) c (shown_at t f o s)
  shown-set os [] c o s near = absurd (omega arith)
  shown-set [] (s' ∷ ss) c o s near = refl
  shown-set (o' ∷ os) (s' ∷ ss) zero o s near = refl
  shown-set (o' ∷ os) (s' ∷ ss) (suc c) o s near = ap (λ (l : List (Option Shown)). shown_at t f o' s' ∷ l) (shown-set os ss c o s (omega arith))

pub set-past : {A : Type 0} (xs : List A) (c : ℕ) (x : A) → length xs ≤ c → set xs c x ≡ xs
set-past {A} [] c x far = refl
set-past {A} (y ∷ ys) zero x far = absurd (omega arith)
set-past {A} (y ∷ ys) (suc c) x far = ap (λ (l : List A). y ∷ l) (set-past ys c x (omega arith))

set-same : {A : Type 0} (xs : List A) (c : ℕ) (x : A) → set xs c (get_or xs c x) ≡ xs
set-same {A} [] c x = refl
set-same {A} (y ∷ ys) zero x = refl
set-same {A} (y ∷ ys) (suc c) x = ap (λ (l : List A). y ∷ l) (set-same ys c x)

module _ {B : Type 0} (t : B → Option (List (ℕ × ℕ))) (f : B → ℕ) (client session number : ℕ) (os : List (Option B)) (ss : List Bool) where
  abbrev pub before : List (Option Shown)
  before = shown_all t f os ss

  -- a client that has no place
  pub tells-past : length os ≤ client → Tells client session number before before
  tells-past far = (false, sym (set-past before client (told_one session number false (get_or before client None)) (subst (λ n. n ≤ client) (sym (length-shown t f os ss)) far)))

  quiet : (o : Option B) → told_one session number false (shown_at t f o true) ≡ shown_at t f o true
  quiet None = refl
  quiet (Some b) = refl

  -- a box that is silent
  pub tells-silent : get_or ss client false ≡ true → Tells client session number before before
  tells-silent silent =
      let is : get_or before client None ≡ shown_at t f (get_or os client None) true = shown-at t f os ss client ∙ ap (λ (s : Bool). shown_at t f (get_or os client None) s) silent in
      (false, sym (set-same before client None) ∙ ap (λ (o : Option Shown). set before client o) (is ∙ (sym (quiet (get_or os client None)) ∙ ap (λ (o : Option Shown). told_one session number false o) (sym is))))

  -- a box that is told
  pub tells-one : (o o' : Option B) (failed : Bool) → client < length ss → get_or ss client false ≡ false → get_or os client None ≡ o
      → shown_at t f o' failed ≡ told_one session number failed (shown_at t f o false)
      → Tells client session number before (shown_all t f (set os client o') (set ss client failed))
  tells-one o o' failed near loud is told =
      let was : shown_at t f o false ≡ get_or before client None = (λ i. shown_at t f (sym is i) (sym loud i)) ∙ sym (shown-at t f os ss client) in
      (failed, shown-set t f os ss client o' failed near ∙ ap (λ (p : Option Shown). set before client p) (told ∙ ap (λ (p : Option Shown). told_one session number failed p) was))
