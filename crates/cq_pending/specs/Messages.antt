-- Messages in order, each with its id and its body.
use Rattle.std.specs.Prelude.{◌≡◌, ℕ, false, List, [], ◌∷◌, map, Option, Some, None, is_some, unwrap_or, if◌then◌else◌, ◌==◌}
use Rattle.std.specs.Ordering.{nat_cmp}
use Rattle.std.specs.FinMap.{FinMap, get}
use Rattle.cq_bytes.specs.Numbers.{contains}

-- the body of the first message with an id
abbrev pub body_of : List (ℕ × List ℕ) → ℕ → Option (List ℕ)
body_of [] id = None
body_of (m ∷ ms) id = if id == m.0 then Some m.1 else body_of ms id

-- no number stands twice
abbrev pub AreDifferent : List ℕ → Type 0
AreDifferent [] = Unit {0}
AreDifferent (x ∷ xs) = (contains xs x ≡ false) × AreDifferent xs

-- the ids of messages
abbrev pub ids_of : List (ℕ × List ℕ) → List ℕ
ids_of ms = map (λ m. m.0) ms

-- the messages with these ids, each with its body in the map
abbrev pub messages : List ℕ → FinMap nat_cmp (List ℕ) → List (ℕ × List ℕ)
messages ids bodies = map (λ id. (id, unwrap_or (get bodies id) [])) ids

-- the ids are different, and the map has a body for these and for no other
pub record IsHeld (ids : List ℕ) (bodies : FinMap nat_cmp (List ℕ)) : Type 0 where
  pub different : AreDifferent ids
  pub bodied : (q : ℕ) → is_some (get bodies q) ≡ contains ids q
