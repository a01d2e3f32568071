-- Places in order. Those of what waits have two parts: those that came back, in any order, and then those that never left, rising.
use Rattle.std.specs.Prelude.{◌≡◌, ℕ, Bool, true, not, nat_lt, if◌then◌else◌, List, [], ◌∷◌}
use Rattle.std.specs.List.{insert}
use Rattle.std.specs.declared.cmp.Reverse.{Reverse}
use Rattle.cq_items.specs.Queue.{IsPlace}

-- what contracts see: the places, rising, and for how many there is room in all
pub record LineValue : Type 0 where
  pub items : List ℕ
  pub room : ℕ

abbrev pub put_in : ℕ → List ℕ → List ℕ
put_in x [] = x ∷ []
put_in x (y ∷ ys) = if nat_lt y x then y ∷ put_in x ys else x ∷ y ∷ ys

abbrev pub ascending : List (Reverse ℕ) → List ℕ
ascending [] = []
ascending (r ∷ rs) = put_in r.0 (ascending rs)

-- one more place stands where it belongs
pub record IsPut (p : ℕ) (old new : List ℕ) : Type 0 where
  pub place : ℕ
  pub belongs : IsPlace old p place
  pub is : new ≡ insert old place p

-- a place doesn't come after the first of these
abbrev pub is_first : ℕ → List ℕ → Bool
is_first p [] = true
is_first p (x ∷ xs) = not (nat_lt x p)
