-- Where the message of a delivery is.
use Rattle.std.specs.Prelude.{◌≡◌, ℕ, ◌+◌, length, ◌==◌, ◌&&◌, if◌then◌else◌, List, [], ◌∷◌, Option, None, Some}
use Rattle.cq_items.specs.declared.outs.Held.{Held}
use Rattle.cq_items.specs.OutsValue.{is_held}

abbrev pub find : ℕ → ℕ → List Held → Option ℕ
find c d [] = None
find c d (h ∷ hs) = if is_held c d h then Some h.at else find c d hs

-- one delivery has this place afterwards, and all others have theirs
abbrev pub Puts : ℕ → ℕ → Option ℕ → List Held → List Held → Type 0
Puts c d place old new = (x y : ℕ) → find x y new ≡ (if x == c && y == d then place else find x y old)

-- this delivery was taken out, where it was there
abbrev pub Took : ℕ → ℕ → Option ℕ → List Held → List Held → Type 0
Took c d None old new = (new ≡ old) × (find c d old ≡ None)
Took c d (Some at) old new = (find c d old ≡ Some at) × Puts c d None old new × (length new + 1 ≡ length old)

-- some delivery of this client was taken out, where there was one
abbrev pub TookOne : ℕ → Option Held → List Held → List Held → Type 0
TookOne c None old new = (new ≡ old) × ((d : ℕ) → find c d old ≡ None)
TookOne c (Some h) old new = (h.client ≡ c) × (find c h.delivery old ≡ Some h.at) × Puts c h.delivery None old new × (length new + 1 ≡ length old)
