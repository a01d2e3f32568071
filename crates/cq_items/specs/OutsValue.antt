-- The deliveries that are out, each once.
use Rattle.std.specs.Prelude.{◌≡◌, ◌<◌, ℕ, Bool, true, length, get_or, ◌==◌, ◌&&◌, List}
use Rattle.cq_items.specs.declared.outs.Held.{Held}

-- what contracts see: the deliveries, and for how many there is room in all
pub record OutsValue : Type 0 where
  pub held : List Held
  pub room : ℕ

abbrev pub is_held : ℕ → ℕ → Held → Bool
is_held c d h = h.client == c && h.delivery == d

-- no place for a delivery: what a list is said to have past its end
abbrev pub no_delivery : Held
no_delivery = record { client = 0; delivery = 0; at = 0 }

abbrev pub held_at : List Held → ℕ → Held
held_at hs i = get_or hs i no_delivery

-- no delivery stands at two places
abbrev pub AreOnce : List Held → Type 0
AreOnce hs = (i j : ℕ) → i < length hs → j < length hs
    → is_held (held_at hs j).client (held_at hs j).delivery (held_at hs i) ≡ true → i ≡ j
