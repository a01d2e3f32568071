-- A tree of deliveries in a list of nodes. Each node is on the way of its own delivery, which goes left or right by the bits of
-- the delivery's client and number.
use Prim.Native.Nat.{zero, suc}
use Rattle.std.specs.Prelude.{◌≡◌, ◌<◌, ◌≤◌, ◌-◌, ◌^◌, ℕ, Bool, true, false, ◌==◌, ◌&&◌, ◌||◌, nat_lt, if◌then◌else◌, length, get_or, map, slice_set, swap_remove, List, Option, None, Some}
use Rattle.std.specs.Int.{bit_at}
use Rattle.cq_items.specs.declared.outs.Held.{Held}
use Rattle.cq_items.specs.declared.tree.Node.{Node}
use Rattle.cq_items.specs.OutsValue.{no_delivery, held_at}

-- whether the way of a delivery turns right at a level: 32 bits are its client's, and 32 its number's
abbrev pub turn : ℕ → Held → Bool
turn level h = if nat_lt level 32 then bit_at h.client level == 1 else bit_at h.delivery (level - 32) == 1

-- two deliveries have the same way down to a level
abbrev pub Agree : ℕ → Held → Held → Type 0
Agree level h k = (x : ℕ) → x < level → turn x h ≡ turn x k

abbrev pub no_node : Node
no_node = record { held = no_delivery; level = 0; left = 0; right = 0 }

abbrev pub node_at : List Node → ℕ → Node
node_at ns i = get_or ns i no_node

-- the index of the node below on the right or on the left; 0 where there is none, since no node has the first one below it
abbrev pub link : Bool → Node → ℕ
link right n = if right then n.right else n.left

abbrev pub some_index : ℕ → Option ℕ
some_index zero = None
some_index (suc i) = Some (suc i)

abbrev pub step : List Node → Bool → Option ℕ → Option ℕ
step ns right None = None
step ns right (Some i) = some_index (link right (node_at ns i))

-- the node at a level of a delivery's way
abbrev pub way : List Node → Held → ℕ → Option ℕ
way ns h zero = Some 0
way ns h (suc level) = step ns (turn level h) (way ns h level)

-- a node is one level above another, whose delivery has the same way down to it and then turns there
pub record IsBelow (ns : List Node) (right : Bool) (i j : ℕ) : Type 0 where
  pub within : j < length ns
  pub level : (node_at ns j).level ≡ suc (node_at ns i).level
  pub same : Agree (node_at ns i).level (node_at ns i).held (node_at ns j).held
  pub turns : turn (node_at ns i).level (node_at ns j).held ≡ right

pub record IsTree (ns : List Node) : Type 0 where
  pub root : (node_at ns 0).level ≡ 0
  pub depth : (i : ℕ) → (node_at ns i).level ≤ 64
  pub fits : (i : ℕ) → ((node_at ns i).held.client < 2 ^ 32) × ((node_at ns i).held.delivery < 2 ^ 32)
  pub on_way : (i : ℕ) → i < length ns → way ns (node_at ns i).held (node_at ns i).level ≡ Some i
  pub links : (i j : ℕ) (right : Bool) → i < length ns → link right (node_at ns i) ≡ suc j → IsBelow ns right i (suc j)

-- one delivery of a client, or any of its
abbrev pub is_wanted : Bool → ℕ → ℕ → Held → Bool
is_wanted any c d h = h.client == c && (any || h.delivery == d)

-- the last node on a way: the first wanted one, or the one where the way ends
pub record IsEnd (ns : List Node) (any : Bool) (c d i : ℕ) : Type 0 where
  pub within : i < length ns
  pub on_way : way ns (record { client = c; delivery = d; at = 0 }) (node_at ns i).level ≡ Some i
  pub ends : is_wanted any c d (node_at ns i).held ≡ false
      → ((node_at ns i).level < 64) × (link (turn (node_at ns i).level (record { client = c; delivery = d; at = 0 })) (node_at ns i) ≡ 0)
  pub first : (j : ℕ) → j < length ns → is_wanted any c d (node_at ns j).held ≡ true → (node_at ns i).level ≤ (node_at ns j).level

-- a leaf below a node, or the node itself
pub record IsLeafBelow (ns : List Node) (i leaf : ℕ) : Type 0 where
  pub within : leaf < length ns
  pub same : Agree (node_at ns i).level (node_at ns i).held (node_at ns leaf).held
  pub ends : (right : Bool) → link right (node_at ns leaf) ≡ 0

-- the number of a node that links lead to is another one
abbrev pub relinked : ℕ → ℕ → ℕ → ℕ
relinked from to x = if x == from then to else x

-- a delivery was taken out: that of some leaf stands at its index, and then the last one at the leaf's
pub record IsTaken (old new : List Held) (i : ℕ) : Type 0 where
  pub leaf : ℕ
  pub within : leaf < length old
  pub is : new ≡ swap_remove (slice_set old i (held_at old leaf)) leaf no_delivery

abbrev pub IsFound : Bool → ℕ → ℕ → List Held → Option ℕ → Type 0
IsFound any c d hs None = (i : ℕ) → i < length hs → is_wanted any c d (held_at hs i) ≡ false
IsFound any c d hs (Some i) = (i < length hs) × (is_wanted any c d (held_at hs i) ≡ true)

abbrev pub helds : List Node → List Held
helds ns = map (λ n. n.held) ns

-- a node with one more below it
abbrev pub hung : Bool → ℕ → Node → Node
hung right next n = if right then record n { right = next } else record n { left = next }

-- the next node, of a delivery that isn't there yet, is hung under the last one on its way
pub record IsHung (old new : List Node) (c d at : ℕ) : Type 0 where
  pub above : ℕ
  pub within : above < length old
  pub level : at ≡ suc (node_at old above).level
  pub depth : at ≤ 64
  pub on_way : way old (record { client = c; delivery = d; at = 0 }) (node_at old above).level ≡ Some above
  pub free : link (turn (node_at old above).level (record { client = c; delivery = d; at = 0 })) (node_at old above) ≡ 0
  pub is : new ≡ slice_set old above (hung (turn (node_at old above).level (record { client = c; delivery = d; at = 0 })) (length old) (node_at old above))

-- no link leads to the leaf any more, and those to the last node lead to the leaf's index
pub record IsUnlinked (old new : List Node) (leaf : ℕ) : Type 0 where
  pub len : length new ≡ length old
  pub held : (i : ℕ) → (node_at new i).held ≡ (node_at old i).held
  pub level : (i : ℕ) → (node_at new i).level ≡ (node_at old i).level
  pub links : (i : ℕ) (right : Bool) → link right (node_at new i) ≡ relinked (length old - 1) leaf (relinked leaf 0 (link right (node_at old i)))
