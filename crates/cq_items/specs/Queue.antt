-- What a queue keeps beside its messages.
use Rattle.std.specs.Prelude.{◌≡◌, ℕ, ◌+◌, ◌<◌, ◌≤◌, ◌^◌, Bool, true, false, ◌==◌, ◌&&◌, if◌then◌else◌, List, [], ◌∷◌, length, map, get_or, Option, None, Some, is_some}
use Rattle.cq_items.specs.Item.{Item}
use Rattle.cq_items.specs.declared.outs.Held.{Held}
use Rattle.cq_items.specs.declared.item.Settling.{Settling}
use Rattle.cq_items.specs.declared.items.settling.Left.{Left}
use Rattle.cq_items.specs.Items.{waits, out_for, is_out_to, undecided, is_fresh, settles, give_back, count_out, settled_items, segment_of, at_of, lowest_segment, settling_in, others_in, settling_places, settling_ids}
use Rattle.cq_items.specs.Slots.{slot_at, passes, places}
use Rattle.cq_items.specs.Outs.{find}

-- what contracts see: the messages in line order, and for how many more there is room
pub record Queue : Type 0 where
  pub items : List Item
  pub reserved : ℕ

-- the deliveries that are out, and the places of their messages
pub record FindsOut (slots : List (Option Item)) (held : List Held) : Type 0 where
  pub found : (k c d : ℕ) → passes (out_for c d) (slot_at slots k) ≡ true → find c d held ≡ Some k
  pub there : (c d k : ℕ) → find c d held ≡ Some k → passes (out_for c d) (slot_at slots k) ≡ true

-- from this place on all passes a test, and nothing before it
pub record IsSplit (t : Item → Bool) (slots : List (Option Item)) (first : ℕ) : Type 0 where
  pub within : first ≤ length slots
  pub before : (k : ℕ) → k < first → passes t (slot_at slots k) ≡ false
  pub after : (k : ℕ) → first ≤ k → k < length slots → passes t (slot_at slots k) ≡ true

-- from this place on nothing was ever out, so that it waits, and before it all was
pub record IsUnseen (slots : List (Option Item)) (unseen : ℕ) : Type 0 where
  pub split : IsSplit is_fresh slots unseen
  pub waiting : IsSplit (λ i. i.fresh && waits i) slots unseen

-- no two messages are out for one delivery
abbrev pub AreOutOnce : List Item → Type 0
AreOutOnce [] = Unit {0}
AreOutOnce (i ∷ is) = ((c d : ℕ) → out_for c d i ≡ true → is_out_to c d is ≡ false) × AreOutOnce is

pub record IsIndexed (slots : List (Option Item)) (waiting : List ℕ) (held : List Held) (gone : List ℕ) (first : ℕ) : Type 0 where
  pub waiting_is : places waits 0 slots ≡ waiting
  pub finds_out : FindsOut slots held
  pub gone_is : places settles 0 slots ≡ gone
  pub is_split : IsSplit undecided slots first

-- there is room for what waits to be handed out, for what is out to come back or be acknowledged, and for what is reserved; each place is a number of 32 bits
pub record HasRoom (slots waiting out gone reserved slots_room waiting_room out_room gone_room : ℕ) : Type 0 where
  pub slots_fit : slots + reserved ≤ slots_room
  pub few : slots + reserved < 2 ^ 32
  pub waiting_fits : waiting + out + reserved ≤ waiting_room
  pub out_fits : waiting + out + reserved ≤ out_room
  pub gone_fits : waiting + out + gone + reserved ≤ gone_room

-- one that was out to the client waits again, or none was
abbrev pub GaveOne : ℕ → Bool → Queue → Queue → Type 0
GaveOne c true old new = (give_back c new.items ≡ give_back c old.items) × (new.reserved ≡ old.reserved) × (count_out c new.items + 1 ≡ count_out c old.items)
GaveOne c false old new = (new ≡ old) × (give_back c old.items ≡ old.items)

-- the segment of what settles next, the places of its entries there and its ids
pub record AreSettling (s : Settling) (items : List Item) : Type 0 where
  pub segment : lowest_segment items ≡ Some s.segment
  pub places : s.at.items ≡ settling_places items
  pub ids : s.ids.items ≡ settling_ids items

abbrev pub IsSettling : Option Settling → List Item → Type 0
IsSettling None is = lowest_segment is ≡ None
IsSettling (Some s) is = AreSettling s is

-- what is told of the message at a place, where its entry stands in this segment
abbrev pub left_in : ℕ → Option Item → Option Left
left_in n None = None
left_in n (Some i) = if is_some i.stand && segment_of i.stand == n then Some (record { at = at_of i.stand; id = i.id }) else None

-- the first that settles left the queue, where it stands in this segment
pub record HasLeft (n : ℕ) (l : Left) (old new : Queue) : Type 0 where
  pub places : map (λ i. at_of i.stand) (settling_in (Some n) old.items) ≡ l.at ∷ map (λ i. at_of i.stand) (settling_in (Some n) new.items)
  pub ids : map (λ i. i.id) (settling_in (Some n) old.items) ≡ l.id ∷ map (λ i. i.id) (settling_in (Some n) new.items)
  pub others : others_in (Some n) new.items ≡ others_in (Some n) old.items
  pub reserved : new.reserved ≡ old.reserved
  pub count : length (settled_items new.items) + 1 ≡ length (settled_items old.items)

abbrev pub SettledOne : ℕ → Option Left → Queue → Queue → Type 0
SettledOne n None old new = (new ≡ old) × (settling_in (Some n) old.items ≡ [])
SettledOne n (Some l) old new = HasLeft n l old new

-- numbers that rise, and a place for one more among them
abbrev pub IsRising : List ℕ → Type 0
IsRising xs = (i j : ℕ) → i ≤ j → j < length xs → get_or xs i 0 ≤ get_or xs j 0

pub record IsPlace (xs : List ℕ) (p i : ℕ) : Type 0 where
  pub within : i ≤ length xs
  pub low : (j : ℕ) → j < i → get_or xs j 0 ≤ p
  pub high : (j : ℕ) → i ≤ j → j < length xs → p ≤ get_or xs j 0
