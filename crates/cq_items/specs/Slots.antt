-- The places of a queue's messages. A place whose message has left is empty.
use Rattle.std.specs.Prelude.{ℕ, ◌+◌, Bool, false, if◌then◌else◌, List, [], ◌∷◌, Option, None, Some, slice_index_or}
use Rattle.cq_items.specs.Item.{Item}
use Rattle.cq_items.specs.declared.item.Holder.{Holder}
use Rattle.cq_items.specs.declared.item.Stand.{Stand}
use Rattle.cq_items.specs.Items.{taken_by}

-- what stands at a place
abbrev pub slot_at : List (Option Item) → ℕ → Option Item
slot_at slots k = slice_index_or slots k None

-- the message with another holder
abbrev pub held_by : Holder → Option Item → Option Item
held_by h None = None
held_by h (Some i) = Some (record i { holder = h })

-- the message handed to this holder
abbrev pub handed_to : Holder → Option Item → Option Item
handed_to h None = None
handed_to h (Some i) = Some (taken_by h i)

-- where the entry of the message there stands
abbrev pub stand_of : Option Item → Option Stand
stand_of None = None
stand_of (Some i) = i.stand

abbrev pub passes : (Item → Bool) → Option Item → Bool
passes t None = false
passes t (Some i) = t i

-- the messages in order
abbrev pub alive : List (Option Item) → List Item
alive [] = []
alive (None ∷ slots) = alive slots
alive (Some i ∷ slots) = i ∷ alive slots

-- the places of those that pass a test, where the first place has this number
abbrev pub places : (Item → Bool) → ℕ → List (Option Item) → List ℕ
places t n [] = []
places t n (s ∷ slots) = if passes t s then n ∷ places t (n + 1) slots else places t (n + 1) slots
