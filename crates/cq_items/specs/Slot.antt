-- What a place of a queue holds, as it is kept in memory.
use Rattle.std.specs.Prelude.{ℕ, Bool, true, false, if◌then◌else◌, List, Option, None, Some}
use Rattle.cq_items.specs.declared.item.Stand.{Stand}
use Rattle.cq_items.specs.declared.item.Holder.{Holder}
use Rattle.cq_items.specs.declared.item.Holder.TheVariants.{Waiting, Out, Gone}
use Rattle.cq_items.specs.declared.slot.Content.{Content}
use Rattle.cq_items.specs.declared.slot.Content.TheVariants.{Empty, InMemory, Committed}
use Rattle.cq_items.specs.declared.slot.State.{State}
use Rattle.cq_items.specs.declared.slot.State.TheVariants.{Free, Taken, Settled}
use Rattle.cq_items.specs.declared.slot.Slot.TheInside.{Inside}
use Rattle.cq_items.specs.Item.{Item}

abbrev pub body_in : Content → Option (List ℕ)
body_in (InMemory body) = Some body
body_in _ = None

abbrev pub stand_in : Content → Option Stand
stand_in (Committed stand) = Some stand
stand_in _ = None

abbrev pub is_empty : Content → Bool
is_empty Empty = true
is_empty _ = false

abbrev pub holder_in : State → ℕ → ℕ → Holder
holder_in Free c d = Waiting
holder_in Taken c d = Out c d
holder_in Settled c d = Gone

-- the message there, where the place isn't empty
abbrev pub item_in : Inside → Item
item_in s = record { id = s.id; kind = s.kind; len = s.len; body = body_in s.content; stand = stand_in s.content; holder = holder_in s.state s.client s.delivery; fresh = s.fresh }

abbrev pub slot_in : Inside → Option Item
slot_in s = if is_empty s.content then None else Some (item_in s)
