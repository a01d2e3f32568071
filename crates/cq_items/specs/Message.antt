-- The message of a place that isn't empty.
use Rattle.std.specs.Prelude.{false, Option, None, Some}
use Rattle.cq_entry.specs.declared.entry.EntryKind.TheVariants.{Shared}
use Rattle.cq_items.specs.declared.item.Holder.TheVariants.{Waiting}
use Rattle.cq_items.specs.Item.{Item}

-- the message of a slot that has one
abbrev pub message_in : Option Item → Item
message_in None = record { id = 0; kind = Shared; len = 0; body = None; stand = None; holder = Waiting; fresh = false }
message_in (Some i) = i
