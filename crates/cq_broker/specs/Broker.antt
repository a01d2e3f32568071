-- The clients and queues of a node as contracts see them.
use Rattle.std.specs.Prelude.{◌≡◌, ℕ, ◌<◌, List, [], ◌∷◌, length}
use Rattle.cq_entry.specs.declared.entry.EntryKind.TheVariants.{Small}
use Rattle.cq_journal.specs.declared.event.Entry.{Entry}
use Rattle.cq_journal.specs.declared.event.Message.{Message}
use Rattle.cq_journal.specs.History.{unacked, waiting}
use Rattle.cq_items.specs.declared.item.First.{First}
use Rattle.cq_queue.specs.Values.{QueueValue}
use Rattle.cq_history.specs.History.{HistoryValue}
use Rattle.cq_queues.specs.Queues as queues
use Rattle.cq_broker.specs.declared.broker.Broker.{Broker}
use Rattle.cq_broker.specs.declared.next.Next.{Next}
use Rattle.cq_broker.specs.declared.next.Next.TheVariants as next

-- what happened, as the clients were told
abbrev pub history_of : Broker → HistoryValue
history_of b = b.history

-- the entries of the journal, the newest first
abbrev pub entries_of : Broker → List Entry
entries_of b = b.history.entries

-- the queue of a number; past the last one without messages
abbrev pub queue_at : Broker → ℕ → QueueValue
queue_at b = queues.queue_at b.queues

-- the first of these messages, which is small, has this id and this length
abbrev pub IsFirstOf : First → List Message → Type 0
IsFirstOf first [] = ⊥
IsFirstOf first (m ∷ ms) = (first.id ≡ m.id) × (first.len ≡ length m.body) × (first.kind ≡ Small)

-- what the next get of a client finds in a queue
abbrev pub Finds : ℕ → ℕ → Next → Broker → Type 0
Finds client queue next.Busy b = length (unacked (entries_of b) client) ≡ 64
Finds client queue next.Empty b = (length (unacked (entries_of b) client) < 64) × (waiting (entries_of b) queue ≡ [])
Finds client queue (next.Waiting first) b = (length (unacked (entries_of b) client) < 64) × IsFirstOf first (waiting (entries_of b) queue)
