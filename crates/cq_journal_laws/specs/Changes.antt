-- What stands after an event, told from what stood before it.
use Rattle.std.specs.Prelude.{ℕ, Bool, true, false, not, ◌==◌, ◌||◌, if◌then◌else◌, List, [], ◌∷◌, ◌++◌, filter, drop}
use Rattle.cq_bytes.specs.Numbers.{contains}
use Rattle.cq_journal.specs.declared.event.Event.{Event}
use Rattle.cq_journal.specs.declared.event.Event.TheVariants.{Opened, Published, Delivered, Acked, Dropped, Ended, Settled}
use Rattle.cq_journal.specs.declared.event.Entry.{Entry}
use Rattle.cq_journal.specs.declared.event.Message.{Message}
use Rattle.cq_journal.specs.History.{Delivery, opened_in, line, unacked, settled, is_waiting, waiting, comes_back}

-- the line of a queue
abbrev pub line_after : List Entry → Event → ℕ → List Message
line_after past (Opened lines) q = opened_in q lines
line_after past (Published client number id queues body) q = if contains queues q then line past q ++ record { id = id; body = body } ∷ [] else line past q
line_after past _ q = line past q

-- what waits in a queue: an end gives each message back to its place in the line
abbrev pub waiting_after : List Entry → Event → ℕ → List Message
waiting_after past (Opened lines) q = opened_in q lines
waiting_after past (Published client number id queues body) q = if contains queues q then waiting past q ++ record { id = id; body = body } ∷ [] else waiting past q
waiting_after past (Delivered client number queue id) q = if queue == q then drop 1 (waiting past q) else waiting past q
waiting_after past (Ended client) q = filter (λ m. is_waiting past q m || comes_back past client q m) (line past q)
waiting_after past _ q = waiting past q

-- the open deliveries of a client
abbrev pub unacked_after : List Entry → Event → ℕ → List Delivery
unacked_after past (Delivered client number queue id) c =
    if client == c then unacked past c ++ record { client = client; number = number; queue = queue; id = id } ∷ [] else unacked past c
unacked_after past (Acked client number) c = if client == c then filter (λ d. not (d.number == number)) (unacked past c) else unacked past c
unacked_after past (Ended client) c = if client == c then [] else unacked past c
unacked_after past _ c = unacked past c

-- the ids that were settled in a queue
abbrev pub settled_after : List Entry → Event → ℕ → List ℕ
settled_after past (Settled queue id) q = if queue == q then settled past q ++ id ∷ [] else settled past q
settled_after past _ q = settled past q

-- whether an event removes an open delivery's message from its queue
abbrev pub is_removal : Event → Bool
is_removal (Acked client number) = true
is_removal (Dropped client number) = true
is_removal _ = false
