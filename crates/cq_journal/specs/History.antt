-- What a list of entries, the newest first, says of queues, deliveries and clients.
use Rattle.std.specs.Prelude.{◌≡◌, ℕ, Bool, false, not, ◌==◌, ◌&&◌, if◌then◌else◌, List, [], ◌∷◌, ◌++◌, filter, map}
use Rattle.std.specs.List.{list_any}
use Rattle.cq_bytes.specs.Numbers.{contains}
use Rattle.cq_journal.specs.declared.event.Event.{Event}
use Rattle.cq_journal.specs.declared.event.Event.TheVariants.{Opened, Published, Delivered, Acked, Dropped, Ended, Settled}
use Rattle.cq_journal.specs.declared.event.Entry.{Entry}
use Rattle.cq_journal.specs.declared.lines.Line.{Line}
use Rattle.cq_journal.specs.declared.event.Message.{Message}

-- a message that was handed to a client
pub record Delivery : Type 0 where
  pub client : ℕ
  pub number : ℕ
  pub queue : ℕ
  pub id : ℕ

abbrev pub has_id : List Message → ℕ → Bool
has_id ms id = list_any (λ m. m.id == id) ms

-- the messages of opened lines that stand in a queue
abbrev pub opened_in : ℕ → List Line → List Message
opened_in q [] = []
opened_in q (l ∷ ls) = if l.queue == q then record { id = l.id; body = l.body } ∷ opened_in q ls else opened_in q ls

-- what an event adds to the line of a queue
abbrev pub adds : ℕ → Event → List Message
adds q (Opened lines) = opened_in q lines
adds q (Published client number id queues body) = if contains queues q then record { id = id; body = body } ∷ [] else []
adds q _ = []

-- every message of a queue, the oldest first
abbrev pub line : List Entry → ℕ → List Message
line [] q = []
line (e ∷ past) q = line past q ++ adds q e.event

-- whether a delivery is this one of this client
abbrev pub is_delivery : ℕ → ℕ → Delivery → Bool
is_delivery client number d = d.client == client && d.number == number

-- the open deliveries after an event
abbrev pub open_after : List Delivery → Event → List Delivery
open_after open_ (Delivered client number queue id) = open_ ++ record { client = client; number = number; queue = queue; id = id } ∷ []
open_after open_ (Acked client number) = filter (λ d. not (is_delivery client number d)) open_
open_after open_ (Ended client) = filter (λ d. not (d.client == client)) open_
open_after open_ _ = open_

-- the deliveries that are open, the oldest first
abbrev pub open_deliveries : List Entry → List Delivery
open_deliveries [] = []
open_deliveries (e ∷ past) = open_after (open_deliveries past) e.event

-- those of one client
abbrev pub unacked : List Entry → ℕ → List Delivery
unacked past client = filter (λ d. d.client == client) (open_deliveries past)

-- whether a client has this delivery open
abbrev pub is_open : List Entry → ℕ → ℕ → Bool
is_open past client number = list_any (is_delivery client number) (open_deliveries past)

-- the ids that an event removes from a queue, of these open deliveries
abbrev pub removes : ℕ → List Delivery → Event → List ℕ
removes q open_ (Acked client number) = map (λ d. d.id) (filter (λ d. is_delivery client number d && d.queue == q) open_)
removes q open_ (Dropped client number) = map (λ d. d.id) (filter (λ d. is_delivery client number d && d.queue == q) open_)
removes q open_ _ = []

-- the ids that were removed from a queue
abbrev pub acked : List Entry → ℕ → List ℕ
acked [] q = []
acked (e ∷ past) q = acked past q ++ removes q (open_deliveries past) e.event

-- whether an open delivery of some client names this id for this queue
abbrev pub is_out : List Delivery → ℕ → ℕ → Bool
is_out open_ q id = list_any (λ d. d.queue == q && d.id == id) open_

-- whether a message neither was removed from the queue nor is out
abbrev pub is_waiting : List Entry → ℕ → Message → Bool
is_waiting past q m = not (contains (acked past q) m.id) && not (is_out (open_deliveries past) q m.id)

-- what the queue hands out next, in order
abbrev pub waiting : List Entry → ℕ → List Message
waiting past q = filter (is_waiting past q) (line past q)

-- what a settling adds to the settled ids of a queue
abbrev pub settles : ℕ → Event → List ℕ
settles q (Settled queue id) = if queue == q then id ∷ [] else []
settles q _ = []

-- the ids that were settled in a queue
abbrev pub settled : List Entry → ℕ → List ℕ
settled [] q = []
settled (e ∷ past) q = settled past q ++ settles q e.event

-- no two deliveries name one message of one queue
abbrev pub AreApart : List Delivery → Type 0
AreApart [] = Unit {0}
AreApart (d ∷ ds) = (is_out ds d.queue d.id ≡ false) × AreApart ds

-- whether the end of a client gives a message back to the queue
abbrev pub comes_back : List Entry → ℕ → ℕ → Message → Bool
comes_back past client q m = not (contains (acked past q) m.id) && is_out (unacked past client) q m.id
