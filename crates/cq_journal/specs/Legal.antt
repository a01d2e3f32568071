-- When an event may follow the entries before it.
use Rattle.std.specs.Prelude.{◌≡◌, ◌≢◌, ℕ, ◌+◌, ◌<◌, ◌≤◌, Bool, true, false, ◌==◌, ◌&&◌, if◌then◌else◌, List, [], ◌∷◌, length}
use Rattle.std.specs.List.{list_any, AllByRecursion}
use Rattle.cq_bytes.specs.Numbers.{contains, AreQueues}
use Rattle.cq_journal.specs.declared.event.Event.{Event}
use Rattle.cq_journal.specs.declared.event.Event.TheVariants.{Opened, Published, Delivered, Empty, Busy, Acked, Unknown, Dropped, Ended, Confirmed, Settled}
use Rattle.cq_journal.specs.declared.event.Entry.{Entry}
use Rattle.cq_journal.specs.declared.lines.Line.{Line}
use Rattle.cq_journal.specs.declared.event.Message.{Message}
use Rattle.cq_journal.specs.History.{unacked, is_open, acked, settled, waiting}

-- how many open deliveries a client may have
abbrev pub MOST_OPEN : ℕ
MOST_OPEN = 64

-- 1 where the event is a publish, or a delivery, of this client
abbrev pub publish_count : ℕ → Event → ℕ
publish_count c (Published client number id queues body) = if client == c then 1 else 0
publish_count c _ = 0

abbrev pub delivers : ℕ → Event → ℕ
delivers c (Delivered client number queue id) = if client == c then 1 else 0
delivers c _ = 0

-- how many publishes, and deliveries, of a client stand there
abbrev pub published : List Entry → ℕ → ℕ
published [] c = 0
published (e ∷ past) c = published past c + publish_count c e.event

abbrev pub delivered : List Entry → ℕ → ℕ
delivered [] c = 0
delivered (e ∷ past) c = delivered past c + delivers c e.event

-- whether an event brings a message with this id
abbrev pub brings : ℕ → Event → Bool
brings x (Opened lines) = list_any (λ l. l.id == x) lines
brings x (Published client number id queues body) = id == x
brings x _ = false

abbrev pub is_confirmed_by : ℕ → Event → Bool
is_confirmed_by x (Confirmed client number id) = id == x
is_confirmed_by x _ = false

abbrev pub is_publish : ℕ → ℕ → ℕ → Event → Bool
is_publish c n x (Published client number id queues body) = client == c && number == n && id == x
is_publish c n x _ = false

abbrev pub is_dropped_by : ℕ → ℕ → Event → Bool
is_dropped_by c n (Dropped client number) = client == c && number == n
is_dropped_by c n _ = false

-- some entry has an event of this kind
abbrev pub has : (Event → Bool) → List Entry → Bool
has p past = list_any (λ e. p e.event) past

-- the first message of a queue
abbrev pub IsFirst : ℕ → List Message → Type 0
IsFirst id [] = ⊥
IsFirst id (m ∷ ms) = m.id ≡ id

-- no id is 0 or stands twice for one queue, and one id has one body
abbrev pub AreLines : List Line → Type 0
AreLines [] = Unit {0}
AreLines (l ∷ ls) = AllByRecursion (λ k. l.id ≡ k.id → (l.queue ≢ k.queue) × (l.body ≡ k.body)) ls × AreLines ls × (l.id ≢ 0)

-- the event may follow these entries
abbrev pub Allowed : List Entry → Event → Type 0
Allowed past (Opened lines) = (past ≡ []) × AreLines lines
Allowed past (Published client number id queues body) =
    (number ≡ published past client) × (has (brings id) past ≡ false) × (id ≢ 0) × (0 < length queues) × AreQueues queues
Allowed past (Delivered client number queue id) =
    (length (unacked past client) < MOST_OPEN) × IsFirst id (waiting past queue) × (number ≡ delivered past client)
Allowed past (Empty client queue) = (length (unacked past client) < MOST_OPEN) × (waiting past queue ≡ [])
Allowed past (Busy client queue) = length (unacked past client) ≡ MOST_OPEN
Allowed past (Acked client number) = is_open past client number ≡ true
Allowed past (Unknown client number) = is_open past client number ≡ false
Allowed past (Dropped client number) = (is_open past client number ≡ true) × (has (is_dropped_by client number) past ≡ false)
Allowed past (Ended client) = Unit {0}
Allowed past (Confirmed client number id) = (has (is_publish client number id) past ≡ true) × (has (is_confirmed_by id) past ≡ false)
Allowed past (Settled queue id) = (contains (acked past queue) id ≡ true) × (contains (settled past queue) id ≡ false)

-- the stamp of the newest entry
abbrev pub newest : List Entry → ℕ
newest [] = 0
newest (e ∷ past) = e.stamp

-- only the first entry is an opening, and it is one
abbrev pub StartsWithOpened : List Entry → Event → Type 0
StartsWithOpened [] (Opened lines) = Unit {0}
StartsWithOpened [] _ = ⊥
StartsWithOpened (e ∷ past) _ = Unit {0}

-- each entry is allowed after those before it, and no stamp falls
abbrev pub Legal : List Entry → Type 0
Legal [] = Unit {0}
Legal (e ∷ past) = Allowed past e.event × StartsWithOpened past e.event × (newest past ≤ e.stamp) × Legal past
