-- Whether an event may follow the entries before it, row by row.
use Rattle.std.specs.Prelude.{◌≡◌, ℕ, Bool, true, false, not, ◌==◌, ◌&&◌, ◌||◌, nat_lt, List, [], ◌∷◌, length, ◌↔◌}
use Rattle.std.specs.List.{list_all}
use Rattle.std.specs.Str.{bytes_eq}
use Rattle.cq_bytes.specs.Numbers.{contains}
use Rattle.cq_journal.specs.declared.event.Event.{Event}
use Rattle.cq_journal.specs.declared.event.Event.TheVariants.{Opened, Published, Delivered, Empty, Busy, Acked, Unknown, Dropped, Ended, Confirmed, Settled}
use Rattle.cq_journal.specs.declared.event.Entry.{Entry}
use Rattle.cq_journal.specs.declared.lines.Line.{Line}
use Rattle.cq_journal.specs.declared.event.Message.{Message}
use Rattle.cq_journal.specs.History.{unacked, is_open, acked, settled, waiting}
use Rattle.cq_journal.specs.Legal.{published, delivered, has, brings, is_publish, is_confirmed_by, is_dropped_by, Allowed, StartsWithOpened}

-- whether two messages of an opening may stand there: one id stands in different queues and has one body
abbrev pub agree : Line → Line → Bool
agree l k = not (l.id == k.id) || (not (l.queue == k.queue) && bytes_eq l.body k.body)

abbrev pub are_lines : List Line → Bool
are_lines [] = true
are_lines (l ∷ ls) = list_all (agree l) ls && (are_lines ls && not (l.id == 0))

abbrev pub are_queues : List ℕ → Bool
are_queues [] = true
are_queues (q ∷ qs) = nat_lt q 256 && (not (contains qs q) && are_queues qs)

abbrev pub is_nothing : {A : Type 0} → List A → Bool
is_nothing [] = true
is_nothing (x ∷ xs) = false

abbrev pub is_first : ℕ → List Message → Bool
is_first id [] = false
is_first id (m ∷ ms) = m.id == id

-- the first entry is an opening
abbrev pub starts : List Entry → Event → Bool
starts [] (Opened lines) = true
starts [] _ = false
starts (e ∷ past) _ = true

abbrev pub allows : List Entry → Event → Bool
allows past (Opened lines) = is_nothing past && are_lines lines
allows past (Published client number id queues body) =
    number == published past client && (not (has (brings id) past) && (not (id == 0) && (nat_lt 0 (length queues) && are_queues queues)))
allows past (Delivered client number queue id) = nat_lt (length (unacked past client)) 64 && (is_first id (waiting past queue) && number == delivered past client)
allows past (Empty client queue) = nat_lt (length (unacked past client)) 64 && is_nothing (waiting past queue)
allows past (Busy client queue) = length (unacked past client) == 64
allows past (Acked client number) = is_open past client number
allows past (Unknown client number) = not (is_open past client number)
allows past (Dropped client number) = is_open past client number && not (has (is_dropped_by client number) past)
allows past (Ended client) = true
allows past (Confirmed client number id) = has (is_publish client number id) past && not (has (is_confirmed_by id) past)
allows past (Settled queue id) = contains (acked past queue) id && not (contains (settled past queue) id)

abbrev pub may_follow : List Entry → Event → Bool
may_follow past e = allows past e && starts past e

-- what is computed is the definition
abbrev pub IsExact : Type 0
IsExact = (past : List Entry) (e : Event) → (may_follow past e ≡ true) ↔ (Allowed past e × StartsWithOpened past e)
