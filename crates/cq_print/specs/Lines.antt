-- The lines of a session, where the bodies are found by their ids.
use Rattle.std.specs.Prelude.{ℕ, zero, suc, ◌==◌, Bool, false, if◌then◌else◌, List, [], ◌∷◌, ◌++◌, length, Option, unwrap_or}
use Rattle.cq_bytes.specs.Numbers.{contains}
use Rattle.cq_journal.specs.declared.reply.Reply.TheVariants as reply
use Rattle.cq_journal.specs.declared.event.Event.{Event}
use Rattle.cq_journal.specs.declared.event.Event.TheVariants as event
use Rattle.cq_journal.specs.declared.event.Entry.{Entry}
use Rattle.cq_print.specs.Text.{reply_line, confirmed_lines, is_delivery_to}

-- whether an event answers the client
abbrev pub answers : ℕ → Event → Bool
answers c (event.Published client number id queues body) = client == c
answers c (event.Delivered client number queue id) = client == c
answers c (event.Empty client queue) = client == c
answers c (event.Busy client queue) = client == c
answers c (event.Acked client number) = client == c
answers c (event.Unknown client number) = client == c
answers c (event.Ended client) = client == c
answers c _ = false

-- the line of the reply that an event gives
abbrev pub line_of : (ℕ → Option (List ℕ)) → Event → List ℕ
line_of bodies (event.Published client number id queues body) = reply_line client (reply.Published number)
line_of bodies (event.Delivered client number queue id) = reply_line client (reply.Got number queue (unwrap_or (bodies id) []))
line_of bodies (event.Empty client queue) = reply_line client (reply.Empty queue)
line_of bodies (event.Busy client queue) = reply_line client (reply.Busy queue)
line_of bodies (event.Acked client number) = reply_line client (reply.Acked number)
line_of bodies (event.Unknown client number) = reply_line client (reply.Unknown number)
line_of bodies (event.Ended client) = reply_line client reply.Ended
line_of bodies _ = []

-- the line of an event that answers the client, and none of another
abbrev pub own_line : (ℕ → Option (List ℕ)) → ℕ → Event → List (List ℕ)
own_line bodies c e = if answers c e then line_of bodies e ∷ [] else []

-- the same of the event at a place, but for the one place that is left out
abbrev pub line_at : (ℕ → Option (List ℕ)) → ℕ → ℕ → ℕ → Event → List (List ℕ)
line_at bodies c left_out place e = if place == left_out then [] else own_line bodies c e

-- the reply lines of a client, but for one place
abbrev pub reply_lines : (ℕ → Option (List ℕ)) → ℕ → ℕ → List Entry → List (List ℕ)
reply_lines bodies c left_out [] = []
reply_lines bodies c left_out (e ∷ past) = reply_lines bodies c left_out past ++ line_at bodies c left_out (length past) e.event

-- the place of the last delivery to the client, and `none` where there is none
abbrev pub last_place : ℕ → ℕ → List Entry → ℕ
last_place none c [] = none
last_place none c (e ∷ past) = if is_delivery_to c e.event then length past else last_place none c past

-- the place that is left out: past the end, but for a client that was cut off
abbrev pub left_out : List Entry → List ℕ → ℕ → ℕ
left_out past cut c = if contains cut c then last_place (length past) c past else length past

-- the lines of a client
abbrev pub client_lines : (ℕ → Option (List ℕ)) → List Entry → List ℕ → ℕ → List (List ℕ)
client_lines bodies past cut c = reply_lines bodies c (left_out past cut c) past ++ confirmed_lines past c

-- the lines of the clients below a number, rising
abbrev pub clients_lines : (ℕ → Option (List ℕ)) → List Entry → List ℕ → ℕ → List (List ℕ)
clients_lines bodies past cut zero = []
clients_lines bodies past cut (suc n) = clients_lines bodies past cut n ++ client_lines bodies past cut n
