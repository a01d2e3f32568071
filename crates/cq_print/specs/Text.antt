-- The text of a session: its lines, each with its LF.
use Rattle.std.specs.Prelude.{ℕ, zero, suc, ◌+◌, ◌==◌, Bool, false, nat_le, if◌then◌else◌, List, [], ◌∷◌, ◌++◌, length, map, max, codes}
use Rattle.std.specs.Fmt.{decimal}
use Rattle.hex.specs.Hex.{encode_lower}
use Rattle.sha2.specs.Sha256.{sha256}
use Rattle.cq_bytes.specs.Numbers.{contains}
use Rattle.cq_bytes.specs.Texts.{is_text}
use Rattle.cq_journal.specs.declared.reply.Reply.{Reply}
use Rattle.cq_journal.specs.declared.reply.Reply.TheVariants as reply
use Rattle.cq_journal.specs.declared.event.Event.{Event}
use Rattle.cq_journal.specs.declared.event.Event.TheVariants as event
use Rattle.cq_journal.specs.declared.event.Entry.{Entry}
use Rattle.cq_journal.specs.declared.lines.Line.{Line}
use Rattle.cq_journal.specs.History.{opened_in}
use Rattle.cq_journal.specs.Asks.{replies, reply_of}

-- a body, as it is shown
abbrev pub body_text : List ℕ → List ℕ
body_text body =
    if length body == 0 then codes "empty"
    else if is_text body then codes "text " ++ body
    else if nat_le (length body) 32 then codes "hex " ++ encode_lower body
    else codes "sha256 " ++ encode_lower (sha256 body)

-- what a reply says, without the client and the end of the line
abbrev pub reply_text : Reply → List ℕ
reply_text (reply.Published n) = codes " published " ++ decimal n
reply_text (reply.Got d q body) = codes " got " ++ decimal d ++ codes " q" ++ decimal q ++ codes " " ++ decimal (length body) ++ codes " " ++ body_text body
reply_text (reply.Empty q) = codes " empty q" ++ decimal q
reply_text (reply.Busy q) = codes " busy q" ++ decimal q
reply_text (reply.Acked d) = codes " acked " ++ decimal d
reply_text (reply.Unknown d) = codes " unknown " ++ decimal d
reply_text reply.Ended = codes " ended"

-- the line of a reply to a client
abbrev pub reply_line : ℕ → Reply → List ℕ
reply_line client r = codes "c" ++ decimal client ++ reply_text r ++ 10 ∷ []

-- the line of a confirm
abbrev pub confirmed_line : ℕ → ℕ → List ℕ
confirmed_line client number = codes "c" ++ decimal client ++ codes " confirmed " ++ decimal number ++ 10 ∷ []

-- the first line of a session
abbrev pub session_line : ℕ → List ℕ
session_line number = codes "session " ++ decimal number ++ 10 ∷ []

-- the line of a queue that held so many messages at the opening
abbrev pub opened_line : ℕ → ℕ → List ℕ
opened_line queue count = codes "opened q" ++ decimal queue ++ codes " " ++ decimal count ++ 10 ∷ []

-- the line of a queue that stands in the opened lines, and none of another
abbrev pub opened_of : List Line → ℕ → List (List ℕ)
opened_of lines q = let count = length (opened_in q lines) in if count == 0 then [] else opened_line q count ∷ []

-- every queue of the opened lines is below this number
abbrev pub queues_end : List Line → ℕ
queues_end [] = 0
queues_end (l ∷ lines) = max (l.queue + 1) (queues_end lines)

-- the lines of the queues below a number, rising
abbrev pub opened_text : List Line → ℕ → List (List ℕ)
opened_text lines zero = []
opened_text lines (suc q) = opened_text lines q ++ opened_of lines q

-- the lines of an opening, and none of another event
abbrev pub opened_by : Event → List (List ℕ)
opened_by (event.Opened lines) = opened_text lines (queues_end lines)
opened_by _ = []

-- the lines of what the queues held at the opening
abbrev pub opened_lines : List Entry → List (List ℕ)
opened_lines [] = []
opened_lines (e ∷ past) = opened_lines past ++ opened_by e.event

-- the line of an event that confirms a message of the client, and none of another
abbrev pub confirm_of : ℕ → Event → List (List ℕ)
confirm_of c (event.Confirmed client number id) = if client == c then confirmed_line c number ∷ [] else []
confirm_of c _ = []

-- the lines of the confirms of a client, in order
abbrev pub confirmed_lines : List Entry → ℕ → List (List ℕ)
confirmed_lines [] c = []
confirmed_lines (e ∷ past) c = confirmed_lines past c ++ confirm_of c e.event

-- whether an event is a delivery to the client
abbrev pub is_delivery_to : ℕ → Event → Bool
is_delivery_to c (event.Delivered client number queue id) = client == c
is_delivery_to c _ = false

-- the replies to a client without its last delivery
abbrev pub cut_replies : List Entry → ℕ → List Reply
cut_replies [] c = []
cut_replies (e ∷ past) c = if is_delivery_to c e.event then replies past c else cut_replies past c ++ reply_of past c e.event

-- the replies that a client was told: the last delivery of one that was cut off isn't
abbrev pub told : List Entry → List ℕ → ℕ → List Reply
told past cut c = if contains cut c then cut_replies past c else replies past c

-- the lines of a client
abbrev pub client_text : List Entry → List ℕ → ℕ → List (List ℕ)
client_text past cut c = map (reply_line c) (told past cut c) ++ confirmed_lines past c

-- one more than the number of the client of an event, where it has one
abbrev pub client_end : Event → ℕ
client_end (event.Published client number id queues body) = client + 1
client_end (event.Delivered client number queue id) = client + 1
client_end (event.Empty client queue) = client + 1
client_end (event.Busy client queue) = client + 1
client_end (event.Acked client number) = client + 1
client_end (event.Unknown client number) = client + 1
client_end (event.Ended client) = client + 1
client_end (event.Confirmed client number id) = client + 1
client_end _ = 0

-- every client of the journal is below this number
abbrev pub clients_end : List Entry → ℕ
clients_end [] = 0
clients_end (e ∷ past) = max (clients_end past) (client_end e.event)

-- the lines of the clients below a number, rising
abbrev pub clients_text : List Entry → List ℕ → ℕ → List (List ℕ)
clients_text past cut zero = []
clients_text past cut (suc n) = clients_text past cut n ++ client_text past cut n

-- the text of a session, line by line
abbrev pub text_of : ℕ → List Entry → List ℕ → List (List ℕ)
text_of number past cut = session_line number ∷ (opened_lines past ++ clients_text past cut (clients_end past))
