-- What a client asked, and what it was answered.
use Rattle.std.specs.Prelude.{ℕ, ◌==◌, if◌then◌else◌, List, [], ◌∷◌, ◌++◌}
use Rattle.cq_journal.specs.declared.event.Event.{Event}
use Rattle.cq_journal.specs.declared.event.Event.TheVariants as event
use Rattle.cq_journal.specs.declared.event.Entry.{Entry}
use Rattle.cq_inbox.specs.declared.request.Request.{Request}
use Rattle.cq_inbox.specs.declared.request.Request.TheVariants as request
use Rattle.cq_journal.specs.declared.reply.Reply.{Reply}
use Rattle.cq_journal.specs.declared.reply.Reply.TheVariants as reply
use Rattle.cq_journal.specs.declared.event.Message.{Message}
use Rattle.cq_journal.specs.History.{line}

-- what is in a list for a client
abbrev pub own : {A : Type 0} → ℕ → ℕ → A → List A
own client c x = if client == c then x ∷ [] else []

-- the request of an event, where it is one of the client
abbrev pub ask : ℕ → Event → List Request
ask c (event.Published client number id queues body) = own client c (request.Publish queues body)
ask c (event.Delivered client number queue id) = own client c (request.Get queue)
ask c (event.Empty client queue) = own client c (request.Get queue)
ask c (event.Busy client queue) = own client c (request.Get queue)
ask c (event.Acked client number) = own client c (request.Ack number)
ask c (event.Unknown client number) = own client c (request.Ack number)
ask c (event.Ended client) = own client c request.End
ask c _ = []

-- the requests of a client, in order
abbrev pub asks : List Entry → ℕ → List Request
asks [] c = []
asks (e ∷ past) c = asks past c ++ ask c e.event

-- the body of the message with this id
abbrev pub body_of : ℕ → List Message → List ℕ
body_of id [] = []
body_of id (m ∷ ms) = if m.id == id then m.body else body_of id ms

-- the reply of an event after these entries, where it is one to the client
abbrev pub reply_of : List Entry → ℕ → Event → List Reply
reply_of past c (event.Published client number id queues body) = own client c (reply.Published number)
reply_of past c (event.Delivered client number queue id) = own client c (reply.Got number queue (body_of id (line past queue)))
reply_of past c (event.Empty client queue) = own client c (reply.Empty queue)
reply_of past c (event.Busy client queue) = own client c (reply.Busy queue)
reply_of past c (event.Acked client number) = own client c (reply.Acked number)
reply_of past c (event.Unknown client number) = own client c (reply.Unknown number)
reply_of past c (event.Ended client) = own client c reply.Ended
reply_of past c _ = []

-- the replies to a client, in order
abbrev pub replies : List Entry → ℕ → List Reply
replies [] c = []
replies (e ∷ past) c = replies past c ++ reply_of past c e.event
