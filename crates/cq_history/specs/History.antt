-- What contracts see of what happened on a node, as its clients were told.
use Rattle.std.specs.Prelude.{◌≡◌, ℕ, ◌<◌, ◌≤◌, List, length, get_or, None}
use Rattle.std.specs.Ordering.{nat_cmp}
use Rattle.std.specs.FinMap.{FinMap, get}
use Rattle.cq_journal.specs.declared.event.Entry.{Entry}
use Rattle.cq_journal.specs.Asks.{replies}
use Rattle.cq_journal.specs.Legal.{newest}
use Rattle.cq_confirm.specs.declared.lack.Lack.{Lack}
use Rattle.cq_client.specs.Client.{Account, ClientValue, no_account}

-- the entries, the newest first, for how many more room is spare, what is kept of each client, and what each message lacks that isn't safe in each of its queues
pub record HistoryValue : Type 0 where
  pub entries : List Entry
  pub room : ℕ
  pub clients : List ClientValue
  pub lacks : FinMap nat_cmp Lack

-- a client of which nothing is kept
abbrev pub no_client : ClientValue
no_client = record { account = no_account; room = 0 }

-- what is kept of a client
abbrev pub account_at : List ClientValue → ℕ → Account
account_at clients c = (get_or clients c no_client).account

-- for how many more replies to a client room is spare
abbrev pub room_at : List ClientValue → ℕ → ℕ
room_at clients c = (get_or clients c no_client).room

-- The client is one of these, there is room for one more entry and one more reply to it, and the stamp is no earlier than the newest entry's.
pub record CanAnswer (client stamp : ℕ) (now : HistoryValue) : Type 0 where
  pub near : client < length now.clients
  pub room : 0 < now.room
  pub reply_room : 0 < room_at now.clients client
  pub later : newest now.entries ≤ stamp

-- each client was given the bodies that the journal says
abbrev pub AreWhole : HistoryValue → Type 0
AreWhole h = (c : ℕ) → c < length h.clients → replies h.entries c ≡ (account_at h.clients c).replies

-- no message lacks a queue
abbrev pub NoneLacks : FinMap nat_cmp Lack → Type 0
NoneLacks lacks = (id : ℕ) → get lacks id ≡ None
