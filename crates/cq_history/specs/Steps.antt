-- What each step adds to the journal, and what it leaves.
use Rattle.std.specs.Prelude.{◌≡◌, ℕ, ◌+◌, ◌^◌, ◌<◌, ◌≤◌, true, ◌==◌, ◌&&◌, if◌then◌else◌, List, [], ◌∷◌, length, Option, None, Some}
use Rattle.std.specs.List.{list_any}
use Rattle.std.specs.FinMap.{get, insert}
use Rattle.cq_journal.specs.declared.event.Event.{Event}
use Rattle.cq_journal.specs.declared.event.Event.TheVariants.{Published, Acked, Unknown, Confirmed}
use Rattle.cq_journal.specs.declared.event.Entry.{Entry}
use Rattle.cq_journal.specs.declared.event.Message.{Message}
use Rattle.cq_journal.specs.History.{is_delivery, open_deliveries, unacked}
use Rattle.cq_journal.specs.Legal.{delivered}
use Rattle.cq_confirm.specs.declared.lack.Sure.{Sure}
use Rattle.cq_confirm.specs.Lacking.{passed, sure_of}
use Rattle.cq_client.specs.Client.{Account}
use Rattle.cq_history.specs.History.{HistoryValue, account_at}

-- one entry more
abbrev pub noted : Event → ℕ → List Entry → List Entry
noted event stamp past = record { event = event; stamp = stamp } ∷ past

-- The account of one client changed by this function; of every other client, and of what lacks, the same is kept.
pub record ChangesAccount (client : ℕ) (change : Account → Account) (old new : HistoryValue) : Type 0 where
  pub count : length new.clients ≡ length old.clients
  pub accounts : (c : ℕ) → account_at new.clients c ≡ (if client == c then change (account_at old.clients c) else account_at old.clients c)
  pub lacks : new.lacks ≡ old.lacks

-- the entries, the accounts and what lacks are the same
pub record SaysTheSame (old new : HistoryValue) : Type 0 where
  pub entries : new.entries ≡ old.entries
  pub count : length new.clients ≡ length old.clients
  pub accounts : (c : ℕ) → account_at new.clients c ≡ account_at old.clients c
  pub lacks : new.lacks ≡ old.lacks

-- A publish under this id: its entry, with the client's next number, and as many queues lack as it names.
pub record AddsPublish (client id stamp : ℕ) (queues body : List ℕ) (old new : HistoryValue) : Type 0 where
  pub entries : new.entries ≡ noted (Published client (account_at old.clients client).published id queues body) stamp old.entries
  pub lacks : new.lacks ≡ insert old.lacks id (record { client = client; number = (account_at old.clients client).published; queues = length queues })
  pub count : length new.clients ≡ length old.clients

-- the client has fewer than 64 deliveries open, and its next delivery has a number
pub record MayGet (client : ℕ) (past : List Entry) : Type 0 where
  pub open_ : length (unacked past client) < 64
  pub few : delivered past client + 1 < 2 ^ 32

-- the first of these messages has this id and this body
abbrev pub IsFirstMessage : ℕ → List ℕ → List Message → Type 0
IsFirstMessage id body [] = ⊥
IsFirstMessage id body (m ∷ ms) = (m.id ≡ id) × (m.body ≡ body)

-- the client has the delivery open, and it came from this queue, below 256
pub record IsOpenFrom (client delivery : ℕ) (past : List Entry) (queue : ℕ) : Type 0 where
  pub below : queue < 256
  pub open_ : list_any (λ d. is_delivery client delivery d && d.queue == queue) (open_deliveries past) ≡ true

-- what an acknowledgement is answered of a delivery that came from this queue, or isn't open
abbrev pub ack_event : ℕ → ℕ → Option ℕ → Event
ack_event client delivery None = Unknown client delivery
ack_event client delivery (Some queue) = Acked client delivery

-- the publish is confirmed, where it is one
abbrev pub confirmed_by : ℕ → ℕ → Option Sure → List Entry → List Entry
confirmed_by stamp id None past = past
confirmed_by stamp id (Some s) past = noted (Confirmed s.client s.number id) stamp past

-- The message is safe in one queue more: where it was the last that it lacked, its publish is confirmed. No account changes, and one place at most is filled.
pub record Passes (id stamp : ℕ) (old new : HistoryValue) : Type 0 where
  pub entries : new.entries ≡ confirmed_by stamp id (sure_of (get old.lacks id)) old.entries
  pub lacks : new.lacks ≡ passed old.lacks id (get old.lacks id)
  pub clients : new.clients ≡ old.clients
  pub room : old.room ≤ new.room + 1

-- One entry more, and one place fewer at most. All else is the same.
pub record AddsAlone (event : Event) (stamp : ℕ) (old new : HistoryValue) : Type 0 where
  pub entries : new.entries ≡ noted event stamp old.entries
  pub lacks : new.lacks ≡ old.lacks
  pub clients : new.clients ≡ old.clients
  pub room : old.room ≤ new.room + 1
