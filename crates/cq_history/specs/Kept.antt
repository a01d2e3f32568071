-- What is kept in memory beside the journal is what the journal says.
use Rattle.std.specs.Prelude.{◌≡◌, ◌⊎◌, ◌==◌, ℕ, ◌^◌, ◌<◌, ◌≤◌, true, false, List, length, map, is_some, Some}
use Rattle.std.specs.List.{AllByRecursion, list_any}
use Rattle.std.specs.Ordering.{nat_cmp}
use Rattle.std.specs.FinMap.{FinMap, get}
use Rattle.cq_bytes.specs.Numbers.{contains}
use Rattle.cq_journal.specs.declared.event.Entry.{Entry}
use Rattle.cq_journal.specs.declared.lines.Line.{Line}
use Rattle.cq_journal.specs.History.{Delivery, unacked}
use Rattle.cq_journal.specs.Legal.{published, delivered, has, brings, is_publish, is_confirmed_by, Legal}
use Rattle.cq_journal.specs.Asks.{replies}
use Rattle.cq_confirm.specs.declared.lack.Lack.{Lack}
use Rattle.cq_confirm.specs.Lacking.{EachLacks}
use Rattle.cq_core.specs.Answers.{bodiless}
use Rattle.cq_core.specs.Core.{TakesNextIds}
use Rattle.cq_core.specs.Ids.{Numbering}
use Rattle.cq_client.specs.declared.open.OpenDelivery.{OpenDelivery}
use Rattle.cq_client.specs.Client.{Account}

-- an open delivery, as the client's account has it
abbrev pub open_of : Delivery → OpenDelivery
open_of d = record { delivery = d.number; queue = d.queue }

-- The client's account is what the journal says of it, but for the bodies of replies, and its open deliveries are of queues below 256.
pub record IsAccount (journal : List Entry) (c : ℕ) (a : Account) : Type 0 where
  pub opens_are : map open_of (unacked journal c) ≡ a.opens
  pub below : AllByRecursion (λ o. o.queue < 256) a.opens
  pub published_is : published journal c ≡ a.published
  pub delivered_is : delivered journal c ≡ a.delivered
  pub replies_are : map bodiless (replies journal c) ≡ map bodiless a.replies

-- Of each id below the next one there is a message; there is none of the others but those that stood in the folder.
pub record HaveIds (journal : List Entry) (ids : Numbering) : Type 0 where
  pub free : contains ids.taken ids.next ≡ false
  pub some : 0 < ids.next
  pub taken : (x : ℕ) → contains ids.taken x ≡ true → has (brings x) journal ≡ true
  pub below : (x : ℕ) → 0 < x → x < ids.next → has (brings x) journal ≡ true
  pub above : (x : ℕ) → ids.next ≤ x → contains ids.taken x ≡ false → has (brings x) journal ≡ false
  pub given : ids.given < length journal

-- each message that lacks a queue was published by the publish that is noted, and isn't confirmed
abbrev pub AreOwed : List Entry → FinMap nat_cmp Lack → Type 0
AreOwed journal lacks = (x : ℕ) (l : Lack) → get lacks x ≡ Some l → (has (is_publish l.client l.number x) journal ≡ true) × (has (is_confirmed_by x) journal ≡ false)

-- each publish is confirmed, or its message lacks a queue
abbrev pub AreDecided : List Entry → FinMap nat_cmp Lack → Type 0
AreDecided journal lacks = (c k x : ℕ) → has (is_publish c k x) journal ≡ true → (has (is_confirmed_by x) journal ≡ true) ⊎ (is_some (get lacks x) ≡ true)

-- the accounts of so many clients are what the journal says of them
abbrev pub AreAccounts : List Entry → ℕ → (ℕ → Account) → Type 0
AreAccounts journal count accounts = (c : ℕ) → c < count → IsAccount journal c (accounts c)

-- these numbers are the ids of the lines
abbrev pub AreIdsOf : List Line → List ℕ → Type 0
AreIdsOf lines ids = (x : ℕ) → contains ids x ≡ list_any (λ l. l.id == x) lines

-- The journal is legal and each publish took the next id; what each message lacks and what is kept of so many clients is what the journal says.
pub record IsHistory (journal : List Entry) (accounts : ℕ → Account) (count : ℕ) (lacks : FinMap nat_cmp Lack) (ids : Numbering) : Type 0 where
  pub legal : Legal journal
  pub some : 0 < length journal
  pub next_ids : TakesNextIds journal
  pub ids_are : HaveIds journal ids
  pub each_lacks : EachLacks lacks
  pub owed : AreOwed journal lacks
  pub decided : AreDecided journal lacks
  pub unbrought : (x : ℕ) → has (brings x) journal ≡ false → has (is_confirmed_by x) journal ≡ false
  pub few : count < 2 ^ 32
  pub accounts_are : AreAccounts journal count accounts
