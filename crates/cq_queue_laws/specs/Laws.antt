-- How the messages of a queue in memory follow a history, entry by entry, and what is read off them.
use Rattle.std.specs.Prelude.{◌≡◌, ℕ, ◌+◌, ◌<◌, Bool, true, false, not, ◌==◌, ◌&&◌, if◌then◌else◌, List, [], ◌∷◌, ◌++◌, length, filter, map, drop, Option}
use Rattle.std.specs.List.{list_any}
use Rattle.cq_bytes.specs.Numbers.{contains}
use Rattle.cq_journal.specs.declared.event.Event.{Event}
use Rattle.cq_journal.specs.declared.event.Event.TheVariants.{Opened, Published, Delivered, Acked, Dropped, Ended, Settled}
use Rattle.cq_journal.specs.declared.event.Entry.{Entry}
use Rattle.cq_journal.specs.declared.event.Message.{Message}
use Rattle.cq_journal.specs.declared.lines.Line.{Line}
use Rattle.cq_journal.specs.History.{adds, opened_in, line, open_deliveries, is_delivery, waiting, has_id}
use Rattle.cq_journal.specs.Legal.{delivered, Legal}
use Rattle.cq_items.specs.Item.{Item}
use Rattle.cq_items.specs.declared.item.Stand.{Stand}
use Rattle.cq_items.specs.declared.item.Passed.{Passed}
use Rattle.cq_items.specs.declared.item.Holder.TheVariants.{Waiting, Out}
use Rattle.cq_items.specs.Items.{new_item, hand_out, ack, give_back, waiting_items, undecided_items, settling_ids, others_items, is_out_to, has_item, pass_first, IsHeldBy, IsPassed}
use Rattle.cq_items.specs.Queue.{AreOutOnce}
use Rattle.cq_queue_laws.specs.Follows.{bare, Follows}
use Rattle.cq_queue_laws.specs.Refs.{refs}

-- what an entry that brings no message makes of the items of a queue
abbrev pub items_after : Event → ℕ → List Item → List Item
items_after (Delivered client number queue id) q items = if queue == q then hand_out client number items else items
items_after (Acked client number) q items = ack client number items
items_after (Dropped client number) q items = ack client number items
items_after (Ended client) q items = give_back client items
items_after (Settled queue id) q items = if queue == q then filter (λ i. not (i.id == id)) items else items
items_after _ q items = items

-- whether a client has a delivery open for a queue, under this number and under any
abbrev pub is_open_for : List Entry → ℕ → ℕ → ℕ → Bool
is_open_for past client number q = list_any (λ d. is_delivery client number d && d.queue == q) (open_deliveries past)

abbrev pub has_open_for : List Entry → ℕ → ℕ → Bool
has_open_for past client q = list_any (λ d. d.client == client && d.queue == q) (open_deliveries past)

-- no id stands twice
abbrev pub AreOnce : List Item → Type 0
AreOnce [] = Unit {0}
AreOnce (i ∷ is) = (has_item is i.id ≡ false) × AreOnce is

-- each entry keeps it, at every queue
pub record EntriesKeep : Type 0 where
  pub quiet : (items : List Item) (past : List Entry) (e : Entry) (q : ℕ) → Legal (e ∷ past) → adds q e.event ≡ [] → Follows items past q → Follows (items_after e.event q items) (e ∷ past) q
  pub published : (items : List Item) (past : List Entry) (stamp c n id q len : ℕ) (queues body : List ℕ) (held : Option (List ℕ)) → Legal (record { event = Published c n id queues body; stamp = stamp } ∷ past)
      → contains queues q ≡ true → Follows items past q → Follows (items ++ new_item id held len ∷ []) (record { event = Published c n id queues body; stamp = stamp } ∷ past) q
  pub opened : (items : List Item) (stamp q : ℕ) (lines : List Line) → map bare items ≡ map (λ m. record { id = m.id; holder = Waiting }) (opened_in q lines)
      → Follows items (record { event = Opened lines; stamp = stamp } ∷ []) q

-- the items of a queue that an acknowledgement or an end doesn't concern stay as they are
pub record OthersStay : Type 0 where
  pub by_ack : (items : List Item) (past : List Entry) (stamp c n p q : ℕ) → Legal past → is_open_for past c n p ≡ true → (p == q) ≡ false
      → Follows items past q → Follows items (record { event = Acked c n; stamp = stamp } ∷ past) q
  pub by_drop : (items : List Item) (past : List Entry) (stamp c n p q : ℕ) → Legal past → is_open_for past c n p ≡ true → (p == q) ≡ false
      → Follows items past q → Follows items (record { event = Dropped c n; stamp = stamp } ∷ past) q
  pub by_end : (items : List Item) (past : List Entry) (stamp c q : ℕ) → Legal past → has_open_for past c q ≡ false
      → Follows items past q → Follows items (record { event = Ended c; stamp = stamp } ∷ past) q

-- a passed entry that is kept is no entry of the history; one that is skipped is settled, and where its message was out
-- it doesn't matter whether the drop was noted first
pub record PassingKeeps : Type 0 where
  pub passed : (items : List Item) (past : List Entry) (stamp q : ℕ) (skip : Bool) (st : Stand) (r : Passed) → IsPassed skip r (undecided_items items) → AreOnce items → Follows items past q
      → Follows (pass_first skip st items) (if r.kept then past else record { event = Settled q r.id; stamp = stamp } ∷ past) q
  pub dropped_first : (items : List Item) (st : Stand) (c d : ℕ) → AreOutOnce items → IsHeldBy (Out c d) (undecided_items items) → pass_first true st (ack c d items) ≡ pass_first true st items

-- a history with one more entry for each of these ids, in order
abbrev pub with_settled : List ℕ → ℕ → ℕ → List Entry → List Entry
with_settled [] stamp q past = past
with_settled (id ∷ ids) stamp q past = with_settled ids stamp q (record { event = Settled q id; stamp = stamp } ∷ past)

-- what settles is gone by its ids, and is settled id by id
pub record SettlingKeeps : Type 0 where
  pub filters : (items : List Item) → AreOnce items → others_items items ≡ filter (λ i. not (contains (settling_ids items) i.id)) items
  pub settled : (items : List Item) (past : List Entry) (stamp q : ℕ) → AreOnce items → Follows items past q → Follows (others_items items) (with_settled (settling_ids items) stamp q past) q

-- what a queue tells is what the history tells
pub record ItemsTell : Type 0 where
  pub waiting_ids : (items : List Item) (past : List Entry) (q : ℕ) → Legal past → Follows items past q → map (λ i. i.id) (waiting_items items) ≡ map (λ (m : Message). m.id) (waiting past q)
  pub waiting_count : (items : List Item) (past : List Entry) (q : ℕ) → Legal past → Follows items past q → length (waiting_items items) ≡ length (waiting past q)
  pub next_is_fresh : (items : List Item) (past : List Entry) (q c : ℕ) → Legal past → Follows items past q → is_out_to c (delivered past c) items ≡ false
  pub ids_once : (items : List Item) (past : List Entry) (q : ℕ) → Legal past → Follows items past q → AreOnce items
  pub out_once : (items : List Item) (past : List Entry) (q : ℕ) → Legal past → Follows items past q → AreOutOnce items

-- a publish brings one reference for each of its queues, a settling takes one
pub record RefsCount : Type 0 where
  pub published : (past : List Entry) (stamp c n id : ℕ) (queues body : List ℕ) → Legal (record { event = Published c n id queues body; stamp = stamp } ∷ past)
      → refs (record { event = Published c n id queues body; stamp = stamp } ∷ past) id ≡ length queues
  pub settled_one : (past : List Entry) (stamp q id : ℕ) → Legal (record { event = Settled q id; stamp = stamp } ∷ past) → has_id (line past q) id ≡ true → q < 256
      → refs past id ≡ refs (record { event = Settled q id; stamp = stamp } ∷ past) id + 1

-- the undecided messages: a publish adds one at the end, passing takes the first, nothing else changes their ids
pub record UndecidedChanges : Type 0 where
  pub by_publish : (items : List Item) (id len : ℕ) (held : Option (List ℕ)) → undecided_items (items ++ new_item id held len ∷ []) ≡ undecided_items items ++ new_item id held len ∷ []
  pub by_passing : (items : List Item) (skip : Bool) (st : Stand) → undecided_items (pass_first skip st items) ≡ drop 1 (undecided_items items)
  pub by_settling : (items : List Item) → undecided_items (others_items items) ≡ undecided_items items
  pub by_delivery : (items : List Item) (c d : ℕ) → map (λ i. i.id) (undecided_items (hand_out c d items)) ≡ map (λ i. i.id) (undecided_items items)
  pub by_ack : (items : List Item) (c d : ℕ) → map (λ i. i.id) (undecided_items (ack c d items)) ≡ map (λ i. i.id) (undecided_items items)
  pub by_end : (items : List Item) (c : ℕ) → map (λ i. i.id) (undecided_items (give_back c items)) ≡ map (λ i. i.id) (undecided_items items)
