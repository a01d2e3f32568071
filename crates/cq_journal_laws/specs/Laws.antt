-- Laws of legal histories, whose entries stand with the newest first.
use Rattle.cq_journal.specs.Lists.{HaveKeys}
use Rattle.std.specs.Prelude.{◌≡◌, ℕ, true, false, ◌==◌, if◌then◌else◌, List, [], ◌∷◌, ◌++◌, Some, slice_get}
use Rattle.cq_bytes.specs.Numbers.{contains}
use Rattle.cq_journal.specs.declared.event.Event.TheVariants.{Delivered, Acked, Dropped, Ended}
use Rattle.cq_journal.specs.declared.event.Entry.{Entry}
use Rattle.cq_journal.specs.History.{Delivery, line, open_deliveries, unacked, acked, is_out, waiting, settled, AreApart}
use Rattle.cq_journal.specs.Legal.{IsFirst, Legal}
use Rattle.cq_journal_laws.specs.Changes.{line_after, waiting_after, unacked_after, settled_after, is_removal}

abbrev pub LineChanges : Type 0
LineChanges = (past : List Entry) (e : Entry) (q : ℕ) → Legal (e ∷ past) → line (e ∷ past) q ≡ line_after past e.event q

abbrev pub WaitingChanges : Type 0
WaitingChanges = (past : List Entry) (e : Entry) (q : ℕ) → Legal (e ∷ past) → waiting (e ∷ past) q ≡ waiting_after past e.event q

abbrev pub UnackedChanges : Type 0
UnackedChanges = (past : List Entry) (e : Entry) (c : ℕ) → Legal (e ∷ past) → unacked (e ∷ past) c ≡ unacked_after past e.event c

abbrev pub SettledChanges : Type 0
SettledChanges = (past : List Entry) (e : Entry) (q : ℕ) → Legal (e ∷ past) → settled (e ∷ past) q ≡ settled_after past e.event q

-- an acknowledgement, seen early or not, removes the one message that its delivery named, and from that queue alone;
-- no other entry removes any
pub record AckedChanges : Type 0 where
  pub by_ack : (past : List Entry) (stamp q k : ℕ) (d : Delivery) → Legal past → slice_get (open_deliveries past) k ≡ Some d
      → acked (record { event = Acked d.client d.number; stamp = stamp } ∷ past) q ≡ acked past q ++ (if d.queue == q then d.id ∷ [] else [])
  pub by_drop : (past : List Entry) (stamp q k : ℕ) (d : Delivery) → Legal past → slice_get (open_deliveries past) k ≡ Some d
      → acked (record { event = Dropped d.client d.number; stamp = stamp } ∷ past) q ≡ acked past q ++ (if d.queue == q then d.id ∷ [] else [])
  pub by_no_other : (past : List Entry) (e : Entry) (q : ℕ) → is_removal e.event ≡ false → acked (e ∷ past) q ≡ acked past q

-- what is handed out next is neither removed nor out
abbrev pub FirstIsFree : Type 0
FirstIsFree = (past : List Entry) (q id : ℕ) → IsFirst id (waiting past q) → (contains (acked past q) id ≡ false) × (is_out (open_deliveries past) q id ≡ false)

-- no two open deliveries name one message of one queue
abbrev pub NonePairsUp : Type 0
NonePairsUp = (past : List Entry) → Legal past → AreApart (open_deliveries past)

-- no two open deliveries have one client and number
abbrev pub DeliveriesHaveKeys : Type 0
DeliveriesHaveKeys = (past : List Entry) → Legal past → HaveKeys (open_deliveries past)

abbrev pub SettledWasAcked : Type 0
SettledWasAcked = (past : List Entry) (q x : ℕ) → Legal past → contains (settled past q) x ≡ true → contains (acked past q) x ≡ true

-- a client that had nothing open gets a message and ends: the queue waits as before
abbrev pub EndUndoesGet : Type 0
EndUndoesGet = (past : List Entry) (get end c n q id : ℕ)
    → Legal (record { event = Ended c; stamp = end } ∷ record { event = Delivered c n q id; stamp = get } ∷ past) → unacked past c ≡ []
    → waiting (record { event = Ended c; stamp = end } ∷ record { event = Delivered c n q id; stamp = get } ∷ past) q ≡ waiting past q
