-- Which messages of a queue its files hold, told from the messages in memory and the history, and how that follows a
-- commit and a settling.
use Rattle.std.specs.Prelude.{is_some, ◌≡◌, ℕ, Bool, true, false, ◌==◌, ◌&&◌, List, [], ◌∷◌, ◌++◌, filter, length, Some, if◌then◌else◌}
use Rattle.std.specs.List.{list_any, AllZip}
use Rattle.cq_bytes.specs.Numbers.{contains}
use Rattle.cq_entry.specs.declared.entry.EntryKind.{EntryKind}
use Rattle.cq_entry.specs.declared.entry.EntryKind.TheVariants.{Small}
use Rattle.cq_journal.specs.declared.event.Entry.{Entry}
use Rattle.cq_journal.specs.declared.event.Message.{Message}
use Rattle.cq_journal.specs.Lists.{IsSublist}
use Rattle.cq_journal.specs.History.{has_id, adds, line, acked, settled}
use Rattle.cq_journal.specs.Legal.{Legal, has}
use Rattle.cq_folder.specs.Survives.{makes_sure, SurvivesIn}
use Rattle.cq_folder.specs.Holding.{left_out}
use Rattle.cq_items.specs.Item.{Item}
use Rattle.cq_items.specs.Items.{undecided_items, settling_ids, others_items}
use Rattle.cq_queue_laws.specs.Laws.{AreOnce}
use Rattle.cq_queue_laws.specs.Follows.{is_unsettled, Follows}
use Rattle.cq_queue.specs.Passing.{Suits, kept_of, commit_items}
use Rattle.cq_queue.specs.Tied.{AreSplit}

-- whether an id is that of a committed message
abbrev pub is_stored : List Item → ℕ → Bool
is_stored items x = list_any (λ i. i.id == x && is_some i.stand) items

-- Of the line these messages are held: those that are committed, in its order.
pub record AreStored (items : List Item) (past : List Entry) (q : ℕ) (held : List Message) : Type 0 where
  pub sublist : IsSublist held (line past q)
  pub ids : (x : ℕ) → has_id held x ≡ is_stored items x

-- the message of one in memory: it is of this kind, and of a small undecided one the body is there
pub record HasBodies (kinds : Message → EntryKind) (i : Item) (m : Message) : Type 0 where
  pub id : i.id ≡ m.id
  pub len : i.len ≡ length m.body
  pub kind : i.kind ≡ kinds m
  pub body : i.kind ≡ Small → is_some i.stand ≡ false → i.body ≡ Some m.body

-- the messages of a line that aren't settled
abbrev pub unsettled_line : List Entry → ℕ → List Message
unsettled_line past q = filter (is_unsettled past q) (line past q)

-- the messages in memory are these, in order
abbrev pub AreBodies : (Message → EntryKind) → List Item → List Entry → ℕ → Type 0
AreBodies kinds items past q = AllZip (HasBodies kinds) items (unsettled_line past q)

-- the messages of those that are undecided, where these are the messages of all
abbrev pub undecided_of : List Item → List Message → List Message
undecided_of [] ms = []
undecided_of (i ∷ is) [] = []
undecided_of (i ∷ is) (m ∷ ms) = if is_some i.stand then undecided_of is ms else m ∷ undecided_of is ms

-- the messages that a commit keeps
abbrev pub coming : List ℕ → ℕ → List Item → List Entry → ℕ → List Message
coming skip room items past q = kept_of skip room (undecided_items items) (undecided_of items (unsettled_line past q))

-- no message that is sure and wasn't removed is undecided
abbrev pub AreSure : List Item → List Entry → ℕ → Type 0
AreSure items past q = (x : ℕ) → has_id (line past q) x ≡ true → has (makes_sure q x) past ≡ true
    → contains (acked past q) x ≡ false → is_stored items x ≡ true

-- What a node composes of: its messages in memory, its journal, and what its files hold.
pub record StoredLaws : Type 0 where
  -- what is stored survives the journal
  pub survives : (kinds : Message → EntryKind) (items : List Item) (past : List Entry) (q : ℕ) (held : List Message)
      → Legal past → AreBodies kinds items past q → AreSure items past q → AreStored items past q held
      → SurvivesIn past q held
  -- a commit: what it keeps comes next in the line, isn't settled, and is stored then
  pub comes : (kinds : Message → EntryKind) (items : List Item) (past : List Entry) (q : ℕ) (held : List Message)
      (skip : List ℕ) (room : ℕ) → Legal past → AreSplit items → AreBodies kinds items past q
      → AreStored items past q held → IsSublist (held ++ coming skip room items past q) (line past q)
  pub unsettled : (kinds : Message → EntryKind) (items : List Item) (past : List Entry) (q : ℕ) (skip : List ℕ)
      (room x : ℕ) → AreBodies kinds items past q → contains (settled past q) x ≡ true
      → has_id (coming skip room items past q) x ≡ false
  pub committed : (kinds : Message → EntryKind) (items : List Item) (past : List Entry) (q : ℕ) (held : List Message)
      (skip : List ℕ) (room segment at place : ℕ) → Legal past → AreSplit items → AreBodies kinds items past q
      → AreStored items past q held
      → AreStored (commit_items skip room segment at place items) past q (held ++ coming skip room items past q)
  -- its messages are those that the queue's commit is told
  pub suits : (kinds : Message → EntryKind) (items : List Item) (past : List Entry) (q : ℕ)
      → AreBodies kinds items past q
      → AllZip (Suits kinds) (undecided_items items) (undecided_of items (unsettled_line past q))
  -- a settling: what goes was removed, and the others are stored then
  pub removed : (items : List Item) (past : List Entry) (q x : ℕ) → Follows items past q
      → contains (settling_ids items) x ≡ true → contains (acked past q) x ≡ true
  pub settled : (items : List Item) (past : List Entry) (q : ℕ) (held : List Message) → AreOnce items
      → AreStored items past q held → AreStored (others_items items) past q (left_out (settling_ids items) held)
  -- an entry of the journal that brings the queue no message
  pub quiet : (items : List Item) (past : List Entry) (e : Entry) (q : ℕ) (held : List Message) → adds q e.event ≡ []
      → AreStored items past q held → AreStored items (e ∷ past) q held
