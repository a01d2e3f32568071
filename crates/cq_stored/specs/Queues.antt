-- All queues of a node at once, from step to step.
use Rattle.std.specs.Prelude.{◌≡◌, ◌≢◌, ℕ, true, false, List, [], ◌∷◌, ◌++◌, Option, if◌then◌else◌}
use Rattle.cq_bytes.specs.Numbers.{contains}
use Rattle.cq_disk.specs.declared.name.Name.{Name}
use Rattle.cq_disk.specs.File.{File}
use Rattle.cq_journal.specs.declared.event.Event.TheVariants.{Dropped}
use Rattle.cq_journal.specs.declared.event.Entry.{Entry}
use Rattle.cq_journal.specs.declared.event.Message.{Message}
use Rattle.cq_journal.specs.History.{adds, acked}
use Rattle.cq_journal.specs.Legal.{Legal}
use Rattle.cq_folder.specs.Folder.{Sharing}
use Rattle.cq_folder.specs.Standing.{Standing, Confirm, confirm_at, IsQuiet}
use Rattle.cq_folder.specs.Holding.{joined, without}
use Rattle.cq_folder.specs.HeldLaws.{settle_at, settle_all}
use Rattle.cq_items.specs.Item.{Item}
use Rattle.cq_items.specs.Items.{ack, has_item, new_item, others_items, settling_ids, undecided_items}
use Rattle.cq_queue_laws.specs.Laws.{items_after}
use Rattle.cq_queue.specs.Files.{ComesHeld, LosesHeld, StaysHeld}
use Rattle.cq_queue.specs.Passing.{Suits, commit_items}
use Rattle.cq_stored.specs.Stored.{coming}
use Rattle.cq_stored.specs.InStep.{IsInStep, publish_at, skipped_of}

-- What stands in the files survives the journal, and each queue is in step with it; while a commit's entries are noted,
-- with the journal that is ahead: the one in which all that was skipped is settled.
pub record AreInStep (files : Name → Option File) (sharing : Sharing) (items : ℕ → List Item) (past ahead : List Entry)
    (lines : ℕ → List Message) : Type 0 where
  pub standing : Standing files sharing past lines
  pub in_step : (q : ℕ) → IsInStep sharing.kinds (items q) ahead q (lines q)

-- the messages of one queue are these now, and those of each other one are as they were
pub record ChangesAt (q : ℕ) (items : List Item) (old new : ℕ → List Item) : Type 0 where
  pub this : new q ≡ items
  pub others : (r : ℕ) → r ≢ q → new r ≡ old r

-- What each step of a node keeps. For a commit and a settling of a queue it is told what their calls say at Ok.
pub record QueuesLaws : Type 0 where
  pub committed : (files now : Name → Option File) (sharing : Sharing) (old new : ℕ → List Item) (past : List Entry)
      (lines : ℕ → List Message) (q : ℕ) (skip : List ℕ) (room segment at place stamp : ℕ) → Legal past
      → AreInStep files sharing old past past lines
      → ComesHeld files now q sharing (coming skip room (old q) past q)
      → ChangesAt q (commit_items skip room segment at place (old q)) old new
      → AreInStep now sharing new past (settle_all stamp q (skipped_of skip room (undecided_items (old q))) past)
      (joined q (coming skip room (old q) past q) lines)
  -- a message is confirmed that no queue has undecided, and of which the drop is noted where it was skipped
  pub confirmed : (files : Name → Option File) (sharing : Sharing) (items : ℕ → List Item) (past : List Entry)
      (lines : ℕ → List Message) (q stamp now : ℕ) (ids : List ℕ) (p : Confirm) → Legal past
      → AreInStep files sharing items past (settle_all stamp q ids past) lines
      → ((r : ℕ) → has_item (undecided_items (items r)) p.id ≡ false)
      → (contains ids p.id ≡ true → contains (acked past q) p.id ≡ true)
      → AreInStep files sharing items (confirm_at now p ∷ past) (settle_all stamp q ids (confirm_at now p ∷ past)) lines
  pub dropped : (files : Name → Option File) (sharing : Sharing) (old new : ℕ → List Item) (past : List Entry)
      (lines : ℕ → List Message) (q stamp now client number : ℕ) (ids : List ℕ)
      → Legal (record { event = Dropped client number; stamp = now } ∷ past)
      → AreInStep files sharing old past (settle_all stamp q ids past) lines
      → ((r : ℕ) → new r ≡ ack client number (old r))
      → AreInStep files sharing new (record { event = Dropped client number; stamp = now } ∷ past)
      (settle_all stamp q ids (record { event = Dropped client number; stamp = now } ∷ past)) lines
  -- the next one that was skipped is settled
  pub skipped : (files : Name → Option File) (sharing : Sharing) (items : ℕ → List Item) (past : List Entry)
      (lines : ℕ → List Message) (q stamp id : ℕ) (ids : List ℕ)
      → AreInStep files sharing items past (settle_all stamp q (id ∷ ids) past) lines
      → AreInStep files sharing items (settle_at stamp q id ∷ past) (settle_all stamp q ids (settle_at stamp q id ∷ past))
      lines
  pub settled : (files now : Name → Option File) (sharing : Sharing) (old new : ℕ → List Item) (past : List Entry)
      (lines : ℕ → List Message) (q stamp : ℕ) → Legal past → AreInStep files sharing old past past lines
      → LosesHeld files now q (settling_ids (old q)) → ChangesAt q (others_items (old q)) old new
      → AreInStep now sharing new (settle_all stamp q (settling_ids (old q)) past)
      (settle_all stamp q (settling_ids (old q)) past) (without q (settling_ids (old q)) lines)
  -- a segment is removed
  pub removed : (files now : Name → Option File) (sharing : Sharing) (items : ℕ → List Item) (past : List Entry)
      (lines : ℕ → List Message) → Legal past → AreInStep files sharing items past past lines → StaysHeld files now
      → AreInStep now sharing items past past lines
  pub published : (files : Name → Option File) (sharing : Sharing) (old new : ℕ → List Item) (past : List Entry)
      (lines : ℕ → List Message) (stamp client number : ℕ) (queues : List ℕ) (m : Message) (body : Option (List ℕ))
      (len : ℕ) → Legal (publish_at stamp client number queues m ∷ past) → Suits sharing.kinds (new_item m.id body len) m
      → AreInStep files sharing old past past lines
      → ((r : ℕ) → new r ≡ (if contains queues r then old r ++ new_item m.id body len ∷ [] else old r))
      → AreInStep files sharing new (publish_at stamp client number queues m ∷ past)
      (publish_at stamp client number queues m ∷ past) lines
  -- an entry that brings no message, confirms nothing and settles nothing
  pub quiet : (files : Name → Option File) (sharing : Sharing) (old new : ℕ → List Item) (past : List Entry) (e : Entry)
      (lines : ℕ → List Message) → Legal (e ∷ past) → IsQuiet e.event → ((r : ℕ) → adds r e.event ≡ [])
      → AreInStep files sharing old past past lines → ((r : ℕ) → new r ≡ items_after e.event r (old r))
      → AreInStep files sharing new (e ∷ past) (e ∷ past) lines
