-- What ties a queue's messages in memory to the journal and to the messages that its files hold, from step to step.
use Rattle.std.specs.Prelude.{is_some, ◌≡◌, ℕ, true, false, not, ◌==◌, List, [], ◌∷◌, ◌++◌, filter, map, length, Option}
use Rattle.std.specs.List.{AllZip}
use Rattle.cq_bytes.specs.Numbers.{contains}
use Rattle.cq_entry.specs.declared.entry.EntryKind.{EntryKind}
use Rattle.cq_journal.specs.declared.event.Event.TheVariants.{Opened, Published, Dropped, Confirmed}
use Rattle.cq_journal.specs.declared.event.Entry.{Entry}
use Rattle.cq_journal.specs.declared.event.Message.{Message}
use Rattle.cq_journal.specs.declared.lines.Line.{Line}
use Rattle.cq_journal.specs.History.{has_id, adds, opened_in, line, acked, settles}
use Rattle.cq_journal.specs.Legal.{Legal}
use Rattle.cq_folder.specs.Holding.{left_out}
use Rattle.cq_folder.specs.HeldLaws.{settle_all}
use Rattle.cq_items.specs.Item.{Item}
use Rattle.cq_items.specs.declared.item.Passed.{Passed}
use Rattle.cq_items.specs.declared.item.Holder.TheVariants.{Waiting}
use Rattle.cq_items.specs.Items.{ack, has_item, new_item, others_items, settling_ids, undecided_items}
use Rattle.cq_queue_laws.specs.Follows.{Follows}
use Rattle.cq_queue_laws.specs.Laws.{items_after}
use Rattle.cq_queue.specs.Passing.{Suits, commit_items, passed_of}
use Rattle.cq_queue.specs.Tied.{AreSplit}
use Rattle.cq_stored.specs.Stored.{AreBodies, AreStored, coming}

-- The messages in memory are those that aren't settled, each with its holder and with what is known of its body; and of
-- these messages are held, in order, exactly the committed ones.
pub record IsInStep (kinds : Message → EntryKind) (items : List Item) (past : List Entry) (q : ℕ)
    (held : List Message) : Type 0 where
  pub follows : Follows items past q
  pub split : AreSplit items
  pub bodies : AreBodies kinds items past q
  pub stored : AreStored items past q held

-- a message that was found in the files, as it is in memory: it is committed, and waits
pub record IsFound (kinds : Message → EntryKind) (i : Item) (m : Message) : Type 0 where
  pub id : i.id ≡ m.id
  pub len : i.len ≡ length m.body
  pub kind : i.kind ≡ kinds m
  pub stands : is_some i.stand ≡ true
  pub holder : i.holder ≡ Waiting

-- the ids of those that are passed and not kept
abbrev pub skipped_of : List ℕ → ℕ → List Item → List ℕ
skipped_of skip room items = map (λ (p : Passed). p.id) (filter (λ p. not p.kept) (passed_of skip room items))

-- the entry of a publish
abbrev pub publish_at : ℕ → ℕ → ℕ → List ℕ → Message → Entry
publish_at stamp client number queues m = record { event = Published client number m.id queues m.body; stamp = stamp }

-- What keeps a queue in step.
pub record InStepLaws : Type 0 where
  -- an opening that found these messages
  pub opened : (kinds : Message → EntryKind) (items : List Item) (stamp q : ℕ) (lines : List Line)
      → AllZip (IsFound kinds) items (opened_in q lines)
      → IsInStep kinds items (record { event = Opened lines; stamp = stamp } ∷ []) q (opened_in q lines)
  -- a publish to the queue
  pub published : (kinds : Message → EntryKind) (items : List Item) (past : List Entry) (q : ℕ) (held : List Message)
      (stamp client number : ℕ) (queues : List ℕ) (m : Message) (body : Option (List ℕ)) (len : ℕ)
      → Legal (publish_at stamp client number queues m ∷ past) → contains queues q ≡ true
      → Suits kinds (new_item m.id body len) m → IsInStep kinds items past q held
      → IsInStep kinds (items ++ new_item m.id body len ∷ []) (publish_at stamp client number queues m ∷ past) q held
  -- an entry that brings the queue no message, and settles none that is held
  pub quiet : (kinds : Message → EntryKind) (items : List Item) (past : List Entry) (e : Entry) (q : ℕ)
      (held : List Message) → Legal (e ∷ past) → adds q e.event ≡ []
      → ((x : ℕ) → contains (settles q e.event) x ≡ true → has_id held x ≡ false) → IsInStep kinds items past q held
      → IsInStep kinds (items_after e.event q items) (e ∷ past) q held
  -- a commit, with what it skipped settled
  pub committed : (kinds : Message → EntryKind) (items : List Item) (past : List Entry) (q : ℕ) (held : List Message)
      (skip : List ℕ) (room segment at place stamp : ℕ) → Legal past → IsInStep kinds items past q held
      → IsInStep kinds (commit_items skip room segment at place items)
      (settle_all stamp q (skipped_of skip room (undecided_items items)) past) q (held ++ coming skip room items past q)
  -- a settling, with what has gone settled
  pub settled : (kinds : Message → EntryKind) (items : List Item) (past : List Entry) (q : ℕ) (held : List Message)
      (stamp : ℕ) → Legal past → IsInStep kinds items past q held
      → IsInStep kinds (others_items items) (settle_all stamp q (settling_ids items) past) q
      (left_out (settling_ids items) held)
  -- another queue, where these are settled
  pub elsewhere : (kinds : Message → EntryKind) (items : List Item) (past : List Entry) (q r : ℕ)
      (held : List Message) (stamp : ℕ) (ids : List ℕ) → (q == r) ≡ false → IsInStep kinds items past r held
      → IsInStep kinds items (settle_all stamp q ids past) r held

-- What holds between a commit and the last of its entries: a queue is in step with the journal in which all that was
-- skipped is settled, while some of it isn't settled yet.
pub record PassingLaws : Type 0 where
  -- a confirm, and a drop, are noted before
  pub confirmed : (kinds : Message → EntryKind) (items : List Item) (past : List Entry) (q r : ℕ) (held : List Message)
      (stamp now client number id : ℕ) (ids : List ℕ) → IsInStep kinds items (settle_all stamp q ids past) r held
      → IsInStep kinds items
      (settle_all stamp q ids (record { event = Confirmed client number id; stamp = now } ∷ past)) r held
  pub dropped : (kinds : Message → EntryKind) (items : List Item) (past : List Entry) (q r : ℕ) (held : List Message)
      (stamp now client number : ℕ) (ids : List ℕ) → Legal past
      → IsInStep kinds items (settle_all stamp q ids past) r held
      → IsInStep kinds (ack client number items)
      (settle_all stamp q ids (record { event = Dropped client number; stamp = now } ∷ past)) r held
  -- A message that isn't undecided is held where it wasn't removed; so it may be confirmed.
  pub safe : (kinds : Message → EntryKind) (items : List Item) (past : List Entry) (q r : ℕ) (held : List Message)
      (stamp x : ℕ) (ids : List ℕ) → Legal past → IsInStep kinds items (settle_all stamp q ids past) r held
      → (contains ids x ≡ true → contains (acked past q) x ≡ true) → has_item (undecided_items items) x ≡ false
      → has_id (line past r) x ≡ true → contains (acked past r) x ≡ false → has_id held x ≡ true
  -- one that was skipped isn't held; so it may be settled
  pub lacks : (kinds : Message → EntryKind) (items : List Item) (past : List Entry) (q : ℕ) (held : List Message)
      (stamp x : ℕ) (ids : List ℕ) → IsInStep kinds items (settle_all stamp q ids past) q held
      → contains ids x ≡ true → has_id held x ≡ false
