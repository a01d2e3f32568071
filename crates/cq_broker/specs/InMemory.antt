-- What a node's queues have in memory is in step with its journal.
use Rattle.std.specs.Prelude.{◌≡◌, ℕ, Bool, List, Option}
use Rattle.std.specs.Ordering.{nat_cmp}
use Rattle.std.specs.FinMap.{FinMap, get}
use Rattle.cq_disk.specs.declared.name.Name.{Name}
use Rattle.cq_disk.specs.File.{File}
use Rattle.cq_entry.specs.declared.entry.EntryKind.TheVariants.{Small}
use Rattle.cq_journal.specs.declared.event.Entry.{Entry}
use Rattle.cq_journal.specs.declared.event.Message.{Message}
use Rattle.cq_folder.specs.Folder.{Sharing}
use Rattle.cq_items.specs.Item.{Item}
use Rattle.cq_items.specs.Items.{has_item, undecided_items}
use Rattle.cq_queue_laws.specs.Refs.{count_below}
use Rattle.cq_confirm.specs.declared.lack.Lack.{Lack}
use Rattle.cq_confirm.specs.Lacking.{count_of}
use Rattle.cq_stored.specs.InStep.{IsInStep}
use Rattle.cq_stored.specs.Queues.{AreInStep}
use Rattle.cq_queue.specs.Values.{QueueValue}
use Rattle.cq_queues.specs.Changes.{StayOnDisk}

-- the messages of queues
abbrev pub items_of : (ℕ → QueueValue) → ℕ → List Item
items_of queues q = (queues q).items

-- whether a message is undecided in a queue
abbrev pub is_undecided : (ℕ → List Item) → ℕ → ℕ → Bool
is_undecided items x q = has_item (undecided_items (items q)) x

-- Each queue's messages, all small, are in step with the journal, and a message lacks as many queues as have it undecided.
pub record IsInMemory (items : ℕ → List Item) (past : List Entry) (lacks : FinMap nat_cmp Lack) : Type 0 where
  pub lines : ℕ → List Message
  pub in_step : (q : ℕ) → IsInStep (λ m. Small) (items q) past q (lines q)
  pub lacking : (x : ℕ) → count_of (get lacks x) ≡ count_below 256 (is_undecided items x)

-- no message is shared
abbrev pub small_sharing : (ℕ → List Message) → Sharing
small_sharing shelves = record { shelves = shelves; kinds = λ m. Small }

-- Where the queues' files are as their calls left them, and what stands in them is in step with the journal, both are so
-- after the step.
pub record KeepsInStep (old new : ℕ → QueueValue) (past now : List Entry) : Type 0 where
  pub files : StayOnDisk old new
  pub standing : (files : Name → Option File) (shelves lines : ℕ → List Message)
      → AreInStep files (small_sharing shelves) (items_of old) past past lines
      → AreInStep files (small_sharing shelves) (items_of new) now now lines
