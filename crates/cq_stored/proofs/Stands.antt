-- What stands in the files after a queue's calls, and that it survives the journal.
use Rattle.std.proofs.Common.{ℕ, List, Option}
use Rattle.cq_disk.specs.declared.name.Name.{Name}
use Rattle.cq_disk.specs.File.{File}
use Rattle.cq_journal.specs.declared.event.Entry.{Entry}
use Rattle.cq_journal.specs.declared.event.Message.{Message}
use Rattle.cq_journal.specs.Legal.{Legal}
use Rattle.cq_folder.specs.Survives.{Survives}
use Rattle.cq_folder.specs.Folder.{Sharing}
use Rattle.cq_folder.specs.Standing.{Standing}
use Rattle.cq_folder.specs.Holding.{joined, without}
use Rattle.cq_folder.specs.HeldLaws.{settle_all}
use Rattle.cq_folder.proofs.KeptHeld.{keeps_held}
use Rattle.cq_items.specs.Item.{Item}
use Rattle.cq_items.specs.Items.{settling_ids}
use Rattle.cq_queue_laws.specs.Follows.{Follows}
use Rattle.cq_queue.specs.Files.{ComesHeld, LosesHeld, StaysHeld}
use Rattle.cq_queue.specs.Tied.{AreSplit}
use Rattle.cq_stored.specs.Stored.{coming, AreStored, AreBodies}
use Rattle.cq_stored.proofs.Holding.{stored_laws}

module _ (sharing : Sharing) (past : List Entry) (lines : ℕ → List Message) (items : List Item) (q : ℕ) (legal : Legal past) (files_old : Name → Option File) (s : Standing files_old sharing past lines) where
  pub was : Survives past lines
  was = keeps_held.survives files_old sharing past lines s

  module _ (skip : List ℕ) (room : ℕ) (split : AreSplit items) (bodies : AreBodies sharing.kinds items past q) (are : AreStored items past q (lines q)) where
    pub come : Survives past (joined q (coming skip room items past q) lines)
    come = keeps_held.come past lines q (coming skip room items past q) legal (stored_laws.comes sharing.kinds items past q (lines q) skip room legal split bodies are) (λ x gone. stored_laws.unsettled sharing.kinds items past q skip room x bodies gone) was

  pub lose : Follows items past q → Survives past (without q (settling_ids items) lines)
  lose follows = keeps_held.lose past lines (without q (settling_ids items) lines) q (settling_ids items) (λ x has. stored_laws.removed items past q x follows has) (keeps_held.loses lines q (settling_ids items)) was

module _ (old new : Name → Option File) (sharing : Sharing) (past : List Entry) (lines : ℕ → List Message) (legal : Legal past) (s : Standing old sharing past lines) where
  pub commit_stands : (items : List Item) (q : ℕ) (skip : List ℕ) (room : ℕ) → AreSplit items → AreBodies sharing.kinds items past q → AreStored items past q (lines q)
      → ComesHeld old new q sharing (coming skip room items past q) → Standing new sharing past (joined q (coming skip room items past q) lines)
  commit_stands items q skip room split bodies are comes = keeps_held.standing new sharing past (joined q (coming skip room items past q) lines) legal
      (comes lines (keeps_held.held old sharing past lines s)) (come sharing past lines items q legal old s skip room split bodies are)

  pub settle_stands : (items : List Item) (q : ℕ) → Follows items past q → LosesHeld old new q (settling_ids items) → Standing new sharing past (without q (settling_ids items) lines)
  settle_stands items q follows loses = keeps_held.standing new sharing past (without q (settling_ids items) lines) legal
      (loses sharing lines (keeps_held.once old sharing past lines s q) (keeps_held.held old sharing past lines s)) (lose sharing past lines items q legal old s follows)

  pub settled_stands : (items : List Item) (q stamp : ℕ) → Follows items past q → LosesHeld old new q (settling_ids items) → Standing new sharing (settle_all stamp q (settling_ids items) past) (without q (settling_ids items) lines)
  settled_stands items q stamp follows loses = keeps_held.settled new sharing past (without q (settling_ids items) lines) stamp q (settling_ids items) (keeps_held.lacks lines q (settling_ids items)) (settle_stands items q follows loses)

  pub remove_stands : StaysHeld old new → Standing new sharing past lines
  remove_stands stays = keeps_held.standing new sharing past lines legal (stays sharing lines (keeps_held.held old sharing past lines s)) (keeps_held.survives old sharing past lines s)
