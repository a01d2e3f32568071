-- A node's steps on one of its queues.
use Rattle.std.proofs.Common.{List}
use Rattle.cq_disk.specs.declared.disk.Disk.{Ghosts}
use Rattle.cq_disk.specs.Call.{Image}
use Rattle.cq_disk.specs.Run.{LeavesOnly}
use Rattle.cq_disk.specs.Files.{IsImage}
use Rattle.cq_journal.specs.declared.event.Entry.{Entry}
use Rattle.cq_folder.specs.Steady.{Agrees}
use Rattle.cq_folder.specs.HeldLaws.{KeepsHeldOn}
use Rattle.cq_folder.proofs.KeptHeld.{keeps_held, keeps_held_on}
use Rattle.cq_folder.proofs.Time.{goes_on}
use Rattle.cq_items.specs.Items.{settling_ids}
use Rattle.cq_stored.specs.Stored.{coming}
use Rattle.cq_stored.specs.Steps.{IsSteady, StepLaws}
use Rattle.cq_stored.proofs.Holding.{stored_laws}
use Rattle.cq_stored.proofs.Stands.{was, come, commit_stands, settle_stands, settled_stands, remove_stands}

-- ---- steps

module _ {D : Type 0} (g : Ghosts D) (only : (disk : D) (image : Image) → g.left disk (g.moment disk) (g.moment disk) image → IsImage (g.files disk) image) where
  laws : KeepsHeldOn g.moment g.left g.files
  laws = keeps_held_on g.moment g.left g.files only

  goes : (old new : D) (past : List Entry) → LeavesOnly g old new (λ image. Agrees image past) → IsSteady g old past → IsSteady g new past
  goes old new past run steady = goes_on g.moment g.left old new (λ image. Agrees image past) run past (λ image agree. agree) steady

  pub step_laws : StepLaws g
  step_laws = record {
    commit_keeps = λ old new sharing past lines items q skip room legal split bodies are s run steady. goes old new past
        (laws.comes old new past lines q (coming skip room items past q) legal (was sharing past lines items q legal (g.files old) s) (come sharing past lines items q legal (g.files old) s skip room split bodies are) (run lines (keeps_held.held (g.files old) sharing past lines s))) steady;
    commit_stands = λ old new sharing past lines items q skip room legal split bodies are s comes. commit_stands (g.files old) (g.files new) sharing past lines legal s items q skip room split bodies are comes;
    settle_keeps = λ old new sharing past lines items q legal follows s run steady. goes old new past
        (laws.loses old new past lines q (settling_ids items) legal (was sharing past lines items q legal (g.files old) s) (λ x has. stored_laws.removed items past q x follows has) (run sharing lines (keeps_held.held (g.files old) sharing past lines s))) steady;
    settled = λ old new sharing past lines items q legal follows s run loses steady. laws.settle old new sharing past lines q (settling_ids items) legal s (λ x has. stored_laws.removed items past q x follows has) (run sharing lines (keeps_held.held (g.files old) sharing past lines s))
        (loses sharing lines (keeps_held.once (g.files old) sharing past lines s q) (keeps_held.held (g.files old) sharing past lines s)) steady;
    settle_stands = λ old new sharing past lines items q legal follows s loses. settle_stands (g.files old) (g.files new) sharing past lines legal s items q follows loses;
    settled_stands = λ old new sharing past lines items q stamp legal follows s loses. settled_stands (g.files old) (g.files new) sharing past lines legal s items q stamp follows loses;
    remove_keeps = λ old new sharing past lines legal s run steady. goes old new past (laws.keeps old new past lines legal (keeps_held.survives (g.files old) sharing past lines s) (run sharing lines (keeps_held.held (g.files old) sharing past lines s))) steady;
    remove_stands = λ old new sharing past lines legal s stays. remove_stands (g.files old) (g.files new) sharing past lines legal s stays;
  }
