-- A call that makes no device call.
use Rattle.std.proofs.Common.{◌≡◌, ℕ, Bool, true, false, List, [], ◌∷◌, Option, refl, sym, ap, subst}
use Rattle.std.specs.Prelude.{if◌then◌else◌, ◌==◌}
use Rattle.cq_disk.specs.declared.name.Name.{Name}
use Rattle.cq_disk.specs.declared.disk.Disk.{Ghosts}
use Rattle.cq_disk.specs.File.{File}
use Rattle.cq_journal.specs.declared.event.Message.{Message}
use Rattle.cq_folder.specs.Holding.{LosesSome, StillHeld, left_out, without}
use Rattle.cq_folder.proofs.KeptHeld.{held_wider}
use Rattle.cq_folder.proofs.Splits.{split_self}
use Rattle.cq_queue.specs.Files.{LosesHeld, LosesHeldOn}
use Rattle.cq_queue.specs.QueueCalls.{KeepsAll, SettlesOnly}
use Rattle.cq_queue.specs.Values.{QueueValue}
use Rattle.cq_queue.proofs.Runs.{Tells, nothing_on}

module _ {D : Type 0} (g : Ghosts D) (t : Tells g) (v : QueueValue) (disk : D) where
  pub nothing_keeps : KeepsAll g v disk disk
  nothing_keeps = record { others = λ n other. refl; any_moment = nothing_on g t disk; held = λ sharing lines h. h }

  loses_none : (queue : ℕ) (ids : List ℕ) → LosesHeldOn g disk disk queue ids
  loses_none queue ids sharing lines h = held_wider g.moment g.left g.files t.only disk disk (λ l. l ≡ lines) (LosesSome queue ids lines)
      (λ l same. subst (LosesSome queue ids lines) (sym same) (record { left = []; this = split_self (lines queue); of_ids = tt; others = λ q other. refl })) (nothing_on g t disk sharing lines h)

  pub nothing_settles : SettlesOnly g v disk disk
  nothing_settles = record { others = λ n other. refl; any_moment = loses_none v.queue _ }

all_left : (ms : List Message) → left_out [] ms ≡ ms
all_left [] = refl
all_left (m ∷ ms) = ap (λ (l : List Message). m ∷ l) (all_left ms)

none_without : (queue : ℕ) (lines : ℕ → List Message) (q : ℕ) → without queue [] lines q ≡ lines q
none_without queue lines q = (elim (q == queue) as (λ (b : Bool). (if b then left_out [] (lines q) else lines q) ≡ lines q) [
  | true ↦ all_left (lines q)
  | false ↦ refl
])

-- where no id is told, nothing is lost
pub none_lost : (files : Name → Option File) (queue : ℕ) (ids : List ℕ) → ids ≡ [] → LosesHeld files files queue ids
none_lost files queue ids none sharing lines once h =
    let same : lines ≡ without queue [] lines = λ i q. sym (none_without queue lines q) i in
    subst (λ (l : List ℕ). StillHeld files sharing (without queue l lines)) (sym none) (subst (StillHeld files sharing) same h)
