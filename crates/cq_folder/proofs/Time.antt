-- How a steady journal goes on.
use Rattle.std.proofs.Common.{◌≡◌, ⊎_elim, ℕ, ◌≤◌, List, [], ◌∷◌, sym, subst, arith}
use Rattle.cq_disk.specs.Call.{Image, LeavesOnly}
use Rattle.cq_journal.specs.declared.event.Entry.{Entry}
use Rattle.cq_folder.specs.Steady.{Agrees, Steady}

module _ {D : Type 0} (moment : D → ℕ) (left : D → ℕ → ℕ → Image → Type 0) where
  earlier : (old new : D) (P : Image → Type 0) → LeavesOnly moment left old new P → (until : ℕ) (past : List Entry) → until ≤ moment old → Steady (left old) until past → Steady (left new) until past
  earlier old new P run until [] le steady = tt
  earlier old new P run until (e ∷ past) le steady = (
    steady.0,
    λ image was. steady.1 image (run.as_it_was e.stamp until image le was),
    earlier old new P run e.stamp past (omega (arith, steady.0)) steady.2,
  )

  -- time goes on by a run whose every image agrees
  pub goes_on : (old new : D) (P : Image → Type 0) → LeavesOnly moment left old new P → (past : List Entry) → ((image : Image) → P image → Agrees image past) → Steady (left old) (moment old) past → Steady (left new) (moment new) past
  goes_on old new P run [] agree steady = tt
  goes_on old new P run (e ∷ past) agree steady = (
    omega (arith, steady.0, run.later),
    λ image was. ⊎_elim (steady.1 image) (agree image) (run.before e.stamp image steady.0 was),
    earlier old new P run e.stamp past steady.0 steady.2,
  )

  -- an entry is pushed now
  pub pushed : (disk : D) (e : Entry) (past : List Entry) → e.stamp ≡ moment disk → ((image : Image) → left disk (moment disk) (moment disk) image → Agrees image (e ∷ past)) → Steady (left disk) (moment disk) past → Steady (left disk) (moment disk) (e ∷ past)
  pushed disk e past now agree steady = (
    omega (arith, now),
    subst (λ (t : ℕ). (image : Image) → left disk t (moment disk) image → Agrees image (e ∷ past)) (sym now) agree,
    subst (λ (t : ℕ). Steady (left disk) t past) (sym now) steady,
  )
