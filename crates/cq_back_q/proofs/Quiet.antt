-- Runs that only read, facts of names one by one, and a folder's damage in files that were only read.
use Rattle.std.proofs.Common.{◌≡◌, ⊎_elim, ℕ, ◌+◌, ◌<◌, List, Option, length, get_or, sym, ◌∙◌, ap, subst, arith}
use Rattle.std.specs.Prelude.{slice_index}
use Rattle.std.proofs.lemmas.Bool.{cases_lt}
use Rattle.std.proofs.lemmas.List.{get_or_default}
use Rattle.cq_disk.specs.declared.disk.Disk.{Ghosts}
use Rattle.cq_disk.specs.declared.name.Name.{Name}
use Rattle.cq_disk.specs.Call.{Image, Elapses}
use Rattle.cq_disk.specs.File.{File}
use Rattle.cq_disk.specs.Files.{AmongBytes, IsImage, SameFiles}
use Rattle.cq_disk.specs.Moments.{quiet_first}
use Rattle.cq_disk.specs.Run.{OnlyReads}
use Rattle.cq_folder.specs.Held.{as_read}
use Rattle.cq_folder.specs.Steady.{IsUnsound}
use Rattle.cq_back_q.specs.declared.error.BackError.{BackError}
use Rattle.cq_back_q.specs.Damage.{IfDamaged}
use Rattle.cq_back_q.specs.Folder.{HasNoShelf}
use Rattle.cq_back_q.specs.Opens.{IsFolderDamaged}
use Rattle.cq_back_q.proofs.Same.{damaged_to, same_files}

-- one call that changes no file
pub call_reads : {D : Type 0} (g : Ghosts D) (now_only : (disk : D) (image : Image) → g.left disk (g.moment disk) (g.moment disk) image → IsImage (g.files disk) image) (old new : D) → Elapses (g.moment old) (g.moment new) (g.left old) (g.left new) → SameFiles (g.files old) (g.files new) → OnlyReads g old new
call_reads g now_only old new time same = record { files = same; any_moment = quiet_first g.moment g.left g.files now_only old new time same }

-- what holds of the first so many holds of one more
pub one_more : {A : Type 0} (P : A → Type 0) (xs : List A) (i : ℕ) (d : A) → i < length xs → ((k : ℕ) (e : A) → k < i → P (get_or xs k e)) → P (get_or xs i d) → (k : ℕ) (e : A) → k < i + 1 → P (get_or xs k e)
one_more P xs i d inside so_far this k e lt = ⊎_elim
    (λ below. so_far k e below)
    (λ ge. let same : k ≡ i = omega (arith, ge, lt) in subst P (sym (ap (λ (m : ℕ). get_or xs m e) same ∙ get_or_default xs i e d inside)) this)
    (cases_lt k i)

-- damage in files that are the same as the first ones
pub folder_damaged_before : (Told : Type 0) (old new : Name → Option File) (error : BackError) → (Told → SameFiles old new) → IfDamaged error (IsFolderDamaged Told (as_read new)) → IfDamaged error (IsFolderDamaged Told (as_read old))
folder_damaged_before Told old new error same = damaged_to error (IsFolderDamaged Told (as_read new)) (IsFolderDamaged Told (as_read old)) (λ name place found d. record {
  cause = d.cause;
  byte = λ told. subst (λ (files : Name → Option File). AmongBytes (as_read files name) (λ file. (place < length file) × (found ≡ slice_index file place))) (same_files old new (same told)) (d.byte told);
  refuses = λ told. subst (λ (files : Name → Option File). HasNoShelf (as_read files) → IsUnsound (as_read files)) (same_files old new (same told)) (d.refuses told);
})
