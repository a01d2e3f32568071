-- Of files that were only read, what is so later was so at first.
use Rattle.std.proofs.Common.{◌≡◌, ℕ, ◌<◌, List, length, Option, subst}
use Rattle.std.specs.Prelude.{slice_index}
use Rattle.cq_disk.specs.declared.name.Name.{Name}
use Rattle.cq_disk.specs.File.{File}
use Rattle.cq_disk.specs.Files.{AmongBytes, SameFiles}
use Rattle.cq_journal.specs.declared.event.Message.{Message}
use Rattle.cq_folder.specs.Folder.{Sharing}
use Rattle.cq_folder.specs.Held.{as_read}
use Rattle.cq_back_q.specs.declared.error.BackError.{BackError}
use Rattle.cq_back_q.specs.declared.error.BackError.TheVariants.{Fault, Memory, Damaged}
use Rattle.cq_back_q.specs.Sound.{QueueSoundBy}
use Rattle.cq_back_q.specs.Damage.{IfDamaged, IsDamaged, IsMisread}
use Rattle.cq_back_q.proofs.Refused.{byte_stands, not_sound}

pub damaged_to : (error : BackError) (P Q : Name → ℕ → ℕ → Type 0) → ((name : Name) (place found : ℕ) → P name place found → Q name place found) → IfDamaged error P → IfDamaged error Q
damaged_to Fault P Q step damaged = tt
damaged_to Memory P Q step damaged = tt
damaged_to (Damaged name place found) P Q step damaged = step name place found damaged

pub same_files : (old new : Name → Option File) → SameFiles old new → new ≡ old
same_files old new same = λ i n. same n i

module _ (Told : Type 0) (queue : ℕ) (old new : Name → Option File) (same : Told → SameFiles old new) (error : BackError) where
  -- an error by files that are the same as the first ones
  pub damaged_before : IfDamaged error (IsDamaged Told queue (as_read new)) → IfDamaged error (IsDamaged Told queue (as_read old))
  damaged_before = damaged_to error (IsDamaged Told queue (as_read new)) (IsDamaged Told queue (as_read old)) (λ name place found d. record {
    own = d.own;
    cause = d.cause;
    byte = λ told. subst (λ (files : Name → Option File). AmongBytes (as_read files name) (λ file. (place < length file) × (found ≡ slice_index file place))) (same_files old new (same told)) (d.byte told);
    refuses = λ told. subst (λ (files : Name → Option File). (sharing : Sharing) (ms : List Message) → QueueSoundBy queue (as_read files) sharing ms → ⊥) (same_files old new (same told)) (d.refuses told);
  })

  -- an entry that was misread
  pub misread_before : IfDamaged error (IsMisread Told queue (as_read new)) → IfDamaged error (IsDamaged Told queue (as_read old))
  misread_before misread = damaged_before (damaged_to error (IsMisread Told queue (as_read new)) (IsDamaged Told queue (as_read new)) (λ name place found m. record {
    own = m.own;
    cause = m.cause;
    byte = λ told. byte_stands queue (as_read new) name place found (m.told told);
    refuses = λ told. not_sound queue (as_read new) name place found (m.told told);
  }) misread)
