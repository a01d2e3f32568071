-- A crash at any moment leaves a folder that agrees with the journal.
use Rattle.cq_journal.specs.Lists.{HasDistinctIds, IsIn}
use Rattle.std.specs.Prelude.{◌≡◌, ℕ, ◌≤◌, List, [], ◌∷◌}
use Rattle.std.specs.Coded.{le_prop}
use Rattle.cq_disk.specs.Call.{Image}
use Rattle.cq_journal.specs.declared.event.Entry.{Entry}
use Rattle.cq_journal.specs.declared.event.Message.{Message}
use Rattle.cq_folder.specs.Held.{Held}
use Rattle.cq_folder.specs.Folder.{Holds, Folder, AreApart}
use Rattle.cq_folder.specs.Survives.{Survives}

-- no id stands twice in a queue, and one id has one body in all queues
pub record AreSound (lines : ℕ → List Message) : Type 0 where
  pub once : (q : ℕ) → HasDistinctIds (lines q)
  pub one_body : (q r : ℕ) (m k : Message) → IsIn (lines q) m → IsIn (lines r) k → m.id ≡ k.id → m.body ≡ k.body

-- each file is bare or of its form, and the files hold these messages, which are sound
pub record SoundBy (image : Image) (lines : ℕ → List Message) : Type 0 where
  pub held : Held image lines
  pub are : AreSound lines

-- The image is sound: it holds some such messages.
abbrev pub Sound : Image → Type 0
Sound image = ∥ ((lines : ℕ → List Message) × SoundBy image lines) ∥₁

-- no messages make the image sound
abbrev pub IsUnsound : Image → Type 0
IsUnsound image = (lines : ℕ → List Message) → SoundBy image lines → ⊥

-- The image is sound, and what it holds survives the journal.
pub record AgreesBy (image : Image) (past : List Entry) : Type 0 where
  pub lines : ℕ → List Message
  pub sound : SoundBy image lines
  pub survives : Survives past lines

abbrev pub Agrees : Image → List Entry → Type 0
Agrees image past = ∥ AgreesBy image past ∥₁

-- Every image left from an entry to the next agrees with the journal up to that entry, and so on up to now. The newest
-- entry stands first.
abbrev pub Steady : (ℕ → ℕ → Image → Type 0) → ℕ → List Entry → Type 0
Steady left now [] = Unit {0}
Steady left now (e ∷ past) = (e.stamp ≤ now) × ((image : Image) → left e.stamp now image → Agrees image (e ∷ past)) × Steady left e.stamp past

pub Steady-prop : (left : ℕ → ℕ → Image → Type 0) (now : ℕ) (past : List Entry) → IsProp (Steady left now past)
Steady-prop left now [] = hlevel
Steady-prop left now (e ∷ past) = hlevel (le_prop, Steady-prop left e.stamp past)

-- the same where the disk tells its files
pub SteadyWhere-prop : (told : Type 0) (left : ℕ → ℕ → Image → Type 0) (now : ℕ) (past : List Entry)
    → IsProp (told → Steady left now past)
SteadyWhere-prop told left now past = hlevel (Steady-prop left now past)

-- the folder holds sound messages that survive the journal
pub record Agreed (folder : Folder) (past : List Entry) (lines : ℕ → List Message) : Type 0 where
  pub holds : Holds folder lines
  pub apart : AreApart folder.shelves
  pub are : AreSound lines
  pub survives : Survives past lines
