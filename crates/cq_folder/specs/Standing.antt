-- Files at rest that agree with a journal, and how messages come in.
use Rattle.cq_folder.specs.Holding.{Come}
use Rattle.cq_journal.specs.Lists.{IsSublist}
use Rattle.std.specs.Prelude.{◌≡◌, ℕ, true, false, List, [], ◌∷◌, ◌++◌, Option}
use Rattle.cq_bytes.specs.Numbers.{contains}
use Rattle.cq_disk.specs.declared.name.Name.{Name}
use Rattle.cq_disk.specs.File.{File}
use Rattle.cq_entry.specs.declared.entry.Entry.{Entry as IndexEntry}
use Rattle.cq_journal.specs.declared.event.Event.{Event}
use Rattle.cq_journal.specs.declared.event.Event.TheVariants.{Opened, Confirmed, Settled}
use Rattle.cq_journal.specs.declared.event.Entry.{Entry}
use Rattle.cq_journal.specs.declared.event.Message.{Message}
use Rattle.cq_journal.specs.History.{has_id, line, acked, settled}
use Rattle.cq_folder.specs.Held.{Still}
use Rattle.cq_folder.specs.Folder.{Holds, Folder, Sharing, folder_of, AreApart}
use Rattle.cq_folder.specs.Steady.{AreSound, Agreed}

-- Whatever a crash leaves now is sound: it holds these messages.
pub record StillSound (files : Name → Option File) (lines : ℕ → List Message) : Type 0 where
  pub folder : Folder
  pub still : Still files folder
  pub holds : Holds folder lines
  pub apart : AreApart folder.shelves
  pub are : AreSound lines

-- Whatever a crash leaves now holds these messages, beside these shared files, and they survive the journal.
pub record Standing (files : Name → Option File) (sharing : Sharing) (past : List Entry)
    (lines : ℕ → List Message) : Type 0 where
  pub contents : Name → List ℕ
  pub still : Still files (folder_of sharing contents)
  pub agreed : Agreed (folder_of sharing contents) past lines

-- These messages come next in the line of a queue, with their entries and records, and none of them is settled.
pub record ComeNext (folder : Folder) (past : List Entry) (lines : ℕ → List Message) (queue number : ℕ)
    (entries : List IndexEntry) (ms : List Message) : Type 0 where
  pub come : Come folder queue number entries ms
  pub sublist : IsSublist (lines queue ++ ms) (line past queue)
  pub unsettled : (x : ℕ) → contains (settled past queue) x ≡ true → has_id ms x ≡ false

-- The message of this id stands in each queue whose line has it and that hasn't removed it.
abbrev pub IsSafe : (ℕ → List Message) → List Entry → ℕ → Type 0
IsSafe lines past id = (q : ℕ) → has_id (line past q) id ≡ true → contains (acked past q) id ≡ false
    → has_id (lines q) id ≡ true

-- a message that every queue has passed: its client, its number and its id
pub record Confirm : Type 0 where
  pub client : ℕ
  pub number : ℕ
  pub id : ℕ

-- the entry of its confirm
abbrev pub confirm_at : ℕ → Confirm → Entry
confirm_at stamp p = record { event = Confirmed p.client p.number p.id; stamp = stamp }

-- the journal with their confirms, in order
abbrev pub confirm_all : ℕ → List Confirm → List Entry → List Entry
confirm_all stamp [] past = past
confirm_all stamp (p ∷ ps) past = confirm_all stamp ps (confirm_at stamp p ∷ past)

-- the event confirms and settles nothing, and is no opening
abbrev pub IsQuiet : Event → Type 0
IsQuiet (Opened lines) = ⊥
IsQuiet (Confirmed client number id) = ⊥
IsQuiet (Settled queue id) = ⊥
IsQuiet _ = Unit {0}
