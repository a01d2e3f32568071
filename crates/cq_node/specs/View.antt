-- What a node shows, and what each of its steps keeps.
use Rattle.std.specs.Prelude.{◌≡◌, ◌↔◌, ℕ, ◌+◌, Bool, true, false, List, Result, Ok, Err, OnOk, IsErrOf}
use Rattle.cq_disk.specs.declared.disk.Disk.{Ghosts}
use Rattle.cq_disk.specs.Run.{Ran}
use Rattle.cq_index.specs.Segments.{gate_of, count_of, present_of}
use Rattle.cq_inbox.specs.declared.request.Request.{Request}
use Rattle.cq_inbox.specs.declared.config.Config.{Config}
use Rattle.cq_journal.specs.declared.event.Entry.{Entry}
use Rattle.cq_journal.specs.Legal.{Legal}
use Rattle.cq_node.specs.declared.node.Node.{Node}
use Rattle.cq_node.specs.declared.outcome.NodeError.{NodeError}
use Rattle.cq_node.specs.declared.outcome.NodeError.TheVariants.{Fault, Memory, Stopped}
use Rattle.cq_node.specs.declared.outcome.Turn.{Turn}
use Rattle.cq_node.specs.declared.outcome.Step.{Step}
use Rattle.cq_small.specs.Store.{gate_of as small_gate}
use Rattle.cq_node.specs.Files.{append_calls}
use Rattle.cq_node.specs.Turned.{Turned, Wrote}
use Rattle.cq_node.specs.Waiting.{Handed}

module _ {D : Type 0} {g : Ghosts D} where
  -- the journal's entries, the newest first
  abbrev pub entries : Node D g → List Entry
  entries node = node.core.entries

  -- the requests that weren't answered, and whether the first was taken
  abbrev pub waiting : Node D g → Handed
  waiting node = node.waiting

  abbrev pub requests : Node D g → List Request
  requests node = node.waiting.requests

  abbrev pub disk_of : Node D g → D
  disk_of node = node.store.disk

  -- the moment of its disk
  abbrev pub moment_of : Node D g → ℕ
  moment_of node = g.moment node.store.disk

  -- no fault has stopped it
  abbrev pub IsRunning : Node D g → Type 0
  IsRunning node = node.store.halted ≡ false

  -- a fault has stopped it
  abbrev pub HasStopped : Node D g → Type 0
  HasStopped node = node.store.halted ≡ true

  -- how many entries the index had at the opening
  abbrev pub opened_of : Node D g → ℕ
  opened_of node = node.opened

  abbrev pub config_of : Node D g → Config
  config_of node = node.config

module _ {D : Type 0} {g : Ghosts D} where
  -- how many clients it serves
  abbrev pub clients_of : Node D g → ℕ
  clients_of node = node.config.clients

  -- whether the first request was taken
  abbrev pub is_kept : Node D g → Bool
  is_kept node = node.waiting.kept

  -- how many device calls the next commit takes
  abbrev pub calls_of_write : Node D g → ℕ
  calls_of_write node = append_calls (small_gate node.store.small) + append_calls (gate_of node.store.index)

  -- the queue in memory is as it was
  abbrev pub SameQueue : Node D g → Node D g → Type 0
  SameQueue old new = new.core ≡ old.core

  -- the disk and all that is known of its files are as they were
  abbrev pub SameStore : Node D g → Node D g → Type 0
  SameStore old new = new.store ≡ old.store

module _ {D : Type 0} {g : Ghosts D} where
  -- a turn answers the oldest request, or none where none waits
  abbrev pub Turns : Node D g → Node D g → Result Turn NodeError → Type 0
  Turns old new result = Turned result (moment_of old) (entries old) (entries new) (requests old) (requests new)

  -- a write step confirms all that wasn't confirmed, or is idle
  abbrev pub Writes : Node D g → Node D g → Result Step NodeError → Type 0
  Writes old new result = Wrote result (moment_of old) (entries old) (entries new)

-- Nothing of the disk, of the files and of the queue has changed, but for how much memory is reserved.
pub record SameButReserved {D : Type 0} {g : Ghosts D} (old new : Node D g) : Type 0 where
  pub disk : disk_of new ≡ disk_of old
  pub halted : new.store.halted ≡ old.store.halted
  pub small : new.store.small ≡ old.store.small
  pub gate : gate_of new.store.index ≡ gate_of old.store.index
  pub count : count_of new.store.index ≡ count_of old.store.index
  pub present : present_of new.store.index ≡ present_of old.store.index
  pub journal : entries new ≡ entries old
  pub told : new.core.told ≡ old.core.told
  pub places : new.core.places ≡ old.core.places

-- Nothing has changed but the requests that wait.
pub record SameButRequests {D : Type 0} {g : Ghosts D} (old new : Node D g) : Type 0 where
  pub same_queue : SameQueue old new
  pub same_store : SameStore old new
  pub same_kept : is_kept new ≡ is_kept old
  pub same_config : config_of new ≡ config_of old
  pub same_opened : opened_of new ≡ opened_of old

-- Nothing has changed but the disk.
pub record SameButDisk {D : Type 0} {g : Ghosts D} (old new : Node D g) : Type 0 where
  pub same_queue : SameQueue old new
  pub same_waiting : waiting new ≡ waiting old
  pub same_config : config_of new ≡ config_of old
  pub same_opened : opened_of new ≡ opened_of old
  pub halted : new.store.halted ≡ old.store.halted
  pub small : new.store.small ≡ old.store.small
  pub index : new.store.index ≡ old.store.index

-- a fault is answered, or that an earlier step met one
abbrev pub IsStop : {T : Type 0} → Result T NodeError → Type 0
IsStop (Ok v) = ⊥
IsStop (Err Fault) = Unit {0}
IsStop (Err Memory) = ⊥
IsStop (Err Stopped) = Unit {0}

-- What each step says: the numbers of the opening stay, and the journal stays legal. It answers `Stopped` exactly where an earlier step answered a fault, for a fault stops the node and nothing else does. After want of memory, and
-- where it has stopped, nothing of the disk, of the files and of the queue has changed.
pub record Steps {D T : Type 0} {g : Ghosts D} (old new : Node D g) (result : Result T NodeError) : Type 0 where
  pub same_config : config_of new ≡ config_of old
  pub same_opened : opened_of new ≡ opened_of old
  pub stopped : IsErrOf result Stopped ↔ HasStopped old
  pub halts : HasStopped new ↔ IsStop result
  pub goes_on : OnOk result (IsRunning new)
  pub memory : IsErrOf result Memory → SameButReserved old new
  pub at_rest : IsErrOf result Stopped → SameButReserved old new
  pub legal : Legal (entries new)
  pub ran : Ran g (disk_of old) (disk_of new) (IsErrOf result Fault)
