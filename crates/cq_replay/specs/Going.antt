-- A run of steps of a session, as the node shows it.
use Rattle.std.specs.Prelude.{◌≡◌, ℕ, ◌+◌, ◌≤◌, ◌++◌, [], List, length, Option, None, IfSome, Result, OnOk, IsErrOf, true}
use Rattle.std.specs.List.{list_all}
use Rattle.cq_disk.specs.declared.disk.Disk.{Ghosts}
use Rattle.cq_disk.specs.Call.{Image}
use Rattle.cq_disk.specs.Files.{IsImage}
use Rattle.cq_disk.specs.Run.{Ran, RanOn}
use Rattle.cq_folder.specs.Held.{as_read, Held}
use Rattle.cq_folder.specs.Steady.{Agrees, Steady}
use Rattle.cq_index.specs.Places.{index_name}
use Rattle.cq_inbox.specs.Requests.{publishes}
use Rattle.cq_inbox.specs.declared.request.Request.{Request}
use Rattle.cq_journal.specs.declared.event.Entry.{Entry}
use Rattle.cq_journal.specs.declared.session.After.{After}
use Rattle.cq_journal.specs.declared.session.Session.{Session}
use Rattle.cq_journal.specs.Asks.{asks}
use Rattle.cq_node.specs.Files.{HasFew, HasNoOther}
use Rattle.cq_node.specs.Waiting.{is_servable}
use Rattle.cq_script.specs.declared.script.StepWord.{StepWord}
use Rattle.cq_script.specs.Scripts.{is_crash}
use Rattle.cq_replay.specs.Done.{DoesWords, AreBy}
use Rattle.cq_replay.specs.Sessions.{plain_words, opened_with, opening_stamp, IsAllowed, Serves, ServesAll}
use Rattle.cq_journal.specs.Confirms.{AreConfirmed}
use Rattle.cq_journal.specs.History.{line}
use Rattle.cq_node.specs.declared.node.Node.{Node}
use Rattle.cq_node.specs.declared.outcome.NodeError.{NodeError}
use Rattle.cq_node.specs.declared.outcome.NodeError.TheVariants.{Fault, Stopped}
use Rattle.cq_node.specs.View.{entries, requests, waiting, disk_of, moment_of, opened_of, IsRunning}
use Rattle.cq_replay.specs.Running.{MovesOn, IsFresh}

module _ {D : Type 0} {g : Ghosts D} where
  -- entries were added, and the client's requests are the same
  abbrev pub Moves : Node D g → Node D g → List Request → List Request → Type 0
  Moves old new rest rest' = MovesOn (moment_of old) (entries old) (entries new) (waiting old) (waiting new) rest rest'

-- the opening alone has happened, on a disk without a fuse
pub record HasBegun {D : Type 0} {g : Ghosts D} (node : Node D g) (after : List After) : Type 0 where
  pub running : IsRunning node
  pub no_fuse : g.fuse (disk_of node) ≡ None
  pub fresh : IsFresh (moment_of node) (entries node) (waiting node) after

-- What each run of steps says: the number of the opening stays, no stop is answered, and what its disk did.
pub record Goes {D T : Type 0} {g : Ghosts D} (old new : Node D g) (result : Result T NodeError) : Type 0 where
  pub opened : opened_of new ≡ opened_of old
  pub goes_on : OnOk result (IsRunning new)
  pub no_stop : IsErrOf result Stopped → ⊥
  pub ran : Ran g (disk_of old) (disk_of new) (IsErrOf result Fault)

-- each publish is confirmed, and the files hold exactly the messages of the queue
pub record IsWritten {D : Type 0} {g : Ghosts D} (node : Node D g) : Type 0 where
  pub confirmed : AreConfirmed (entries node)
  pub held : g.tells → ∥ Held (as_read (g.files (disk_of node))) (line (entries node)) ∥₁

-- all requests are answered, and all is written
pub record IsFinished {D : Type 0} {g : Ghosts D} (node : Node D g) (rest : List Request) : Type 0 where
  pub none_waits : requests node ≡ []
  pub none_left : rest ≡ []
  pub written : IsWritten node

-- the words of a session before its first crash, in which there is none, and what ends it
pub record AreWords (words : List StepWord) (end : Option StepWord) : Type 0 where
  pub plain : plain_words words ≡ words
  pub ends : IfSome end (λ w. is_crash w ≡ true)

-- entries were added, the client's requests are the same, and so is the number of the opening
pub record MovesBy {D : Type 0} {g : Ghosts D} (old new : Node D g) (rest rest' : List Request) : Type 0 where
  pub moves : Moves old new rest rest'
  pub opened : opened_of new ≡ opened_of old

-- the words were done, as far as the states tell, and all of them at Ok
pub record HasDoneWords {T : Type 0} (total : ℕ) (journal : List Entry) (words : List StepWord) (after : List After) (result : Result T NodeError) : Type 0 where
  pub done : DoesWords total journal words after
  pub all_words : OnOk result (length after ≡ length words)

-- no stop is answered, and a fault only where the disk failed
pub record FailsOnly {D T : Type 0} (g : Ghosts D) (old new : D) (result : Result T NodeError) : Type 0 where
  pub no_stop : IsErrOf result Stopped → ⊥
  pub ran : RanOn g old new (IsErrOf result Fault)

-- The session is allowed and goes on from the opening; its requests are answered in order and the words done.
pub record MakesSession {D : Type 0} {g : Ghosts D} (node : Node D g) (rest : List Request) (words : List StepWord) (session : Session) : Type 0 where
  pub allowed : IsAllowed session
  pub opened : (q : ℕ) → opened_with session.journal.entries q ≡ line (entries node) q
  pub since : moment_of node ≤ opening_stamp session.journal.entries
  pub serves : Serves rest words session

-- These requests are left of those that the client had; they can be served, and there is room for their messages.
pub record Leaves (opened : ℕ) (rest left : List Request) (journal : List Entry) : Type 0 where
  pub asked : rest ≡ asks journal 0 ++ left
  pub servable : list_all is_servable left ≡ true
  pub few : opened + publishes (asks journal 0) + publishes left ≤ 4096

-- A crash at any moment has left, and leaves now, what agrees with the journal, of an index with few entries; and the moments that were kept have passed.
pub record KeepsSession {D : Type 0} (g : Ghosts D) (disk : D) (opened : ℕ) (session : Session) : Type 0 where
  pub steady : Steady (g.left disk) (g.moment disk) session.journal.entries
  pub agrees : (image : Image) → IsImage (g.files disk) image → Agrees image session.journal.entries
  pub by : AreBy (g.moment disk) session.after.items
  pub short : HasFew (g.files disk (index_name 0 0)) (opened + publishes (asks session.journal.entries 0))
  pub alone : HasNoOther (g.files disk)

-- all was served, and the files hold exactly the messages of the queue
pub record EndsWell {D : Type 0} (g : Ghosts D) (disk : D) (rest : List Request) (words : List StepWord) (session : Session) : Type 0 where
  pub all : ServesAll rest words session
  pub held : ∥ Held (as_read (g.files disk)) (line session.journal.entries) ∥₁
