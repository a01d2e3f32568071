-- What a publish takes, and what it makes of a node.
use Rattle.std.specs.Prelude.{◌≡◌, ℕ, ◌==◌, if◌then◌else◌, List, length}
use Rattle.std.specs.List.{AllByRecursion}
use Rattle.cq_bytes.specs.Numbers.{contains}
use Rattle.cq_journal.specs.declared.event.Entry.{Entry}
use Rattle.cq_core.specs.Core.{IsNextId}
use Rattle.cq_queue.specs.Values.{QueueValue}
use Rattle.cq_history.specs.Accounts.{after_publish}
use Rattle.cq_history.specs.History.{AreWhole, HistoryValue, account_at}
use Rattle.cq_history.specs.Steps.{AddsPublish}
use Rattle.cq_queues.specs.Changes.{ChangesRoom, joined_by}

-- the numbers of these queues, and a copy of this body for each
pub record AreCopiesOf (queues body numbers : List ℕ) (bodies : List (List ℕ)) : Type 0 where
  pub numbers_are : numbers ≡ queues
  pub count : length bodies ≡ length queues
  pub same : AllByRecursion (λ copy. copy ≡ body) bodies

-- The entry of a publish is there, under the next id, and its client has one publish and one reply more. The clients were given
-- the bodies that the journal says, if they were before.
pub record HasPublished (client stamp : ℕ) (queues body : List ℕ) (old new : HistoryValue) : Type 0 where
  pub adds : (id : ℕ) → IsNextId old.entries id → AddsPublish client id stamp queues body old new
  pub count : length new.clients ≡ length old.clients
  pub accounts : (c : ℕ) → account_at new.clients c
      ≡ (if client == c then after_publish (account_at old.clients c) else account_at old.clients c)
  pub whole : AreWhole old → AreWhole new

-- these queues with one message more at the end, and the others as they were
abbrev pub with_message : ℕ → List ℕ → List ℕ → (ℕ → QueueValue) → ℕ → QueueValue
with_message id body queues old q = if contains queues q then joined_by id body (length body) (old q) else old q

-- The message stands at the end of each of these queues, under the next id. But for room nothing else has changed.
abbrev pub HasJoinedNext : List Entry → List ℕ → List ℕ → (ℕ → QueueValue) → (ℕ → QueueValue) → Type 0
HasJoinedNext past body queues old new = (id : ℕ) → IsNextId past id → ChangesRoom (with_message id body queues old) new
