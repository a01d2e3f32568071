-- What is true of each queue of a node.
use Rattle.std.specs.Prelude.{◌≡◌, ℕ, ◌<◌, Bool, List, Option, Some, None, is_some, slice_get}
use Rattle.std.specs.Coded.{Coded-set, coded_ℕ, coded_bool}
use Rattle.cq_items.specs.Items.{settling_ids, undecided_items}
use Rattle.cq_queue.specs.declared.queue.QueueCore.{QueueCore}
use Rattle.cq_queue.specs.QueueCalls.{finished_in}
use Rattle.cq_queue.specs.Values.{QueueValue, empty_queue, has_some, value_of}
use Rattle.cq_queues.specs.Marks.{marked}

-- the queue at a place of a list, and past its end one without messages
abbrev pub value_at : Option QueueCore → QueueValue
value_at None = empty_queue 0 16
value_at (Some core) = value_of core

abbrev pub value_in : List QueueCore → ℕ → QueueValue
value_in cores q = value_at (slice_get cores q)

-- whether it has undecided messages, messages that are committed and acknowledged, and a finished segment
abbrev pub has_undecided : QueueValue → Bool
has_undecided v = has_some (undecided_items v.items)

abbrev pub has_settling : QueueValue → Bool
has_settling v = has_some (settling_ids v.items)

abbrev pub has_finished : QueueValue → Bool
has_finished v = is_some (finished_in v)

-- the queue of this number, whose segments get so many entries at most
pub record IsOwn (most q : ℕ) (v : QueueValue) : Type 0 where
  pub number : v.queue ≡ q
  pub most_is : v.most ≡ most

-- each is marked exactly where it has what the marks tell of
pub record IsMarked (v : QueueValue) (undecided settling finished : List Bool) (q : ℕ) : Type 0 where
  pub undecided_is : marked undecided q ≡ has_undecided v
  pub settling_is : marked settling q ≡ has_settling v
  pub finished_is : marked finished q ≡ has_finished v

-- the same of each queue below 256
abbrev pub AreOwn : ℕ → (ℕ → QueueValue) → Type 0
AreOwn most queues = (q : ℕ) → q < 256 → IsOwn most q (queues q)

abbrev pub AreMarked : (ℕ → QueueValue) → List Bool → List Bool → List Bool → Type 0
AreMarked queues undecided settling finished = (q : ℕ) → q < 256 → IsMarked (queues q) undecided settling finished q

IsOwn-prop : (most q : ℕ) (v : QueueValue) → IsProp (IsOwn most q v)
IsOwn-prop most q v = hlevel (Coded-set coded_ℕ, Coded-set coded_ℕ)

IsMarked-prop : (v : QueueValue) (undecided settling finished : List Bool) (q : ℕ)
    → IsProp (IsMarked v undecided settling finished q)
IsMarked-prop v undecided settling finished q = hlevel (Coded-set coded_bool, Coded-set coded_bool, Coded-set coded_bool)

-- the same, so that a struct can keep it
pub AreOwn-prop : (most : ℕ) (cores : List QueueCore) → IsProp (AreOwn most (value_in cores))
AreOwn-prop most cores = hlevel (λ (q : ℕ). IsOwn-prop most q (value_in cores q))

pub AreMarked-prop : (cores : List QueueCore) (undecided settling finished : List Bool)
    → IsProp (AreMarked (value_in cores) undecided settling finished)
AreMarked-prop cores undecided settling finished =
    hlevel (λ (q : ℕ). IsMarked-prop (value_in cores q) undecided settling finished q)
