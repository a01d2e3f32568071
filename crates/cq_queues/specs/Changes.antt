-- What a step changes of the queues of a node, each given by its number.
use Rattle.std.specs.Prelude.{◌≡◌, ◌≢◌, ℕ, ◌<◌, if◌then◌else◌, List, [], ◌∷◌, ◌++◌, length, Option, Some, None}
use Rattle.std.specs.List.{AllByRecursion}
use Rattle.cq_bytes.specs.Numbers.{contains}
use Rattle.cq_disk.specs.declared.name.Name.{Name}
use Rattle.cq_disk.specs.File.{File}
use Rattle.cq_small.specs.Store.{small_name}
use Rattle.cq_index.specs.Places.{index_name}
use Rattle.cq_items.specs.Items.{give_back, new_item}
use Rattle.cq_queue.specs.Values.{QueueValue, IsOnDisk, IsRunning, StaysOnDisk}

-- the queues but this one are as they were
abbrev pub OthersStay : ℕ → (ℕ → QueueValue) → (ℕ → QueueValue) → Type 0
OthersStay queue old new = (q : ℕ) → q ≢ queue → new q ≡ old q

-- nothing has changed but for how many messages there is room
abbrev pub ChangesRoom : (ℕ → QueueValue) → (ℕ → QueueValue) → Type 0
ChangesRoom old new = (q : ℕ) → new q ≡ record (old q) { reserved = (new q).reserved }

-- there is room for one more message in each of these queues
abbrev pub AreReserved : (ℕ → QueueValue) → List ℕ → Type 0
AreReserved queues numbers = AllByRecursion (λ q. 0 < (queues q).reserved) numbers

-- each of these queues is below 256
abbrev pub AreBelow : List ℕ → Type 0
AreBelow numbers = AllByRecursion (λ q. q < 256) numbers

-- so many copies of a body of this length
pub record AreCopies (len count : ℕ) (copies : List (List ℕ)) : Type 0 where
  pub count_is : length copies ≡ count
  pub long : AllByRecursion (λ copy. length copy ≡ len) copies

-- a small message stands at the end of each of these queues, and the others are as they were
abbrev pub joined_by : ℕ → List ℕ → ℕ → QueueValue → QueueValue
joined_by id body len v = record v { items = v.items ++ new_item id (Some body) len ∷ []; reserved = 0 }

abbrev pub HasJoined : ℕ → List ℕ → ℕ → List ℕ → (ℕ → QueueValue) → (ℕ → QueueValue) → Type 0
HasJoined id body len numbers old new = (q : ℕ) → new q ≡ (if contains numbers q then joined_by id body len (old q) else old q)

-- what was out to the client waits again in each of these queues, and the others are as they were
abbrev pub given_back : ℕ → QueueValue → QueueValue
given_back client v = record v { items = give_back client v.items }

abbrev pub HasGivenBack : ℕ → List ℕ → (ℕ → QueueValue) → (ℕ → QueueValue) → Type 0
HasGivenBack client numbers old new = (q : ℕ) → new q ≡ (if contains numbers q then given_back client (old q) else old q)

-- where the files of a queue were as its own calls left them, they still are
abbrev pub StayOnDisk : (ℕ → QueueValue) → (ℕ → QueueValue) → Type 0
StayOnDisk old new = (q : ℕ) → StaysOnDisk (old q) (new q)

-- the files of each queue of which no call failed are as its own calls left them
abbrev pub AreOnDisk : (ℕ → QueueValue) → (Name → Option File) → Type 0
AreOnDisk queues files = (q : ℕ) → q < 256 → IsRunning (queues q) → IsOnDisk (queues q) files

-- no queue has a file
abbrev pub HasNoQueueFiles : (Name → Option File) → Type 0
HasNoQueueFiles files = (q n : ℕ) → (files (index_name q n) ≡ None) × (files (small_name q n) ≡ None)
