-- A queue as its contracts see it, and what its calls in memory ask.
use Rattle.std.specs.Prelude.{◌≡◌, ℕ, ◌<◌, ◌≤◌, Bool, true, false, List, [], ◌∷◌, length, Option, Some, None}
use Rattle.cq_disk.specs.declared.name.Name.{Name}
use Rattle.cq_disk.specs.File.{File}
use Rattle.cq_items.specs.Item.{Item}
use Rattle.cq_queue.specs.declared.segment.QueueSegment.{QueueSegment}
use Rattle.cq_queue.specs.declared.queue.QueueCore.{QueueCore}
use Rattle.cq_queue.specs.Calls.{list_of, queue_of, most_of}
use Rattle.cq_queue.specs.Lists.{AreSame}
use Rattle.cq_queue.specs.Tied.{IsQueueAt}

-- The messages in line order, for how many more there is room, the queue's number, how many entries a segment gets at
-- most, its segments, and whether a call on its files failed.
pub record QueueValue : Type 0 where
  pub items : List Item
  pub reserved : ℕ
  pub queue : ℕ
  pub most : ℕ
  pub segments : List QueueSegment
  pub halted : Bool

abbrev pub value_of : QueueCore → QueueValue
value_of c = record { items = c.items.items; reserved = c.items.reserved; queue = queue_of c.segments; most = most_of c.segments; segments = list_of c.segments; halted = c.halted }

-- whether a list has an element
abbrev pub has_some : {A : Type 0} → List A → Bool
has_some [] = false
has_some (x ∷ xs) = true

-- a queue without messages and files
abbrev pub empty_queue : ℕ → ℕ → QueueValue
empty_queue queue most = record { items = []; reserved = 0; queue = queue; most = most; segments = []; halted = false }

-- no call on its files has failed
abbrev pub IsRunning : QueueValue → Type 0
IsRunning v = v.halted ≡ false

-- its files are as its own calls left them
abbrev pub IsOnDisk : QueueValue → (Name → Option File) → Type 0
IsOnDisk v files = IsQueueAt v.queue v.segments v.items files

-- where the files were as its own calls left them, they still are
abbrev pub StaysOnDisk : QueueValue → QueueValue → Type 0
StaysOnDisk old new = (files : Name → Option File) → IsOnDisk old files → IsOnDisk new files

-- the same queue, but for the memory that its segments have reserved
pub record IsUnchanged (old new : QueueValue) : Type 0 where
  pub items : new.items ≡ old.items
  pub reserved : new.reserved ≡ old.reserved
  pub queue : new.queue ≡ old.queue
  pub most : new.most ≡ old.most
  pub halted : new.halted ≡ old.halted
  pub segments : AreSame old.segments new.segments

-- the queue of the same number, whose segments get as many entries at most
pub record IsSameNumber (old new : QueueValue) : Type 0 where
  pub queue : new.queue ≡ old.queue
  pub most : new.most ≡ old.most

-- how many entries a segment gets at most
pub record IsMost (most : ℕ) : Type 0 where
  pub low : 16 ≤ most
  pub high : most ≤ 4096

-- a body that is given has this length
abbrev pub SuitsLength : Option (List ℕ) → ℕ → Type 0
SuitsLength None len = Unit {0}
SuitsLength (Some body) len = length body ≡ len

-- what a message that is published must be
pub record CanPublish (v : QueueValue) (id : ℕ) (body : Option (List ℕ)) (len : ℕ) : Type 0 where
  pub reserved : 0 < v.reserved
  pub named : 0 < id
  pub short : len ≤ 1048576
  pub sized : SuitsLength body len
