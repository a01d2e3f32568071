-- What a commit writes of the messages that it keeps, and its plan, made before the first call of the disk.
use Rattle.std.specs.Prelude.{◌≡◌, ℕ, ◌+◌, ◌≤◌, Bool, true, false, List, [], ◌∷◌, ◌++◌, length, Option, Some}
use Rattle.std.specs.List.{AllByRecursion}
use Rattle.std.specs.Ordering.{nat_cmp}
use Rattle.std.specs.BTreeSet.{BTreeSet, contains as has_id}
use Rattle.cq_entry.specs.declared.entry.Entry.{Entry as IndexEntry}
use Rattle.cq_entry.specs.declared.entry.EntryKind.{EntryKind}
use Rattle.cq_entry.specs.declared.entry.EntryKind.TheVariants.{Small}
use Rattle.cq_entry.specs.Entry.{IsPresent, entry_bytes}
use Rattle.cq_small.specs.Record.{small_record}
use Rattle.cq_bytes.specs.Numbers.{contains}
use Rattle.cq_items.specs.Item.{Item}
use Rattle.cq_items.specs.Items.{skips, undecided_items}
use Rattle.cq_queue.specs.declared.queue.planning.Plan.{Plan}
use Rattle.cq_queue.specs.Laid.{place_of, next_of}
use Rattle.cq_queue.specs.Passing.{MaySkip, kept_items, passed_of}
use Rattle.cq_queue.specs.QueueCalls.{pick_in, room_in}
use Rattle.cq_queue.specs.Values.{QueueValue}

-- the record of a body in memory, of which a shared message has none
abbrev pub body_record : EntryKind → Option (List ℕ) → List ℕ
body_record Small (Some body) = small_record body
body_record kind body = []

abbrev pub item_record : Item → List ℕ
item_record i = body_record i.kind i.body

-- the entry of a message, where the next record stands here
abbrev pub item_entry : ℕ → Item → IndexEntry
item_entry base i = record { kind = i.kind; len = i.len; id = i.id; place = place_of i.kind base }

-- the records of messages, and their entries, where the first record stands here
abbrev pub records_in : List Item → List ℕ
records_in [] = []
records_in (i ∷ is) = item_record i ++ records_in is

abbrev pub entries_in : ℕ → List Item → List IndexEntry
entries_in base [] = []
entries_in base (i ∷ is) = item_entry base i ∷ entries_in (next_of i.kind base i.len) is

-- a set has exactly these ids
abbrev pub HasIds : List ℕ → BTreeSet ℕ → Type 0
HasIds ids set = (id : ℕ) → has_id nat_cmp set id ≡ contains ids id

-- an entry is read back as itself
abbrev pub IsReadBack : IndexEntry → Type 0
IsReadBack e = IsPresent (entry_bytes e) e

-- The plan for these undecided messages, where there is room for so many entries and the first record stands here: what
-- is passed, and the entries and the records of what is kept.
pub record IsPlan (skip : List ℕ) (room base : ℕ) (is : List Item) (plan : Plan) : Type 0 where
  pub passed : plan.passed.items ≡ passed_of skip room is
  pub entries : plan.entries.items ≡ entries_in base (kept_items skip room is)
  pub records : plan.records ≡ records_in (kept_items skip room is)
  pub present : AllByRecursion IsReadBack plan.entries.items

-- nothing is planned, and there is room for so many entries, whose first record stands here
pub record IsEmptyPlan (room base : ℕ) (plan : Plan) : Type 0 where
  pub passed : plan.passed.items ≡ []
  pub entries : plan.entries.items ≡ []
  pub records : plan.records ≡ []
  pub room_is : plan.room ≡ room
  pub end_is : plan.end ≡ base

-- a plan with one message more that is skipped
pub record HasSkipped (i : Item) (old new : Plan) : Type 0 where
  pub passed : new.passed.items ≡ old.passed.items ++ record { id = i.id; kept = false } ∷ []
  pub entries : new.entries.items ≡ old.entries.items
  pub records : new.records ≡ old.records
  pub room : new.room ≡ old.room
  pub end : new.end ≡ old.end

-- a plan with one message more that is kept
pub record HasKept (i : Item) (old new : Plan) : Type 0 where
  pub passed : new.passed.items ≡ old.passed.items ++ record { id = i.id; kept = true } ∷ []
  pub entries : new.entries.items ≡ old.entries.items ++ item_entry old.end i ∷ []
  pub records : new.records ≡ old.records ++ item_record i
  pub room : new.room + 1 ≡ old.room
  pub end : new.end ≡ next_of i.kind old.end i.len
  pub present : IsReadBack (item_entry old.end i)

-- A plan with one message more: it is skipped, or else kept. Or it isn't planned: it is to be kept, and there is no room.
pub data HasPlanned (skip : List ℕ) (i : Item) (old new : Plan) : Bool → Type 0 where
  Skips : skips (contains skip i.id) i ≡ true → HasSkipped i old new → HasPlanned skip i old new true
  Keeps : skips (contains skip i.id) i ≡ false → HasKept i old new → HasPlanned skip i old new true
  Stops : skips (contains skip i.id) i ≡ false → old.room ≡ 0 → new ≡ old → HasPlanned skip i old new false

-- the record of a message has joined a plan, and its entry says this place
pub record HasRecord (i : Item) (old new : Plan) (place : ℕ) : Type 0 where
  pub place_is : place ≡ place_of i.kind old.end
  pub plan : new ≡ record old { records = old.records ++ item_record i; end = next_of i.kind old.end i.len }

-- a plan for these messages, of which none waits that is to be skipped, whose entries fit behind so many
pub record CanPassPlan (items : List Item) (count : ℕ) (plan : Plan) : Type 0 where
  pub skip : List ℕ
  pub room : ℕ
  pub base : ℕ
  pub is : IsPlan skip room base (undecided_items items) plan
  pub may : MaySkip skip items
  pub few : count + length plan.entries.items ≤ 4096

-- the plan of a commit
abbrev pub IsPlanned : List ℕ → QueueValue → Plan → Type 0
IsPlanned skip v plan = IsPlan skip (room_in v) (pick_in v).base (undecided_items v.items) plan
