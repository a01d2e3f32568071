-- What a commit passes, and what it makes of the messages of a queue.
use Rattle.std.specs.Prelude.{◌≡◌, ℕ, ◌+◌, ◌-◌, ◌<◌, ◌≤◌, Bool, true, false, nat_lt, if◌then◌else◌, List, [], ◌∷◌, length, Option, None, Some, is_some}
use Rattle.std.specs.List.{AllByRecursion}
use Rattle.cq_bytes.specs.Numbers.{contains}
use Rattle.cq_entry.specs.declared.entry.EntryKind.{EntryKind}
use Rattle.cq_entry.specs.declared.entry.EntryKind.TheVariants.{Small}
use Rattle.cq_journal.specs.declared.event.Message.{Message}
use Rattle.cq_items.specs.Item.{Item}
use Rattle.cq_items.specs.declared.item.Passed.{Passed}
use Rattle.cq_items.specs.Items.{skips, decide, undecided_items, waits}
use Rattle.cq_queue.specs.Laid.{place_of, next_of}

-- a body has this length
abbrev pub HasLength : Option (List ℕ) → ℕ → Type 0
HasLength None len = ⊥
HasLength (Some body) len = length body ≡ len

-- A message that can be committed: a small one has its body in memory.
pub record IsReady (i : Item) : Type 0 where
  pub named : 0 < i.id
  pub short : i.len ≤ 1048576
  pub body : i.kind ≡ Small → HasLength i.body i.len

-- What one that isn't committed is of this message: it is of this kind, and of a small one the body is in memory.
pub record Suits (kinds : Message → EntryKind) (i : Item) (m : Message) : Type 0 where
  pub id : i.id ≡ m.id
  pub len : i.len ≡ length m.body
  pub kind : i.kind ≡ kinds m
  pub body : i.kind ≡ Small → i.body ≡ Some m.body

-- These of the undecided entries are passed: those that are skipped, and kept ones for which there is room, up to the
-- first for which there is none.
abbrev pub passed_of : List ℕ → ℕ → List Item → List Passed
passed_of skip room [] = []
passed_of skip room (i ∷ is) =
    if skips (contains skip i.id) i then record { id = i.id; kept = false } ∷ passed_of skip room is
    else if nat_lt 0 room then record { id = i.id; kept = true } ∷ passed_of skip (room - 1) is
    else []

-- those that are kept
abbrev pub kept_items : List ℕ → ℕ → List Item → List Item
kept_items skip room [] = []
kept_items skip room (i ∷ is) =
    if skips (contains skip i.id) i then kept_items skip room is
    else if nat_lt 0 room then i ∷ kept_items skip (room - 1) is
    else []

-- the messages of those that are kept, where these are the messages of all
abbrev pub kept_of : List ℕ → ℕ → List Item → List Message → List Message
kept_of skip room [] ms = []
kept_of skip room (i ∷ is) [] = []
kept_of skip room (i ∷ is) (m ∷ ms) =
    if skips (contains skip i.id) i then kept_of skip room is ms
    else if nat_lt 0 room then m ∷ kept_of skip (room - 1) is ms
    else []

-- the messages afterwards, where the next entry gets this place of this segment and the next record this place
abbrev pub commit_items : List ℕ → ℕ → ℕ → ℕ → ℕ → List Item → List Item
commit_items skip room segment at place [] = []
commit_items skip room segment at place (i ∷ is) =
    if is_some i.stand then i ∷ commit_items skip room segment at place is
    else if skips (contains skip i.id) i then commit_items skip room segment at place is
    else if nat_lt 0 room then decide (record { segment = segment; at = at; place = place_of i.kind place }) i ∷ commit_items skip (room - 1) segment (at + 1) (next_of i.kind place i.len) is
    else i ∷ is

-- how many bytes of records these have
abbrev pub bytes_of : List Item → ℕ
bytes_of [] = 0
bytes_of (i ∷ is) = next_of i.kind 0 i.len + bytes_of is

-- none of the undecided ones that are to be skipped waits
abbrev pub MaySkip : List ℕ → List Item → Type 0
MaySkip skip items = AllByRecursion (λ i. contains skip i.id ≡ true → waits i ≡ false) (undecided_items items)
