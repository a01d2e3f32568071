-- What an opening finds of one queue, on any disk.
use Rattle.std.specs.Prelude.{◌≡◌, ℕ, true, false, List, [], ◌∷◌, ◌++◌, length, Option, Some, None}
use Rattle.std.specs.List.{AllByRecursion, AllZip}
use Rattle.cq_bytes.specs.Numbers.{contains}
use Rattle.cq_entry.specs.declared.entry.EntryKind.TheVariants.{Small as SmallEntry, Shared as SharedEntry}
use Rattle.cq_entry.specs.Entry.{IsEntry}
use Rattle.cq_small.specs.declared.store.SmallStore.{SmallStore}
use Rattle.cq_small.specs.Store as small
use Rattle.cq_index.specs.declared.segment.Segment.{Segment}
use Rattle.cq_index.specs.Places.{index_name}
use Rattle.cq_index.specs.Segments as index
use Rattle.cq_folder.specs.Queue.{AreIndexes, AreStores, listed_in}
use Rattle.cq_back_q.specs.declared.found.HeldEntry.{HeldEntry}
use Rattle.cq_back_q.specs.declared.found.FoundQueue.{FoundQueue}

-- where present entries are listed: the segment and the place in it, by rising segment and place
abbrev pub listed : List Segment → List (ℕ × ℕ)
listed [] = []
listed (s ∷ segments) = listed_in (index.name_of s).number (index.present_of s) ++ listed segments

-- where entries that are held stand
abbrev pub places_of : List HeldEntry → List (ℕ × ℕ)
places_of [] = []
places_of (h ∷ held) = (h.segment, h.at) ∷ places_of held

abbrev pub ids_of : List HeldEntry → List ℕ
ids_of [] = []
ids_of (h ∷ held) = h.entry.id ∷ ids_of held

-- no number stands twice
abbrev pub HasDistinct : List ℕ → Type 0
HasDistinct [] = Unit {0}
HasDistinct (x ∷ xs) = (contains xs x ≡ false) × HasDistinct xs

-- a body of this length
abbrev pub HasBody : Option (List ℕ) → ℕ → Type 0
HasBody None len = ⊥
HasBody (Some body) len = length body ≡ len

-- The entry is valid and of the queue; of a small one the body was read.
pub record IsBodyOf (queue : ℕ) (h : HeldEntry) (body : Option (List ℕ)) : Type 0 where
  pub of_queue : h.queue ≡ queue
  pub valid : IsEntry h.entry
  pub small : h.entry.kind ≡ SmallEntry → HasBody body h.entry.len
  pub shared : h.entry.kind ≡ SharedEntry → body ≡ None

-- The entries are those that the segments list, in order, each with its body, and no id stands twice.
pub record AreTaken (queue : ℕ) (segments : List Segment) (held : List HeldEntry) (bodies : List (Option (List ℕ))) : Type 0 where
  pub listing : places_of held ≡ listed segments
  pub fit : AllZip (IsBodyOf queue) held bodies
  pub once : HasDistinct (ids_of held)

-- What an opening finds: open files of the queue, and their present entries with their bodies.
pub record IsFoundOf (queue : ℕ) (found : FoundQueue) : Type 0 where
  pub indexes : AreIndexes queue found.segments.items
  pub stores : AreStores queue found.segments.items found.stores.items
  pub taken : AreTaken queue found.segments.items found.held.items found.bodies.items
