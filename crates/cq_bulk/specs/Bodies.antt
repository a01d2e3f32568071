-- The window of a small store's content, and the bodies that are read by it.
use Rattle.std.specs.Prelude.{◌≡◌, ℕ, ◌+◌, ◌-◌, ◌≤◌, ◌&&◌, Bool, true, false, not, min, max, List, length, take, drop, Option, Some, None, IfSome}
use Rattle.cq_disk.specs.declared.disk.Disk.{Ghosts}
use Rattle.cq_disk.specs.File.{File}
use Rattle.cq_gate.specs.Calls.{Has}
use Rattle.cq_small.specs.Record.{StandsAt, IsWhole}
use Rattle.cq_small.specs.Store.{IsSmallStore, end_of, len_of, name_of}
use Rattle.cq_small.specs.declared.store.SmallStore.{SmallStore}
use Rattle.cq_bulk.specs.Ranges.{is_range}
use Rattle.cq_bulk.specs.declared.bodies.Bodies.{Bodies}

-- where the window begins, from the file's first byte, and its bytes
abbrev pub start_of : Bodies → ℕ
start_of bodies = bodies.start

abbrev pub bytes_of : Bodies → List ℕ
bytes_of bodies = bodies.bytes.items

-- the window's bytes are those of the file, if it is there; a proposition, so that a struct can keep it
abbrev pub IsWindow : Bodies → Option File → Type 0
IsWindow bodies slot = (f : File) → slot ≡ Some f → bytes_of bodies ≡ take (length (bytes_of bodies)) (drop (start_of bodies) f.reads)

-- the file is as the store's own calls left it, and the window is one of it
pub record KnowsBoth (bodies : Bodies) (store : SmallStore) (slot : Option File) : Type 0 where
  pub is : IsSmallStore store slot
  pub window : IsWindow bodies slot

-- how far a store goes: to the end of its content, within the file's length, as the store knows it
abbrev pub reach_of : SmallStore → ℕ
reach_of store = min (end_of store) (len_of store)

-- the record of a body of this length at a place lies in the store
abbrev pub lies_in : SmallStore → ℕ → ℕ → Bool
lies_in store place len = is_range 128 (reach_of store) place len

-- it lies in the window
abbrev pub has_record : Bodies → ℕ → ℕ → Bool
has_record bodies place len = is_range (start_of bodies) (start_of bodies + length (bytes_of bodies)) place len

-- it lies in the store, and not in the window
abbrev pub needs_read : Bodies → SmallStore → ℕ → ℕ → Bool
needs_read bodies store place len = lies_in store place len && not (has_record bodies place len)

-- the window's bytes in the range of that record
abbrev pub range_of : Bodies → ℕ → ℕ → List ℕ
range_of bodies place len = take (len + 5) (drop (place - start_of bodies) (bytes_of bodies))

-- What stands at a place of a store: a body of this length, within the store, whose record stands there where the disk tells its files; and none exactly where no record of this length stands there.
pub record IsFound {D : Type 0} (g : Ghosts D) (store : SmallStore) (disk : D) (place len : ℕ) (body : Option (List ℕ)) : Type 0 where
  pub long : IfSome body (λ b. length b ≡ len)
  pub inside : IfSome body (λ b. place + len + 5 ≤ reach_of store)
  pub stands : IfSome body (λ b. g.tells → Has g (name_of store) disk (λ f. StandsAt f.reads place b))
  pub none : body ≡ None → g.tells → Has g (name_of store) disk (λ f. IsWhole f.reads place len) → ⊥

-- Where a read is needed, it is one call: the window then goes from the place on 128 KiB, or to the record's end where that is longer, but not past this reach. Else no call is made, and the window stays.
pub record Slid {D : Type 0} (g : Ghosts D) (needed : Bool) (before after : Bodies) (reach place len : ℕ) (old new : D) : Type 0 where
  pub stays : needed ≡ false → (after ≡ before) × (new ≡ old)
  pub starts : needed ≡ true → start_of after ≡ place
  pub ends : needed ≡ true → length (bytes_of after) ≡ min (reach - place) (max 131072 (len + 5))
  pub calls : needed ≡ true → g.moment new ≡ g.moment old + 1

-- the same for a store: a record that lies in it and not in the window needs a read
abbrev pub Slides : {D : Type 0} → Ghosts D → Bodies → Bodies → SmallStore → ℕ → ℕ → D → D → Type 0
Slides g before after store place len old new = Slid g (needs_read before store place len) before after (reach_of store) place len old new
