-- What the calls of a small store do.
use Rattle.std.specs.Prelude.{◌≡◌, ◌+◌, ◌≤◌, ◌++◌, ℕ, List, Option, Some, max}
use Rattle.cq_disk.specs.declared.name.Name.{Name}
use Rattle.cq_disk.specs.File.{File, fresh, settled}
use Rattle.cq_disk.specs.Files.{Becomes, IsThere}
use Rattle.cq_disk.specs.declared.disk.Disk.{Ghosts}
use Rattle.cq_gate.specs.Calls.{Moves}
use Rattle.cq_gate.specs.Format.{content}
use Rattle.cq_small.specs.Record.{HasRecord, StandsAt}
use Rattle.cq_small.specs.Store.{IsSmallStore, IsStore, Knows, IsBare, IsOpen, end_of, len_of, name_of}
use Rattle.cq_small.specs.declared.store.SmallStore.{SmallStore}

-- a store whose file was just made: it has no byte
pub record IsNew (store : SmallStore) : Type 0 where
  pub is_open : IsOpen store
  pub end : end_of store ≡ 128
  pub len : len_of store ≡ 0

-- The file of a store was made, and no other changed.
pub record IsMade (store : SmallStore) (old new : Name → Option File) : Type 0 where
  pub is : IsSmallStore store (new (name_of store))
  pub becomes : Becomes (name_of store) (Some fresh) old new

-- The file is as the store's own calls left it; where it has at most 128 bytes, no crash can leave more of it.
pub record TakesMore (store : SmallStore) (slot : Option File) : Type 0 where
  pub is : IsSmallStore store slot
  pub bare : IsBare store → IsThere slot (λ f. f.most ≤ 128)

-- The store has grown by so many bytes.
pub record Grows (old new : SmallStore) (more : ℕ) : Type 0 where
  pub is_open : IsOpen new
  pub end : end_of new ≡ end_of old + more
  pub len : len_of new ≡ max (max (len_of old) 128) (end_of new)

-- These bytes have joined the content behind this end, and all of the file is on the disk. What stood in the file and what stands in these bytes stands there now.
pub record Adds (end : ℕ) (bytes : List ℕ) (f g : File) : Type 0 where
  pub content : content g.reads ≡ content f.reads ++ bytes
  pub all : g ≡ settled g.reads
  pub kept : (at : ℕ) (body : List ℕ) → StandsAt f.reads at body → StandsAt g.reads at body
  pub added : (offset : ℕ) (body : List ℕ) → HasRecord bytes offset body → StandsAt g.reads (end + offset) body

-- The store is open and says what the file as it reads has; where nothing of the file waits for a sync, it is as the store's own calls leave it.
pub record IsOpened (store : SmallStore) (f : File) : Type 0 where
  pub knows : Knows store f
  pub is : f ≡ settled f.reads → IsStore store f

-- The file is as the store's own calls left it, and these bytes have joined it.
pub record HasAdded {D : Type 0} (g : Ghosts D) (before after : SmallStore) (old new : D) (bytes : List ℕ) : Type 0 where
  pub is : IsSmallStore after (g.files new (name_of before))
  pub step : Moves g (name_of before) old new (Adds (end_of before) bytes)
