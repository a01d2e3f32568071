-- What the calls of a segment do.
use Rattle.std.specs.Prelude.{◌≡◌, ◌⊎◌, ◌↔◌, ◌+◌, ◌≤◌, ◌<◌, ◌++◌, ℕ, List, [], Option, Some, All, Contains, IfSome, IsSome, filter, length, not, slice_index}
use Rattle.cq_bytes.specs.Numbers.{contains}
use Rattle.cq_disk.specs.declared.disk.Disk.{Ghosts}
use Rattle.cq_disk.specs.declared.name.Name.{Name}
use Rattle.cq_disk.specs.File.{File, fresh, settled}
use Rattle.cq_disk.specs.Files.{Becomes, IsThere}
use Rattle.cq_gate.specs.Calls.{Has, Moves, WasRead}
use Rattle.cq_gate.specs.Format.{content}
use Rattle.cq_index.specs.Codec.{Entry, IsEntry, IsPresent, most_entries}
use Rattle.cq_index.specs.Gone.{AreGone}
use Rattle.cq_index.specs.Opened.{BreaksIndex, ReadBroken, ReadUneven}
use Rattle.cq_index.specs.Places.{Adds, entries_bytes, entry_at}
use Rattle.cq_index.specs.Segments.{IsBare, IsOpen, IsSegment, Knows, count_of, len_of, name_of, present_of, reserved_of}
use Rattle.cq_index.specs.declared.segment.Segment.{Segment}

-- the segment says the same of its file
pub record Same (old new : Segment) : Type 0 where
  pub name : name_of new ≡ name_of old
  pub gate : new.gate ≡ old.gate
  pub count : count_of new ≡ count_of old
  pub present : present_of new ≡ present_of old

-- the segment has no entry, and the same name and what was reserved
pub record StaysEmpty (old new : Segment) : Type 0 where
  pub name : name_of new ≡ name_of old
  pub count : count_of new ≡ 0
  pub present : present_of new ≡ []
  pub reserved : reserved_of new ≡ reserved_of old

-- a segment whose file was just made: it has no byte
pub record IsNew (segment : Segment) : Type 0 where
  pub is_open : IsOpen segment
  pub len : len_of segment ≡ 0

-- The file of a segment was made, and no other changed.
pub record IsMade (segment : Segment) (old new : Name → Option File) : Type 0 where
  pub is : IsSegment segment (new (name_of segment))
  pub becomes : Becomes (name_of segment) (Some fresh) old new

-- The segment is open and says what the file as it reads has; where nothing of the file waits for a sync, it is as the segment's own calls leave it.
pub record IsOpened (segment : Segment) (f : File) : Type 0 where
  pub knows : Knows segment f
  pub is : f ≡ settled f.reads → IsSegment segment (Some f)

-- Bytes were read that break a rule of the form at this place, where this byte stood: those of a header, of a content's length, or of an entry.
abbrev pub WasWrong : ℕ → ℕ → Type 0
WasWrong place found = WasRead 1 place found ⊎ (ReadUneven place found ⊎ ((count : ℕ) × ReadBroken count place found))

-- What tells damage has read it; where the disk tells its files, it is this file's.
pub record IsDamaged {D : Type 0} (g : Ghosts D) (name : Name) (disk : D) (place found : ℕ) : Type 0 where
  pub cause : WasWrong place found
  pub told : g.tells → Has g name disk (λ f. BreaksIndex f.reads place × (found ≡ slice_index f.reads place))

-- These entries can be added: the segment is open, they are some, valid, not too many, and memory is reserved for them.
pub record CanAdd (segment : Segment) (entries : List Entry) : Type 0 where
  pub is_open : IsOpen segment
  pub some : 0 < length entries
  pub valid : All IsEntry entries
  pub few : count_of segment + length entries ≤ most_entries
  pub reserved : length entries ≤ reserved_of segment

-- The file is as the segment's own calls left it; where it has at most 128 bytes, no crash can leave more of it.
pub record TakesMore (segment : Segment) (slot : Option File) : Type 0 where
  pub is : IsSegment segment slot
  pub bare : IsBare segment → IsThere slot (λ f. f.most ≤ 128)

-- the segment has so many entries more, and each of them is present
pub record Grows (old new : Segment) (more : ℕ) : Type 0 where
  pub is_open : IsOpen new
  pub count : count_of new ≡ count_of old + more
  pub present : (k : ℕ) → Contains (present_of new) k ↔ (Contains (present_of old) k ⊎ ((count_of old ≤ k) × (k < count_of new)))
  pub len : 128 < len_of new

-- The file is as the segment's own calls left it, and these entries have joined it.
pub record HasAdded {D : Type 0} (g : Ghosts D) (before after : Segment) (old new : D) (entries : List Entry) : Type 0 where
  pub is : IsSegment after (g.files new (name_of before))
  pub step : Moves g (name_of before) old new (Adds (count_of before) entries)
  pub grown : Moves g (name_of before) old new (λ f h. content h.reads ≡ content f.reads ++ entries_bytes entries)

-- the segment has the same entries, of which these are no longer present
pub record Loses (old new : Segment) (at : List ℕ) : Type 0 where
  pub count : count_of new ≡ count_of old
  pub reserved : reserved_of new ≡ reserved_of old
  pub opened : IsOpen old → IsOpen new
  pub left : present_of new ≡ filter (λ k. not (contains at k)) (present_of old)
  pub present : (k : ℕ) → Contains (present_of new) k ↔ (Contains (present_of old) k × (Contains at k → ⊥))

-- The file is as the segment's own calls left it, and in it these entries are gone.
pub record HasLost {D : Type 0} (g : Ghosts D) (before after : Segment) (old new : D) (at : List ℕ) : Type 0 where
  pub is : IsSegment after (g.files new (name_of before))
  pub step : IsOpen before → Moves g (name_of before) old new (AreGone at)

-- The entry at a place: one exactly where it is listed as present. It is valid, and where the disk tells its files it stands there.
pub record IsSeen {D : Type 0} (g : Ghosts D) (segment : Segment) (disk : D) (at : ℕ) (entry : Option Entry) : Type 0 where
  pub listed : IsSome entry ↔ Contains (present_of segment) at
  pub valid : IfSome entry IsEntry
  pub stands : IfSome entry (λ e. g.tells → Has g (name_of segment) disk (λ f. IsPresent (entry_at f.reads at) e))
