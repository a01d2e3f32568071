-- What the calls of a gated file do.
use Rattle.std.specs.Prelude.{◌≡◌, ◌≢◌, ◌+◌, ◌≤◌, ◌<◌, ℕ, not, List, length, slice_index, max, Option, Some, None}
use Rattle.cq_disk.specs.declared.name.Name.{Name}
use Rattle.cq_disk.specs.declared.disk.Disk.{Ghosts}
use Rattle.cq_disk.specs.File.{File, settled}
use Rattle.cq_disk.specs.Files.{Among, Creates, IsThere}
use Rattle.cq_disk.specs.Run.{LeavesOnly, LeavesOfFile}
use Rattle.cq_gate.specs.declared.gate.Gate.{Gate}
use Rattle.cq_gate.specs.declared.slot.Slot.{Slot}
use Rattle.cq_gate.specs.Format.{kind_byte, BreaksAt, OfHeader}
use Rattle.cq_gate.specs.Gate.{IsGate, Shows, name_of, end_of, plan_len_of, len_of}
use Rattle.cq_gate.specs.Gated.{From, Step, KeepsOrTakes}

-- a fact of this file, which is there
abbrev pub Has : {D : Type 0} → Ghosts D → Name → D → (File → Type 0) → Type 0
Has g name disk P = Among (g.files disk name) P

-- a fact of this file as it was and as it is
abbrev pub Moves : {D : Type 0} → Ghosts D → Name → D → D → (File → File → Type 0) → Type 0
Moves g name old new P = Step (g.files old name) (g.files new name) P

-- No other file changes; and what a crash at any moment leaves of this file has P with the file as it was, each other is as it could be left before.
pub record Touches {D : Type 0} (g : Ghosts D) (name : Name) (old new : D) (P : File → List ℕ → Type 0) : Type 0 where
  pub others : (n : Name) → n ≢ name → g.files new n ≡ g.files old n
  pub any_moment : LeavesOfFile g name old new (From (g.files old name) P)

-- No other file changes; and a crash at any moment leaves no file of this name, or an empty one.
pub record Makes {D : Type 0} (g : Ghosts D) (name : Name) (old new : D) : Type 0 where
  pub others : (n : Name) → n ≢ name → g.files new n ≡ g.files old n
  pub any_moment : LeavesOnly g old new (Creates name (g.files old))

-- a gate of a file that was just made
pub record IsNew (name : Name) (gate : Gate) : Type 0 where
  pub named : name_of gate ≡ name
  pub end : end_of gate ≡ 128
  pub plan_len : plan_len_of gate ≡ 0
  pub len : len_of gate ≡ 0

-- The file is as the gate's own calls left it; where it is bare, no crash can leave more than 128 bytes of it.
pub record TakesMore (gate : Gate) (slot : Option File) : Type 0 where
  pub is : IsThere slot (IsGate gate)
  pub bare : len_of gate ≤ 128 → IsThere slot (λ f. f.most ≤ 128)

-- the content has grown by so many bytes
pub record Grows (old new : Gate) (more : ℕ) : Type 0 where
  pub end : end_of new ≡ end_of old + more
  pub len : len_of new ≡ max (max (len_of old) 128) (end_of new)

-- the gate says the same of its file
pub record Same (old new : Gate) : Type 0 where
  pub name : name_of new ≡ name_of old
  pub end : end_of new ≡ end_of old
  pub plan_len : plan_len_of new ≡ plan_len_of old
  pub len : len_of new ≡ len_of old

-- the slot that isn't selected, with this end and this length of a plan, is the one that can be selected next
abbrev pub IsOther : Gate → ℕ → ℕ → Option Slot → Type 0
IsOther gate end plan_len prepared = prepared ≡ Some (record { second = not gate.second; end = end; plan_len = plan_len })

-- the gate says what the slot said that was prepared
abbrev pub IsTaken : Option Slot → Gate → Type 0
IsTaken prepared gate = (s : Slot) → prepared ≡ Some s → (end_of gate ≡ s.end) × (plan_len_of gate ≡ s.plan_len)

-- what a crash leaves while the slot that was prepared is selected: the content and the plan as they were, or as it says
abbrev pub Takes : ℕ → Option Slot → File → List ℕ → Type 0
Takes kind None f c = ⊥
Takes kind (Some slot) f c = KeepsOrTakes kind slot f c

-- The file is as the gate's own calls left it, and has P with the file as it was.
pub record IsKnown {D : Type 0} (g : Ghosts D) (before after : Gate) (old new : D) (P : File → File → Type 0) : Type 0 where
  pub is : IsThere (g.files new (name_of before)) (IsGate after)
  pub step : Moves g (name_of before) old new P

-- The gate says what the file as it reads has; where nothing of the file waits for a sync, it is as the gate's own calls leave it.
pub record IsOpened (gate : Gate) (f : File) : Type 0 where
  pub shows : Shows gate f.reads
  pub is : f ≡ settled f.reads → IsGate gate f

-- The header of a file of more than 128 bytes breaks its first rule here, and this byte stands there.
pub record BreaksHeader (kind place found : ℕ) (f : File) : Type 0 where
  pub long : 128 < length f.reads
  pub breaks : BreaksAt kind f.reads place
  pub found_is : found ≡ slice_index f.reads place

-- 128 bytes were read as the header of a longer file: each file of this length that begins with them breaks its first rule here, and this byte stands there.
pub record WasRead (kind place found : ℕ) : Type 0 where
  pub header : List ℕ
  pub header_len : length header ≡ 128
  pub len : ℕ
  pub long : 128 < len
  pub breaks : OfHeader len header (λ file. BreaksAt kind file place)
  pub found_is : found ≡ slice_index header place

-- 128 bytes were read as the header of a file: the gate says what each file of its length says that begins with them.
pub record WasShown (gate : Gate) : Type 0 where
  pub header : List ℕ
  pub header_len : length header ≡ 128
  pub shows : OfHeader (len_of gate) header (Shows gate)

-- What tells damage has read it; where the disk tells its files, it is this file's.
pub record IsDamaged {D : Type 0} (g : Ghosts D) (name : Name) (disk : D) (place found : ℕ) : Type 0 where
  pub cause : WasRead (kind_byte name.kind) place found
  pub told : g.tells → Has g name disk (BreaksHeader (kind_byte name.kind) place found)
