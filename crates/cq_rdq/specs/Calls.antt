-- What the calls of a shared file do.
use Rattle.std.specs.Prelude.{◌≡◌, ◌+◌, ◌≤◌, ◌++◌, ℕ, List, Option, Some, max, slice_index}
use Rattle.cq_disk.specs.declared.disk.Disk.{Ghosts}
use Rattle.cq_disk.specs.declared.name.Name.{Name}
use Rattle.cq_disk.specs.File.{File, fresh, settled}
use Rattle.cq_disk.specs.Files.{Becomes, IsThere}
use Rattle.cq_gate.specs.Calls.{Has, Moves}
use Rattle.cq_gate.specs.Format.{content}
use Rattle.cq_gate.specs.Gate.{Shows}
use Rattle.cq_block.specs.declared.layout.Block.{Block}
use Rattle.cq_block.specs.Blocks.{Batch, moved_by}
use Rattle.cq_rdq.specs.Forms.{BreaksShared}
use Rattle.cq_rdq.specs.Opened.{WasWrong}
use Rattle.cq_rdq.specs.Rdq.{HasSome, IsRdq, end_of, gate_of, len_of, name_of}
use Rattle.cq_rdq.specs.Records.{Records, Shelves, records_among, records_in, shared_name}
use Rattle.cq_rdq.specs.declared.rdq.Rdq.{Rdq}

-- the file of this number, which was just made: it has no byte
pub record IsNew (number : ℕ) (rdq : Rdq) : Type 0 where
  pub named : name_of rdq ≡ shared_name number
  pub end : end_of rdq ≡ 128
  pub len : len_of rdq ≡ 0

-- The file was made, with no record, and no other changed.
pub record IsMade (rdq : Rdq) (old new : Name → Option File) : Type 0 where
  pub is : IsThere (new (name_of rdq)) (IsRdq rdq)
  pub becomes : Becomes (name_of rdq) (Some fresh) old new

-- The value says what the file as it reads has, which has records; where nothing of the file waits for a sync, it is as
-- the value's own calls leave it.
pub record IsOpened (rdq : Rdq) (f : File) : Type 0 where
  pub shows : Shows (gate_of rdq) f.reads
  pub some : HasSome f.reads
  pub is : f ≡ settled f.reads → IsRdq rdq f

-- What tells damage has read it; where the disk tells its files, it is the first rule that this file breaks.
pub record IsDamaged {D : Type 0} (g : Ghosts D) (name : Name) (disk : D) (place found : ℕ) : Type 0 where
  pub cause : WasWrong place found
  pub told : g.tells → Has g name disk (λ f. BreaksShared f.reads place × (found ≡ slice_index f.reads place))

-- The file is as the value's own calls left it; where it has at most 128 bytes, no crash can leave more of it.
pub record TakesMore (rdq : Rdq) (slot : Option File) : Type 0 where
  pub is : IsThere slot (IsRdq rdq)
  pub bare : len_of rdq ≤ 128 → IsThere slot (λ f. f.most ≤ 128)

-- the content has grown by so many bytes
pub record Grows (old new : Rdq) (more : ℕ) : Type 0 where
  pub end : end_of new ≡ end_of old + more
  pub len : len_of new ≡ max (max (len_of old) 128) (end_of new)

-- The batch's bytes have joined the content behind this end: the records that were there stay where they were, and
-- behind them stand those of the batch.
pub record Adds (end : ℕ) (batch : Batch) (f g : File) : Type 0 where
  pub content : content g.reads ≡ content f.reads ++ batch.bytes
  pub records : (list : List Block) → Records f.reads list
      → Records g.reads (list ++ moved_by end (records_among batch.blocks))
  pub shelves : Shelves (records_in batch) f g

-- The file is as the value's own calls left it, and this batch has joined it.
pub record HasAdded {D : Type 0} (g : Ghosts D) (before after : Rdq) (old new : D) (batch : Batch) : Type 0 where
  pub is : IsThere (g.files new (name_of before)) (IsRdq after)
  pub step : Moves g (name_of before) old new (Adds (end_of before) batch)
