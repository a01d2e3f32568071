-- Bytes that were read of a shared file, where they aren't of its form.
use Rattle.std.specs.Prelude.{◌≡◌, ◌≢◌, ◌⊎◌, ◌+◌, ℕ, List, length, slice_index}
use Rattle.cq_disk.specs.declared.disk.Disk.{Ghosts}
use Rattle.cq_disk.specs.declared.name.Name.{Name}
use Rattle.cq_gate.specs.declared.gate.Gate.{Gate}
use Rattle.cq_gate.specs.Calls.{Has, WasRead, WasShown}
use Rattle.cq_gate.specs.Gate.{end_of, plan_len_of, slot_in}
use Rattle.cq_gate.specs.Gated.{place_of}
use Rattle.cq_block.specs.Blocks.{BreaksAt}
use Rattle.cq_rdq.specs.Forms.{BreaksChain}

-- bytes were read as the content up to this end, and they are no chain: the first block that breaks it does so here,
-- where this byte stood
pub record ReadBroken (end place found : ℕ) : Type 0 where
  pub bytes : List ℕ
  pub len : 128 + length bytes ≡ end
  pub breaks : BreaksAt bytes place found

-- a header was read that selects no plan, and then a content up to its end that is no chain
pub record ReadChain (place found : ℕ) : Type 0 where
  pub gate : Gate
  pub read : WasShown gate
  pub plain : plan_len_of gate ≡ 0
  pub broken : ReadBroken (end_of gate) place found

-- a header was read that selects a plan: this is the place of byte 8 of the selected slot
pub record ReadPlan (place : ℕ) : Type 0 where
  pub gate : Gate
  pub read : WasShown gate
  pub planned : plan_len_of gate ≢ 0
  pub place_is : place ≡ place_of (slot_in gate).second + 8

-- Bytes were read that break a rule of the form at this place, where this byte stood: those of a header, of a plan that
-- is selected, or of a content.
abbrev pub WasWrong : ℕ → ℕ → Type 0
WasWrong place found = WasRead 3 place found ⊎ (ReadPlan place ⊎ ReadChain place found)

-- A content was read that is no chain; where the disk tells its files, it is this file's.
pub record IsBroken {D : Type 0} (g : Ghosts D) (name : Name) (disk : D) (end place found : ℕ) : Type 0 where
  pub cause : ReadBroken end place found
  pub told : g.tells → Has g name disk (λ f. BreaksChain f.reads place × (found ≡ slice_index f.reads place))

-- a content was read that is no chain, which never happens where the disk tells its files
pub record IsMisread (Told : Type 0) (end place found : ℕ) : Type 0 where
  pub broken : ReadBroken end place found
  pub untold : Told → ⊥
