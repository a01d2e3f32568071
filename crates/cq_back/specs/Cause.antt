-- Why damage is told: bytes that were read, and the rule that they break. It holds on each disk, whether it tells its files or not.
use Rattle.std.specs.Prelude.{◌≡◌, ℕ, ◌+◌, true, false, List, slice_index}
use Rattle.cq_disk.specs.declared.name.Name.{Name}
use Rattle.cq_gate.specs.Calls.{WasRead}
use Rattle.cq_entry.specs.declared.entry.Entry.{Entry}
use Rattle.cq_entry.specs.declared.entry.EntryKind.TheVariants.{Small, Shared}
use Rattle.cq_entry.specs.Entry.{IsEntry, entry_bytes}
use Rattle.cq_index.specs.Calls.{WasWrong}
use Rattle.cq_index.specs.Opened.{IsBroken}
use Rattle.cq_index.specs.Places.{place_of}
use Rattle.cq_back.specs.declared.found.HeldEntry.{HeldEntry}
use Rattle.cq_back.specs.Folder.{index_file, small_file}
use Rattle.cq_back.specs.Read.{holds_id}

-- An entry that was read doesn't fit, for its field that begins at this byte: its id was read before; else it is a shared one, while there are no shared files; else no record of its length was found at its place.
pub data WasUnfit (held : List HeldEntry) (e : Entry) (byte : ℕ) : Type 0 where
  Repeated : byte ≡ 8 → holds_id held e.id ≡ true → WasUnfit held e byte
  Dangling : byte ≡ 1 → holds_id held e.id ≡ false → e.kind ≡ Shared → WasUnfit held e byte
  Lacking : byte ≡ 24 → holds_id held e.id ≡ false → e.kind ≡ Small → WasUnfit held e byte

-- A valid entry was read at a place of the index that doesn't fit those that were read before: its field's first byte is told.
pub record ReadUnfit (place found : ℕ) : Type 0 where
  pub at : ℕ
  pub held : List HeldEntry
  pub entry : Entry
  pub valid : IsEntry entry
  pub byte : ℕ
  pub unfit : WasUnfit held entry byte
  pub place_is : place ≡ place_of at + byte
  pub found_is : found ≡ slice_index (entry_bytes entry) byte

-- What was read of this file breaks a rule at this place, where this byte stood: the index when it was opened, the small store's header, an entry's form, or an entry that doesn't fit.
pub data HasCause (name : Name) (place found : ℕ) : Type 0 where
  OfIndex : name ≡ index_file → WasWrong place found → HasCause name place found
  OfSmall : name ≡ small_file → WasRead 2 place found → HasCause name place found
  OfEntry : name ≡ index_file → (at : ℕ) → IsBroken at place found → HasCause name place found
  OfUnfit : name ≡ index_file → ReadUnfit place found → HasCause name place found
