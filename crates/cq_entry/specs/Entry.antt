-- The bytes of an index's entries.
use Rattle.std.specs.Prelude.{◌≡◌, ◌≢◌, ◌⊎◌, ℕ, ◌<◌, ◌≤◌, ◌^◌, List, ◌∷◌, ◌++◌, slice_index, if◌then◌else◌, ◌==◌}
use Rattle.std.specs.Int.{w16, w32, w64, w128, to_be_bytes}
use Rattle.cq_bytes.specs.Field.{number_at}
use Rattle.cq_entry.specs.declared.entry.Entry.{Entry}
use Rattle.cq_entry.specs.declared.entry.EntryKind.{EntryKind}
use Rattle.cq_entry.specs.declared.entry.EntryKind.TheVariants.{Small, Shared}
use Rattle.cq_entry.specs.declared.entry.Seen.{Seen}
use Rattle.cq_entry.specs.declared.entry.Seen.TheVariants.{Gone, Present}

-- the byte that stands for a kind
abbrev pub kind_byte : EntryKind → ℕ
kind_byte Small = 1
kind_byte Shared = 2

-- the bytes of a present entry: status, kind, two zeros, length, id and place
abbrev pub entry_bytes : Entry → List ℕ
entry_bytes e = 1 ∷ kind_byte e.kind ∷ 0 ∷ 0 ∷ to_be_bytes w32 e.len ++ to_be_bytes w128 e.id ++ to_be_bytes w64 e.place

-- the fields are in their ranges
pub record IsEntry (e : Entry) : Type 0 where
  pub short : e.len ≤ 1048576
  pub named : 0 < e.id
  pub unplaced : e.kind ≡ Shared → e.place ≡ 0

-- the entry that the fields give
abbrev pub entry_of : List ℕ → Entry
entry_of bytes = record {
  kind = if slice_index bytes 1 == 1 then Small else Shared;
  len = number_at w32 bytes 4;
  id = number_at w128 bytes 8;
  place = number_at w64 bytes 24;
}

-- These bytes are a present entry's. Its fields are in their ranges, and it has no other bytes.
pub record IsPresent (bytes : List ℕ) (e : Entry) : Type 0 where
  pub valid : IsEntry e
  pub id : e.id < 2 ^ 128
  pub place : e.place < 2 ^ 64
  pub spelled : bytes ≡ entry_bytes e

-- what stands in these bytes: with the status 1 a present entry, with another one nothing, whatever the rest
abbrev pub IsSeen : List ℕ → Seen → Type 0
IsSeen bytes Gone = slice_index bytes 0 ≢ 1
IsSeen bytes (Present e) = (slice_index bytes 0 ≡ 1) × IsPresent bytes e

-- the rule of the field that begins at this byte: the kind is 1 or 2, bytes 2 and 3 are 0, a body has at most 1,048,576 bytes, the id isn't 0, and only a small message has a place
pub record FieldHolds (bytes : List ℕ) (at : ℕ) : Type 0 where
  pub kind : at ≡ 1 → (slice_index bytes 1 ≡ 1) ⊎ (slice_index bytes 1 ≡ 2)
  pub zeros : at ≡ 2 → number_at w16 bytes 2 ≡ 0
  pub len : at ≡ 4 → number_at w32 bytes 4 ≤ 1048576
  pub id : at ≡ 8 → number_at w128 bytes 8 ≢ 0
  pub place : at ≡ 24 → slice_index bytes 1 ≡ 2 → number_at w64 bytes 24 ≡ 0

-- bytes of the form: with the status 1 each field keeps its rule
abbrev pub IsForm : List ℕ → Type 0
IsForm bytes = slice_index bytes 0 ≡ 1 → (at : ℕ) → FieldHolds bytes at

-- the first byte of the first field that breaks its rule
pub record BreaksAt (bytes : List ℕ) (at : ℕ) : Type 0 where
  pub present : slice_index bytes 0 ≡ 1
  pub inside : at < 32
  pub broken : FieldHolds bytes at → ⊥
  pub before : (i : ℕ) → i < at → FieldHolds bytes i
