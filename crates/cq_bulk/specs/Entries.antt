-- The present entries of a segment, read at once.
use Rattle.std.specs.Prelude.{◌≡◌, ◌+◌, ◌<◌, ℕ, List, [], ◌∷◌, All, Contains, length, slice_index}
use Rattle.std.specs.List.{AllZip}
use Rattle.cq_disk.specs.declared.disk.Disk.{Ghosts}
use Rattle.cq_gate.specs.Calls.{Has}
use Rattle.cq_index.specs.Codec.{Entry, IsEntry, IsPresent, entry_len}
use Rattle.cq_index.specs.Opened.{IsMisread, IsWrong, piece_at}
use Rattle.cq_index.specs.Places.{entry_at, place_of}
use Rattle.cq_index.specs.Segments.{name_of, present_of}
use Rattle.cq_index.specs.declared.segment.Segment.{Segment}

-- how many device calls the entries at these places take: one for all
abbrev pub calls_for : List ℕ → ℕ
calls_for [] = 0
calls_for (k ∷ ks) = 1

-- As many entries as the segment lists as present, in their order, each valid; where the disk tells its files, each stands at its place.
pub record AreRead {D : Type 0} (g : Ghosts D) (segment : Segment) (disk : D) (entries : List Entry) : Type 0 where
  pub len : length entries ≡ length (present_of segment)
  pub valid : All IsEntry entries
  pub stand : g.tells → AllZip (λ k e. Has g (name_of segment) disk (λ f. IsPresent (entry_at f.reads k) e)) (present_of segment) entries

-- the bytes of one of these places were read, and they aren't a present entry's, which never happens where the disk tells its files
pub record IsMisreadOf (Told : Type 0) (present : List ℕ) (place found : ℕ) : Type 0 where
  pub at : ℕ
  pub listed : Contains present at
  pub misread : IsMisread Told at place found

-- the bytes of entry `at` among these aren't a present entry's: the first byte that is wrong has this place in the file
pub record IsWrongPiece (bytes : List ℕ) (at place found : ℕ) : Type 0 where
  pub byte : ℕ
  pub inside : byte < entry_len
  pub wrong : IsWrong (piece_at bytes at) byte
  pub place_is : place ≡ place_of at + byte
  pub found_is : found ≡ slice_index (piece_at bytes at) byte

-- one of the entries at these places isn't a present one
pub record IsWrongAmong (bytes present : List ℕ) (place found : ℕ) : Type 0 where
  pub at : ℕ
  pub listed : Contains present at
  pub wrong : IsWrongPiece bytes at place found
