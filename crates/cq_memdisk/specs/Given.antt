-- What a disk for tests gives back of a file's bytes.
use Rattle.std.specs.Prelude.{◌≡◌, ℕ, ◌+◌, ◌%◌, ◌<◌, List, length, slice_index, Option}
use Rattle.cq_disk.specs.declared.name.Kind.{Kind}
use Rattle.cq_disk.specs.declared.name.Kind.TheVariants.{Index, Small, Shared}
use Rattle.cq_disk.specs.File.{File}
use Rattle.cq_disk.specs.Files.{Among}

-- a byte as it is given: that of an index as it is, another one higher, 255 as 0
abbrev pub given : Kind → ℕ → ℕ
given Index byte = byte
given Small byte = (byte + 1) % 256
given Shared byte = (byte + 1) % 256

-- the file's bytes from a place on, as they are given
abbrev pub GivesAltered : Kind → Option File → ℕ → List ℕ → Type 0
GivesAltered kind file at got = Among file (λ f. (i : ℕ) → i < length got → slice_index got i ≡ given kind (slice_index f.reads (at + i)))
