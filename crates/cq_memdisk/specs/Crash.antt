-- The images that a crash leaves, by their number.
use Rattle.std.specs.Prelude.{◌≡◌, ◌≢◌, ℕ, ◌-◌, ◌/◌, ◌%◌, ◌^◌, ◌≤◌, ◌<◌, List, length, slice_index, slice_index_or, Option, None, ◌↔◌}
use Rattle.std.specs.Option.{option_map}
use Rattle.cq_disk.specs.declared.name.Name.{Name}
use Rattle.cq_disk.specs.File.{File, IsWritten, settled}
use Rattle.cq_disk.specs.Files.{Among}
use Rattle.cq_disk.specs.Call.{Image}

-- it has the largest length, and each byte that waits for a sync is this one
pub record IsFilled (byte : ℕ) (f : File) (c : List ℕ) : Type 0 where
  pub len : length c ≡ f.most
  pub written : (i : ℕ) → i < f.least → IsWritten f.written i → slice_index c i ≡ byte
  pub behind : (i : ℕ) → f.least ≤ i → i < f.most → slice_index c i ≡ byte
  pub kept : (i : ℕ) → i < f.least → (IsWritten f.written i → ⊥) → slice_index c i ≡ slice_index f.synced i

-- bit `place` modulo 32 of a number
abbrev pub bit_of : ℕ → ℕ → ℕ
bit_of mask place = mask / 2 ^ (place % 32) % 2

-- Image n of the file at this place in the order of names. 0: what is on the disk. 1: as it reads. 2 to 257: the largest length, with n - 2 for each byte that waits for a sync. From 258 on by the bit of n - 258: as it reads where it is 1, and else what is on the disk.
pub record IsNumbered (n place : ℕ) (f : File) (c : List ℕ) : Type 0 where
  pub on_disk : n ≡ 0 → c ≡ f.synced
  pub as_read : n ≡ 1 → c ≡ f.reads
  pub filled : 2 ≤ n → n < 258 → IsFilled (n - 2) f c
  pub chosen : 258 ≤ n → bit_of (n - 258) place ≡ 1 → c ≡ f.reads
  pub left_out : 258 ≤ n → bit_of (n - 258) place ≢ 1 → c ≡ f.synced

-- each of the files with these names has become its image n, with nothing that waits for a sync, and no other is there
pub record Crashed (n : ℕ) (names : List Name) (old new : Name → Option File) : Type 0 where
  pub each : (k : ℕ) (name : Name) → k < length names → slice_index_or names k name ≡ name → Among (old name) (λ f. Among (new name) (λ g. (g ≡ settled g.reads) × IsNumbered n k f g.reads))
  pub none : (name : Name) → old name ≡ None → new name ≡ None

-- a crash may have left the same
abbrev pub SameLeft : (ℕ → ℕ → Image → Type 0) → (ℕ → ℕ → Image → Type 0) → Type 0
SameLeft old new = (t u : ℕ) (image : Image) → old t u image ↔ new t u image

-- what a crash before this moment may have left is the same
abbrev pub SameLeftBefore : ℕ → (ℕ → ℕ → Image → Type 0) → (ℕ → ℕ → Image → Type 0) → Type 0
SameLeftBefore now old new = (t u : ℕ) (image : Image) → u < now → old t u image ↔ new t u image

-- the bytes of files as they read
abbrev pub image_of : (Name → Option File) → Name → Option (List ℕ)
image_of files name = option_map (λ f. f.reads) (files name)

-- in the record's files this one has become its image n, and the others are as they were
pub record BecameImage (n place : ℕ) (name : Name) (was old new : Name → Option File) : Type 0 where
  pub this : Among (was name) (λ f. Among (new name) (λ g. (g ≡ settled g.reads) × IsNumbered n place f g.reads))
  pub others : (m : Name) → m ≢ name → new m ≡ old m

-- the first k of these names have become their images, and no other file is there
pub record CrashedFirst (n k : ℕ) (names : List Name) (was new : Name → Option File) : Type 0 where
  pub each : (j : ℕ) (name : Name) → j < k → slice_index_or names j name ≡ name → Among (was name) (λ f. Among (new name) (λ g. (g ≡ settled g.reads) × IsNumbered n j f g.reads))
  pub none : (name : Name) → ((j : ℕ) → j < k → slice_index_or names j name ≡ name → ⊥) → new name ≡ None
