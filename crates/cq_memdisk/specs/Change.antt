-- What the record of a disk's changes leads to.
use Rattle.std.specs.Prelude.{◌≡◌, ◌+◌, ℕ, ◌≤◌, ◌<◌, ◌^◌, cond, List, [], ◌∷◌, length, take, get_or, nat_le, ◌&&◌, slice_index, Option, Some, None, Vec}
use Rattle.std.specs.Option.{option_map}
use Rattle.std.specs.BTreeMap.{is_at}
use Rattle.std.specs.declared.alloc.Global.{Global}
use Rattle.cq_disk.specs.declared.name.Name.{Name}
use Rattle.cq_disk.specs.Names.{name_cmp, IsInRange}
use Rattle.cq_disk.specs.File.{File, IsFileImage, overwritten, wrote, cut_to, synced_now, fresh, settled}
use Rattle.cq_disk.specs.Files.{HasFile, HasRange, IsImage}
use Rattle.cq_memdisk.specs.Folder.{IfThere}
use Rattle.cq_memdisk.specs.declared.change.Change.{Change}
use Rattle.cq_memdisk.specs.declared.change.Change.TheVariants.{Write, Cut, Sync, Create, Remove, Load}
use Rattle.cq_memdisk.specs.declared.change.Note.{Note}

-- the file after a change
abbrev pub changed : Change → Option File → Option File
changed (Write at bytes) file = option_map (wrote at bytes.items) file
changed (Cut len) file = option_map (cut_to len) file
changed Sync file = option_map synced_now file
changed Create file = Some fresh
changed Remove file = None
changed (Load bytes) file = Some (settled bytes.items)

-- what it reads after a change
abbrev pub rewritten : Change → Option (List ℕ) → Option (List ℕ)
rewritten (Write at bytes) old = option_map (λ o. overwritten o at bytes.items) old
rewritten (Cut len) old = option_map (λ o. take len o) old
rewritten Sync old = old
rewritten Create old = Some []
rewritten Remove old = None
rewritten (Load bytes) old = Some bytes.items

-- the change is one that a call may ask for
abbrev pub CanChange : Change → Option File → Type 0
CanChange (Write at bytes) file = HasRange file at 0
CanChange (Cut len) file = HasRange file len 0
CanChange Sync file = HasFile file
CanChange Create file = file ≡ None
CanChange Remove file = HasFile file
CanChange (Load bytes) file = Unit {0}

-- the place of a write isn't past the end
abbrev pub CanWrite : Change → Option (List ℕ) → Type 0
CanWrite (Write at bytes) old = IfThere old (λ o. at ≤ length o)
CanWrite change old = Unit {0}

-- what it brings are bytes
abbrev pub HasBytes : Change → Type 0
HasBytes (Write at bytes) = (i : ℕ) → slice_index bytes.items i < 256
HasBytes (Load bytes) = (i : ℕ) → slice_index bytes.items i < 256
HasBytes change = Unit {0}

-- the file that a change makes isn't too long
abbrev pub Fits : Change → Type 0
Fits (Write at bytes) = at + length bytes.items ≤ 2 ^ 62
Fits (Load bytes) = length bytes.items ≤ 2 ^ 62
Fits change = Unit {0}

-- a file after the changes of a record, in order
abbrev pub replayed : List Note → Name → Option File → Option File
replayed [] name file = file
replayed (x ∷ xs) name file = replayed xs name (cond (is_at (name_cmp x.name) name) (changed x.change file) file)

-- the files after the changes of a record
abbrev pub files_of : List Note → Name → Option File
files_of notes name = replayed notes name None

-- a file after the changes of a record that a moment has
abbrev pub replayed_by : ℕ → List Note → Name → Option File → Option File
replayed_by k [] name file = file
replayed_by k (x ∷ xs) name file = replayed_by k xs name (cond (nat_le x.from k && is_at (name_cmp x.name) name) (changed x.change file) file)

-- the files at a moment
abbrev pub files_at : List Note → ℕ → Name → Option File
files_at notes k name = replayed_by k notes name None

-- a crash at a moment from t to u could have left this image
pub record LeftBetween (notes : List Note) (since now t u : ℕ) (image : Name → Option (List ℕ)) : Type 0 where
  pub moment : ℕ
  pub from : t ≤ moment
  pub to : moment ≤ u
  pub later : since ≤ moment
  pub past : moment ≤ now
  pub shows : IsImage (files_at notes moment) image

-- what holds of each file
pub record IsSound (f : File) : Type 0 where
  pub readable : IsFileImage f f.reads
  pub whole : IsFileImage f f.synced
  pub short : length f.reads ≤ 2 ^ 62

-- the end of a write fits
abbrev pub FitsNow : Change → Type 0
FitsNow change = (at : ℕ) (bytes : Vec ℕ Global) → change ≡ Write at bytes → at + length bytes.items ≤ 2 ^ 62

-- a file that is synced is sound
abbrev pub IsSoundAt : Change → File → Type 0
IsSoundAt change f = change ≡ Sync → IsSound f

-- each write of a record fits, each file was sound before each of its changes and is now, and each has a name in range
pub record SoundHistory (notes : List Note) : Type 0 where
  pub fits : (k : ℕ) (d : Note) → k < length notes → FitsNow (get_or notes k d).change
  pub sound : (k : ℕ) (n : Name) (f : File) → files_of (take k notes) n ≡ Some f → IsSound f
  pub named : (n : Name) (f : File) → files_of notes n ≡ Some f → IsInRange n
