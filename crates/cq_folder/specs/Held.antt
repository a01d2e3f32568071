-- What a folder has: of an image, of every image that a crash may leave now, and as bytes or records join a file.
use Rattle.std.specs.Prelude.{◌≡◌, ◌≢◌, ℕ, List, ◌++◌, Option, Some, None, []}
use Rattle.cq_disk.specs.declared.name.Name.{Name}
use Rattle.cq_disk.specs.Call.{Image}
use Rattle.cq_disk.specs.File.{File, settled, IsFileImage}
use Rattle.cq_folder.specs.Folder.{HasShelf, Folder, Holds, AreApart}
use Rattle.cq_disk.specs.Files.{IsImageOf, OnFile}
use Rattle.cq_gate.specs.Format.{kind_byte, content, IsGated}
use Rattle.cq_gate.specs.Gated.{KeepsOrAdds, From, Step}
use Rattle.cq_disk.specs.declared.name.Kind.TheVariants.{Shared}
use Rattle.cq_journal.specs.declared.event.Message.{Message}
use Rattle.cq_rdq.specs.Records.{shared_name, KeepsOrShelves, Shelves}

-- the bytes of a file as it reads
abbrev pub bytes_in : Option File → Option (List ℕ)
bytes_in None = None
bytes_in (Some f) = Some f.reads

-- the files as they read
abbrev pub as_read : (Name → Option File) → Image
as_read files name = bytes_in (files name)

-- the content of a gated file, and none where it isn't there
abbrev pub content_of : Option (List ℕ) → List ℕ
content_of None = []
content_of (Some file) = content file

-- the content of each file
abbrev pub contents_of : Image → Name → List ℕ
contents_of image name = content_of (image name)

-- a file that is there is bare, or of the form of its kind
abbrev pub IsFormedAs : Name → Option (List ℕ) → Type 0
IsFormedAs name None = Unit {0}
IsFormedAs name (Some file) = IsGated (kind_byte name.kind) file

-- The file of this name is of its form, and has what the folder says: its content, or, of a shared file, its records.
pub record IsShown (folder : Folder) (name : Name) (file : Option (List ℕ)) : Type 0 where
  pub formed : IsFormedAs name file
  pub content : name.kind ≢ Shared → content_of file ≡ folder.contents name
  pub shelf : (k : ℕ) → name ≡ shared_name k → HasShelf file (folder.shelves k)

-- each file of the image has what the folder says
pub record Shows (image : Image) (folder : Folder) : Type 0 where
  pub each : (n : Name) → IsShown folder n (image n)

-- whatever a crash leaves now, each file has what the folder says
pub record Still (files : Name → Option File) (folder : Folder) : Type 0 where
  pub each : (n : Name) (c : Option (List ℕ)) → IsImageOf (files n) c → IsShown folder n c

-- The files hold these messages of each queue, in order, and no others; no id has two records in shared files.
pub record Held (image : Image) (lines : ℕ → List Message) : Type 0 where
  pub folder : Folder
  pub shows : Shows image folder
  pub holds : Holds folder lines
  pub apart : AreApart folder.shelves

-- a file that is there is all on the disk
abbrev pub IsSettled : Option File → Type 0
IsSettled slot = (f : File) → slot ≡ Some f → f ≡ settled f.reads

-- what each file reads is among what a crash may leave of it
abbrev pub AreReadable : (Name → Option File) → Type 0
AreReadable files = (n : Name) (f : File) → files n ≡ Some f → IsFileImage f f.reads

-- the bytes have joined the content of a file, which is of its form and all on the disk; each other file is as it was
pub record HasAdded (name : Name) (bytes : List ℕ) (old new : Name → Option File) : Type 0 where
  pub this : Step (old name) (new name)
      (λ f g. IsGated (kind_byte name.kind) g.reads × (content g.reads ≡ content f.reads ++ bytes) × (g ≡ settled g.reads))
  pub others : (n : Name) → n ≢ name → new n ≡ old n

-- in what a crash leaves, the bytes have joined the content of this file, or not; each other is as it might have been
-- left at the start
abbrev pub MayHaveAdded : Name → List ℕ → (Name → Option File) → Image → Type 0
MayHaveAdded name bytes files image = OnFile name files (From (files name) (KeepsOrAdds (kind_byte name.kind) bytes)) image

-- these records have joined those of a shared file, which is all on the disk; each other file is as it was
pub record HasShelved (k : ℕ) (records : List (List ℕ)) (old new : Name → Option File) : Type 0 where
  pub this : Step (old (shared_name k)) (new (shared_name k)) (Shelves records)
  pub others : (n : Name) → n ≢ shared_name k → new n ≡ old n

-- in what a crash leaves, these records have joined those of this shared file, or not; each other file is as it might
-- have been left at the start
abbrev pub MayHaveShelved : ℕ → List (List ℕ) → (Name → Option File) → Image → Type 0
MayHaveShelved k records files image = OnFile (shared_name k) files (From (files (shared_name k)) (KeepsOrShelves records)) image

-- whatever a crash leaves now of a shared file has the records of these messages; each other file is as it was
pub record HasReplaced (k : ℕ) (ms : List Message) (old new : Name → Option File) : Type 0 where
  pub this : (c : Option (List ℕ)) → IsImageOf (new (shared_name k)) c → IsFormedAs (shared_name k) c × HasShelf c ms
  pub others : (n : Name) → n ≢ shared_name k → new n ≡ old n
