-- Laws of what a crash leaves: over all images and journals, and over all runs of a disk.
use Rattle.cq_entry.specs.declared.entry.EntryKind.TheVariants.{Shared as SharedEntry}
use Rattle.cq_folder.specs.Holding.{joined, AreNew, MayReplace, Replaces}
use Rattle.cq_journal.specs.Lists.{IsIn, HasDistinctIds}
use Rattle.std.specs.Prelude.{◌≡◌, ◌≢◌, ℕ, false, List, [], ◌∷◌, ◌++◌, Contains, Option, Some, None, map, length, true}
use Rattle.cq_disk.specs.declared.name.Name.{Name}
use Rattle.cq_disk.specs.Call.{Image, LeavesOnly}
use Rattle.cq_disk.specs.File.{File, fresh, settled}
use Rattle.cq_disk.specs.Files.{IsImageOf, IsImage, BecomesOrNot, Creates, Removes}
use Rattle.cq_gate.specs.Format.{content}
use Rattle.cq_gate.specs.Gated.{Step}
use Rattle.cq_entry.specs.declared.entry.Entry.{Entry as IndexEntry}
use Rattle.cq_entry.specs.declared.entry.EntryKind.{EntryKind}
use Rattle.cq_entry.specs.declared.entry.Seen.{Seen}
use Rattle.cq_small.specs.Store.{small_name}
use Rattle.cq_index.specs.Places.{index_name, entries_bytes}
use Rattle.cq_journal.specs.declared.event.Event.TheVariants.{Opened, Settled}
use Rattle.cq_journal.specs.declared.event.Entry.{Entry}
use Rattle.cq_journal.specs.declared.event.Message.{Message}
use Rattle.cq_journal.specs.declared.lines.Line.{Line}
use Rattle.cq_journal.specs.History.{has_id, opened_in}
use Rattle.cq_journal.specs.Legal.{AreLines, Legal}
use Rattle.cq_rdq.specs.Records.{shared_name}
use Rattle.cq_folder.specs.Held.{as_read, contents_of, Held, IsFormedAs, Still, IsSettled, HasAdded, MayHaveAdded, HasShelved, MayHaveShelved, AreReadable, HasReplaced}
use Rattle.cq_folder.specs.Folder.{AreEntries, present, Spot, message_in, Folder, Sharing, sharing_of, folder_of, HasShelf, AreApart, IsMessageOf, Holds, with_shelf, with_records}
use Rattle.cq_folder.specs.Survives.{Survives}
use Rattle.cq_folder.specs.Steady.{SoundBy, Sound, Agrees, Steady}
use Rattle.cq_folder.specs.Standing.{StillSound, Standing, ComeNext, IsSafe, Confirm, confirm_at, confirm_all, IsQuiet}

-- some lists are held, and no others
pub record HoldsOnce (image : Image) : Type 0 where
  pub some : ∥ ((lines : ℕ → List Message) × Held image lines) ∥₁
  pub one : (a b : ℕ → List Message) → Held image a → Held image b → (q : ℕ) → a q ≡ b q

-- a sound image holds exactly one list for each queue
abbrev pub SoundHoldsOnce : Type 0
SoundHoldsOnce = (image : Image) → Sound image → HoldsOnce image

-- an image that agrees with a journal is sound
abbrev pub AgreesIsSound : Type 0
AgreesIsSound = (image : Image) (past : List Entry) → Agrees image past → Sound image

-- What an image that agrees with a journal holds survives the journal: so does what an opening finds there.
abbrev pub AgreesSurvives : Type 0
AgreesSurvives = (image : Image) (past : List Entry) (lines : ℕ → List Message) → Agrees image past → Held image lines
    → ∥ Survives past lines ∥₁

-- each present entry is that of a message which is held
abbrev pub EntriesAreHeld : Type 0
EntriesAreHeld = (image : Image) (lines : ℕ → List Message) (q n : ℕ) (seen : List Seen) (e : IndexEntry)
    (h : Held image lines) → AreEntries (contents_of image (index_name q n)) seen → IsIn (present seen) e
    → (m : Message) × (IsIn (lines q) m × IsMessageOf h.folder q (record { segment = n; entry = e }) m)

-- a present entry of this message
pub record EntryOf (folder : Folder) (q : ℕ) (m : Message) : Type 0 where
  pub spot : Spot
  pub seen : List Seen
  pub are : AreEntries (folder.contents (index_name q spot.segment)) seen
  pub there : IsIn (present seen) spot.entry
  pub is : IsMessageOf folder q spot m

-- each message that is held has one
abbrev pub HeldHaveEntries : Type 0
HeldHaveEntries = (image : Image) (lines : ℕ → List Message) (q : ℕ) (m : Message) (h : Held image lines)
    → IsIn (lines q) m → EntryOf h.folder q m

-- the record of a present shared entry: it stands in a shared file, with the entry's id and length
pub record RecordOf (image : Image) (e : IndexEntry) : Type 0 where
  pub file : ℕ
  pub messages : List Message
  pub shelf : HasShelf (image (shared_name file)) messages
  pub message : Message
  pub there : IsIn messages message
  pub id : message.id ≡ e.id
  pub len : length message.body ≡ e.len

-- Each present shared entry has its record, and no id has two.
pub record HasRecordsOnce (image : Image) : Type 0 where
  pub there : (q n : ℕ) (seen : List Seen) (e : IndexEntry) → AreEntries (contents_of image (index_name q n)) seen
      → IsIn (present seen) e → e.kind ≡ SharedEntry → RecordOf image e
  pub once : (k : ℕ) (ms : List Message) → HasShelf (image (shared_name k)) ms → HasDistinctIds ms
  pub apart : (j k : ℕ) (a b : List Message) (x : ℕ) → HasShelf (image (shared_name j)) a
      → HasShelf (image (shared_name k)) b → has_id a x ≡ true → has_id b x ≡ true → j ≡ k

-- So it is where messages are held: an entry without its record, one of another length, and an id with two records make
-- an image unsound.
abbrev pub HeldHaveRecords : Type 0
HeldHaveRecords = (image : Image) (lines : ℕ → List Message) → Held image lines → HasRecordsOnce image

-- The one law on shared files, over whole images: where one shared file is replaced by another of its form, or is
-- removed, and nothing that counts is lost, the image agrees with what it agreed with, and holds the same messages.
abbrev pub ReplacesOne : Type 0
ReplacesOne = (image image' : Image) (k : ℕ) (ms : List Message) (lines : ℕ → List Message)
    → ((n : Name) → n ≢ shared_name k → image' n ≡ image n) → IsFormedAs (shared_name k) (image' (shared_name k))
    → HasShelf (image' (shared_name k)) ms
    → (s : SoundBy image lines) → MayReplace (sharing_of s.held.folder) lines k ms → SoundBy image' lines

-- the entry of an opening that found these messages
abbrev pub opening : ℕ → List Line → Entry
opening stamp lines = record { event = Opened lines; stamp = stamp }

-- What holds of files at rest after an opening, a call that was made, and an entry.
pub record KeepsStanding : Type 0 where
  -- an opening that found what the files hold; files that aren't there hold nothing
  pub opened : (files : Name → Option File) (folder : Folder) (stamp : ℕ) (ls : List Line) → Still files folder
      → Holds folder (λ q. opened_in q ls) → AreApart folder.shelves → AreLines ls → Standing files (sharing_of folder)
      (opening stamp ls ∷ []) (λ q. opened_in q ls)
  pub empty : (files : Name → Option File) (kinds : Message → EntryKind) (stamp : ℕ) → ((n : Name) → files n ≡ None)
      → Standing files (record { shelves = λ k. []; kinds = kinds }) (opening stamp [] ∷ []) (λ q. [])
  -- Files that are all on the disk leave only what they read; and what a crash leaves of files that still hold some
  -- messages holds them.
  pub at_rest : (files : Name → Option File) (lines : ℕ → List Message) → ((n : Name) → IsSettled (files n))
      → SoundBy (as_read files) lines → StillSound files lines
  pub holding : (files : Name → Option File) (lines : ℕ → List Message) → StillSound files lines → (image : Image)
      → IsImage files image → SoundBy image lines
  -- every image that a crash may leave now is sound, and holds these messages
  pub sound : (files : Name → Option File) (sharing : Sharing) (past : List Entry) (lines : ℕ → List Message)
      → Standing files sharing past lines → (image : Image) → IsImage files image → SoundBy image lines
  -- a crash leaves no more than it could before
  pub no_more : (old new : Name → Option File) (sharing : Sharing) (past : List Entry) (lines : ℕ → List Message)
      → ((n : Name) (c : Option (List ℕ)) → IsImageOf (new n) c → IsImageOf (old n) c) → Standing old sharing past lines
      → Standing new sharing past lines
  -- a file was made, or not
  pub made : (old new : Name → Option File) (sharing : Sharing) (past : List Entry) (lines : ℕ → List Message)
      (name : Name) → old name ≡ None → BecomesOrNot name (Some fresh) old new → Standing old sharing past lines
      → Standing new sharing past lines
  -- records have joined a small store, and entries the greatest segment of a queue
  pub records : (old new : Name → Option File) (sharing : Sharing) (past : List Entry) (lines : ℕ → List Message)
      (queue number : ℕ) (bytes : List ℕ) → AreReadable old
      → HasAdded (small_name queue number) bytes old new → Standing old sharing past lines
      → Standing new sharing past lines
  pub entries : (old new : Name → Option File) (sharing : Sharing) (past : List Entry) (lines : ℕ → List Message)
      (queue number : ℕ) (entries : List IndexEntry) (ms : List Message) → AreReadable old → Legal past
      → HasAdded (index_name queue number) (entries_bytes entries) old new → (s : Standing old sharing past lines)
      → ComeNext (folder_of sharing s.contents) past lines queue number entries ms
      → Standing new sharing past (joined queue ms lines)
  -- records of new messages have joined a shared file
  pub shelved : (old new : Name → Option File) (sharing : Sharing) (past : List Entry) (lines : ℕ → List Message) (k : ℕ)
      (records : List (List ℕ)) → AreReadable old
      → HasShelved k records old new → (s : Standing old sharing past lines) → AreNew sharing (map message_in records)
      → Standing new (with_records sharing k (map message_in records)) past lines
  -- a shared file has gone, or was replaced by one that has all that counts
  pub replaced : (old new : Name → Option File) (sharing : Sharing) (past : List Entry) (lines : ℕ → List Message)
      (k : ℕ) (ms : List Message) → (s : Standing old sharing past lines) → MayReplace sharing lines k ms
      → HasReplaced k ms old new → Standing new (with_shelf sharing k ms) past lines
  -- a message that is safe is confirmed; a safe message stays safe
  pub confirmed : (files : Name → Option File) (sharing : Sharing) (past : List Entry) (lines : ℕ → List Message)
      (stamp : ℕ) (p : Confirm) → IsSafe lines past p.id → Standing files sharing past lines
      → Standing files sharing (confirm_at stamp p ∷ past) lines
  pub safe : (past : List Entry) (lines : ℕ → List Message) (stamp : ℕ) (p : Confirm) (id : ℕ) → IsSafe lines past id
      → IsSafe lines (confirm_at stamp p ∷ past) id
  -- a message that is held no more is settled
  pub settled : (files : Name → Option File) (sharing : Sharing) (past : List Entry) (lines : ℕ → List Message)
      (stamp queue id : ℕ) → has_id (lines queue) id ≡ false → Standing files sharing past lines
      → Standing files sharing (record { event = Settled queue id; stamp = stamp } ∷ past) lines
  -- an entry that confirms and settles nothing
  pub quiet : (files : Name → Option File) (sharing : Sharing) (past : List Entry) (lines : ℕ → List Message) (e : Entry)
      → Legal (e ∷ past) → IsQuiet e.event → Standing files sharing past lines → Standing files sharing (e ∷ past) lines

-- What keeps a journal steady on a disk: whatever a call answers, and an entry at the disk's moment.
pub record KeepsSteady {D : Type 0} (moment : D → ℕ) (left : D → ℕ → ℕ → Image → Type 0)
    (files : D → Name → Option File) : Type 0 where
  -- the opening
  pub opened : (disk : D) (sharing : Sharing) (lines : ℕ → List Message) (ls : List Line)
      → Standing (files disk) sharing (opening (moment disk) ls ∷ []) lines → Steady (left disk) (moment disk)
      (opening (moment disk) ls ∷ [])
  -- calls that leave no more than there was, also where the files aren't at rest
  pub no_more : (old new : D) (past : List Entry) → LeavesOnly moment left old new (IsImage (files old))
      → Steady (left old) (moment old) past → Steady (left new) (moment new) past
  -- a file is made
  pub made : (old new : D) (sharing : Sharing) (past : List Entry) (lines : ℕ → List Message) (name : Name)
      → files old name ≡ None → Standing (files old) sharing past lines
      → LeavesOnly moment left old new (Creates name (files old)) → Steady (left old) (moment old) past
      → Steady (left new) (moment new) past
  -- Records join a small store: every image that may be left meanwhile agrees with the journal.
  pub records : (old new : D) (sharing : Sharing) (past : List Entry) (lines : ℕ → List Message) (queue number : ℕ)
      (bytes : List ℕ) → Standing (files old) sharing past lines
      → LeavesOnly moment left old new (MayHaveAdded (small_name queue number) bytes (files old))
      → LeavesOnly moment left old new (λ image. Agrees image past)
  -- Entries join the greatest segment of a queue: the same.
  pub entries : (old new : D) (sharing : Sharing) (past : List Entry) (lines : ℕ → List Message) (queue number : ℕ)
      (entries : List IndexEntry) (ms : List Message) → Legal past → (s : Standing (files old) sharing past lines)
      → ComeNext (folder_of sharing s.contents) past lines queue number entries ms
      → LeavesOnly moment left old new (MayHaveAdded (index_name queue number) (entries_bytes entries) (files old))
      → LeavesOnly moment left old new (λ image. Agrees image past)
  -- Records of new messages join a shared file: the same.
  pub shelved : (old new : D) (sharing : Sharing) (past : List Entry) (lines : ℕ → List Message) (k : ℕ)
      (records : List (List ℕ)) → (s : Standing (files old) sharing past lines) → AreNew sharing (map message_in records)
      → LeavesOnly moment left old new (MayHaveShelved k records (files old))
      → LeavesOnly moment left old new (λ image. Agrees image past)
  -- A shared file is replaced by one that has all that counts: the same. So it is where it goes and no present entry
  -- names one of its records.
  pub replaced : (old new : D) (sharing : Sharing) (past : List Entry) (lines : ℕ → List Message) (k : ℕ)
      → Standing (files old) sharing past lines
      → LeavesOnly moment left old new (Replaces sharing lines k (files old))
      → LeavesOnly moment left old new (λ image. Agrees image past)
  pub removed : (old new : D) (sharing : Sharing) (past : List Entry) (lines : ℕ → List Message) (k : ℕ)
      → (s : Standing (files old) sharing past lines) → MayReplace sharing lines k []
      → LeavesOnly moment left old new (Removes (shared_name k) (files old))
      → LeavesOnly moment left old new (λ image. Agrees image past)
  -- while every image agrees, the journal stays steady
  pub agreeing : (old new : D) (past : List Entry) → LeavesOnly moment left old new (λ image. Agrees image past)
      → Steady (left old) (moment old) past → Steady (left new) (moment new) past
  -- a run that may have added bytes to a file has added them, where the file as it reads has them and all of it is on the disk
  pub added : (old new : D) (name : Name) (bytes : List ℕ)
      → LeavesOnly moment left old new (MayHaveAdded name bytes (files old)) → Step (files old name) (files new name)
      (λ f g. content g.reads ≡ content f.reads ++ bytes) → Step (files old name) (files new name)
      (λ f g. g ≡ settled g.reads)
      → ((n : Name) → n ≢ name → files new n ≡ files old n) → HasAdded name bytes (files old) (files new)
  -- an entry that leaves the files at rest standing
  pub pushed : (disk : D) (sharing : Sharing) (past : List Entry) (lines : ℕ → List Message) (e : Entry)
      → e.stamp ≡ moment disk → Standing (files disk) sharing (e ∷ past) lines → Steady (left disk) (moment disk) past
      → Steady (left disk) (moment disk) (e ∷ past)
  -- after their records and entries messages are confirmed
  pub confirmed : (disk : D) (sharing : Sharing) (past : List Entry) (lines : ℕ → List Message) (ps : List Confirm)
      → ((p : Confirm) → Contains ps p → IsSafe lines past p.id) → Standing (files disk) sharing past lines
      → Steady (left disk) (moment disk) past
      → Steady (left disk) (moment disk) (confirm_all (moment disk) ps past)
  -- an entry that confirms and settles nothing, also where the files aren't at rest
  pub quiet : (disk : D) (past : List Entry) (e : Entry) → Legal (e ∷ past) → e.stamp ≡ moment disk → IsQuiet e.event
      → Steady (left disk) (moment disk) past → Steady (left disk) (moment disk) (e ∷ past)
  -- every image of the files as they are agrees with the journal
  pub agrees_now : (disk : D) (past : List Entry) (e : Entry) (image : Image) → Steady (left disk) (moment disk)
      (e ∷ past) → IsImage (files disk) image → Agrees image (e ∷ past)
  -- A commit: records join a small store, then their entries the index, then each message is confirmed. Where one of the
  -- two runs ends with a fault, `records` and `entries` alone hold.
  pub commit : (old mid new : D) (sharing : Sharing) (past : List Entry) (lines : ℕ → List Message) (queue number : ℕ)
      (bytes : List ℕ) (entries : List IndexEntry) (ms : List Message) (ps : List Confirm) → Legal past
      → Standing (files old) sharing past lines
      → LeavesOnly moment left old mid (MayHaveAdded (small_name queue number) bytes (files old))
      → HasAdded (small_name queue number) bytes (files old) (files mid)
      → ((contents : Name → List ℕ) → Still (files mid) (folder_of sharing contents) → ComeNext (folder_of sharing contents) past lines queue number entries ms)
      → LeavesOnly moment left mid new (MayHaveAdded (index_name queue number) (entries_bytes entries) (files mid))
      → HasAdded (index_name queue number) (entries_bytes entries) (files mid) (files new)
      → ((p : Confirm) → Contains ps p → IsSafe (joined queue ms lines) past p.id)
      → Steady (left old) (moment old) past → Steady (left new) (moment new) (confirm_all (moment new) ps past)
