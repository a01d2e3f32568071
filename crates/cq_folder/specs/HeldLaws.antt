-- Laws of what files hold, as entries go and files are removed: apart from any journal, and then with one.
use Rattle.std.specs.Prelude.{◌≡◌, ℕ, true, false, List, [], ◌∷◌, ◌++◌, map, Contains, Option, Some, None}
use Rattle.cq_bytes.specs.Numbers.{contains}
use Rattle.cq_disk.specs.declared.name.Name.{Name}
use Rattle.cq_disk.specs.Call.{Image, LeavesOnly}
use Rattle.cq_disk.specs.File.{File, fresh}
use Rattle.cq_journal.specs.Lists.{HasDistinctIds, IsSublist}
use Rattle.cq_disk.specs.Files.{IsImageOf, IsImage, BecomesOrNot, Creates, Removes}
use Rattle.cq_entry.specs.declared.entry.Entry.{Entry as IndexEntry}
use Rattle.cq_small.specs.Store.{small_name}
use Rattle.cq_index.specs.Places.{index_name, entries_bytes}
use Rattle.cq_journal.specs.declared.event.Event.TheVariants.{Settled}
use Rattle.cq_journal.specs.declared.event.Entry.{Entry}
use Rattle.cq_journal.specs.declared.event.Message.{Message}
use Rattle.cq_journal.specs.History.{has_id, line, acked, settled as settled_ids}
use Rattle.cq_journal.specs.Legal.{Legal}
use Rattle.cq_rdq.specs.Records.{shared_name}
use Rattle.cq_folder.specs.Held.{HasAdded, MayHaveAdded, HasShelved, MayHaveShelved, AreReadable, HasReplaced}
use Rattle.cq_folder.specs.Folder.{Sharing, folder_of, message_in, with_shelf, with_records}
use Rattle.cq_folder.specs.Survives.{Survives}
use Rattle.cq_folder.specs.Steady.{Agrees, Steady}
use Rattle.cq_folder.specs.Standing.{Standing, IsSafe, Confirm, confirm_all}
use Rattle.cq_folder.specs.Holding.{AreNew, MayReplace, joined, HoldsSome, StillHeld, Come, IsEither, without, LosesSome, MayHaveFaded, HasFaded, AreAtPlaces, IsOver, Replaces}

-- the entry that an id is settled in a queue
abbrev pub settle_at : ℕ → ℕ → ℕ → Entry
settle_at stamp queue id = record { event = Settled queue id; stamp = stamp }

-- the journal with these, in order
abbrev pub settle_all : ℕ → ℕ → List ℕ → List Entry → List Entry
settle_all stamp queue [] past = past
settle_all stamp queue (id ∷ ids) past = settle_all stamp queue ids (settle_at stamp queue id ∷ past)

-- What holds of files at rest after a call that was made, whatever journal there is.
pub record KeepsHeld : Type 0 where
  -- a crash leaves no more than it could before
  pub no_more : (old new : Name → Option File) (sharing : Sharing) (lines : ℕ → List Message)
      → ((n : Name) (c : Option (List ℕ)) → IsImageOf (new n) c → IsImageOf (old n) c) → StillHeld old sharing lines
      → StillHeld new sharing lines
  -- a file was made, or not
  pub made : (old new : Name → Option File) (sharing : Sharing) (lines : ℕ → List Message) (name : Name)
      → old name ≡ None → BecomesOrNot name (Some fresh) old new → StillHeld old sharing lines
      → StillHeld new sharing lines
  -- records have joined a small store, entries the greatest segment of a queue
  pub records : (old new : Name → Option File) (sharing : Sharing) (lines : ℕ → List Message) (queue number : ℕ)
      (bytes : List ℕ) → AreReadable old → HasAdded (small_name queue number) bytes old new → StillHeld old sharing lines
      → StillHeld new sharing lines
  pub entries : (old new : Name → Option File) (sharing : Sharing) (lines : ℕ → List Message) (queue number : ℕ)
      (entries : List IndexEntry) (ms : List Message) → AreReadable old → HasAdded (index_name queue number)
      (entries_bytes entries) old new
      → (h : StillHeld old sharing lines) → Come (folder_of sharing h.contents) queue number entries ms
      → StillHeld new sharing (joined queue ms lines)
  -- entries have gone: exactly the messages of their ids are held no more
  pub gone : (old new : Name → Option File) (sharing : Sharing) (lines : ℕ → List Message) (queue number : ℕ)
      (at ids : List ℕ) → AreReadable old → HasFaded (index_name queue number) at old new
      → HasDistinctIds (lines queue) → (h : StillHeld old sharing lines)
      → AreAtPlaces (h.contents (index_name queue number)) at ids → StillHeld new sharing (without queue ids lines)
  -- the index, or the small store, of a segment without a present entry was removed, or not
  pub removed_index : (old new : Name → Option File) (sharing : Sharing) (lines : ℕ → List Message) (queue number : ℕ)
      → BecomesOrNot (index_name queue number) None old new → (h : StillHeld old sharing lines)
      → IsOver (h.contents (index_name queue number)) → StillHeld new sharing lines
  pub removed_small : (old new : Name → Option File) (sharing : Sharing) (lines : ℕ → List Message) (queue number : ℕ)
      → BecomesOrNot (small_name queue number) None old new → (h : StillHeld old sharing lines)
      → IsOver (h.contents (index_name queue number)) → StillHeld new sharing lines
  -- records of new messages have joined a shared file; a shared file has gone, or was replaced by one that has all that counts
  pub shelved : (old new : Name → Option File) (sharing : Sharing) (lines : ℕ → List Message) (k : ℕ)
      (records : List (List ℕ)) → AreReadable old
      → HasShelved k records old new → StillHeld old sharing lines → AreNew sharing (map message_in records)
      → StillHeld new (with_records sharing k (map message_in records)) lines
  pub replaced : (old new : Name → Option File) (sharing : Sharing) (lines : ℕ → List Message) (k : ℕ)
      (ms : List Message) → StillHeld old sharing lines → MayReplace sharing lines k ms
      → HasReplaced k ms old new → StillHeld new (with_shelf sharing k ms) lines
  -- what is held, and what survives a journal
  pub standing : (files : Name → Option File) (sharing : Sharing) (past : List Entry) (lines : ℕ → List Message)
      → Legal past → StillHeld files sharing lines → Survives past lines → Standing files sharing past lines
  pub held : (files : Name → Option File) (sharing : Sharing) (past : List Entry) (lines : ℕ → List Message)
      → Standing files sharing past lines → StillHeld files sharing lines
  pub survives : (files : Name → Option File) (sharing : Sharing) (past : List Entry) (lines : ℕ → List Message)
      → Standing files sharing past lines → Survives past lines
  pub once : (files : Name → Option File) (sharing : Sharing) (past : List Entry) (lines : ℕ → List Message)
      → Standing files sharing past lines → (q : ℕ) → HasDistinctIds (lines q)
  -- messages that come next in a queue's line
  pub come : (past : List Entry) (lines : ℕ → List Message) (queue : ℕ) (ms : List Message) → Legal past
      → IsSublist (lines queue ++ ms) (line past queue)
      → ((x : ℕ) → contains (settled_ids past queue) x ≡ true → has_id ms x ≡ false) → Survives past lines
      → Survives past (joined queue ms lines)
  -- messages that were removed from the queue
  pub lose : (past : List Entry) (old new : ℕ → List Message) (queue : ℕ) (ids : List ℕ)
      → ((x : ℕ) → contains ids x ≡ true → contains (acked past queue) x ≡ true) → LosesSome queue ids old new
      → Survives past old → Survives past new
  pub loses : (lines : ℕ → List Message) (queue : ℕ) (ids : List ℕ) → LosesSome queue ids lines (without queue ids lines)
  pub lacks : (lines : ℕ → List Message) (queue : ℕ) (ids : List ℕ) (x : ℕ) → contains ids x ≡ true
      → has_id (without queue ids lines queue) x ≡ false
  -- once all of these messages are confirmed, and all of these ids settled
  pub confirmed : (files : Name → Option File) (sharing : Sharing) (past : List Entry) (lines : ℕ → List Message)
      (stamp : ℕ) (ps : List Confirm) → ((p : Confirm) → Contains ps p → IsSafe lines past p.id)
      → Standing files sharing past lines → Standing files sharing (confirm_all stamp ps past) lines
  pub settled : (files : Name → Option File) (sharing : Sharing) (past : List Entry) (lines : ℕ → List Message)
      (stamp queue : ℕ) (ids : List ℕ) → ((x : ℕ) → contains ids x ≡ true → has_id (lines queue) x ≡ false)
      → Standing files sharing past lines → Standing files sharing (settle_all stamp queue ids past) lines

-- What every image left during a run holds, and so keeps of a journal.
pub record KeepsHeldOn {D : Type 0} (moment : D → ℕ) (left : D → ℕ → ℕ → Image → Type 0)
    (files : D → Name → Option File) : Type 0 where
  pub quiet : (old new : D) (sharing : Sharing) (lines : ℕ → List Message) → StillHeld (files old) sharing lines
      → LeavesOnly moment left old new (IsImage (files old))
      → LeavesOnly moment left old new (HoldsSome (λ l. l ≡ lines))
  pub made : (old new : D) (sharing : Sharing) (lines : ℕ → List Message) (name : Name) → files old name ≡ None
      → StillHeld (files old) sharing lines → LeavesOnly moment left old new (Creates name (files old))
      → LeavesOnly moment left old new (HoldsSome (λ l. l ≡ lines))
  pub records : (old new : D) (sharing : Sharing) (lines : ℕ → List Message) (queue number : ℕ) (bytes : List ℕ)
      → StillHeld (files old) sharing lines
      → LeavesOnly moment left old new (MayHaveAdded (small_name queue number) bytes (files old))
      → LeavesOnly moment left old new (HoldsSome (λ l. l ≡ lines))
  pub entries : (old new : D) (sharing : Sharing) (lines : ℕ → List Message) (queue number : ℕ)
      (entries : List IndexEntry) (ms : List Message) → (h : StillHeld (files old) sharing lines)
      → Come (folder_of sharing h.contents) queue number entries ms
      → LeavesOnly moment left old new (MayHaveAdded (index_name queue number) (entries_bytes entries) (files old))
      → LeavesOnly moment left old new (HoldsSome (IsEither lines queue ms))
  pub gone : (old new : D) (sharing : Sharing) (lines : ℕ → List Message) (queue number : ℕ) (at ids : List ℕ)
      → (h : StillHeld (files old) sharing lines) → AreAtPlaces (h.contents (index_name queue number)) at ids
      → LeavesOnly moment left old new (MayHaveFaded (index_name queue number) at (files old))
      → LeavesOnly moment left old new (HoldsSome (LosesSome queue ids lines))
  pub removed_index : (old new : D) (sharing : Sharing) (lines : ℕ → List Message) (queue number : ℕ)
      → (h : StillHeld (files old) sharing lines) → IsOver (h.contents (index_name queue number))
      → LeavesOnly moment left old new (Removes (index_name queue number) (files old))
      → LeavesOnly moment left old new (HoldsSome (λ l. l ≡ lines))
  pub removed_small : (old new : D) (sharing : Sharing) (lines : ℕ → List Message) (queue number : ℕ)
      → (h : StillHeld (files old) sharing lines) → IsOver (h.contents (index_name queue number))
      → LeavesOnly moment left old new (Removes (small_name queue number) (files old))
      → LeavesOnly moment left old new (HoldsSome (λ l. l ≡ lines))
  pub shelved : (old new : D) (sharing : Sharing) (lines : ℕ → List Message) (k : ℕ) (records : List (List ℕ))
      → StillHeld (files old) sharing lines → AreNew sharing (map message_in records)
      → LeavesOnly moment left old new (MayHaveShelved k records (files old))
      → LeavesOnly moment left old new (HoldsSome (λ l. l ≡ lines))
  pub replaced : (old new : D) (sharing : Sharing) (lines : ℕ → List Message) (k : ℕ)
      → StillHeld (files old) sharing lines → LeavesOnly moment left old new (Replaces sharing lines k (files old))
      → LeavesOnly moment left old new (HoldsSome (λ l. l ≡ lines))
  pub removed : (old new : D) (sharing : Sharing) (lines : ℕ → List Message) (k : ℕ)
      → StillHeld (files old) sharing lines → MayReplace sharing lines k []
      → LeavesOnly moment left old new (Removes (shared_name k) (files old))
      → LeavesOnly moment left old new (HoldsSome (λ l. l ≡ lines))
  -- So every image agrees with a journal: where what was held survives, and so does what comes; and where what leaves
  -- was removed.
  pub keeps : (old new : D) (past : List Entry) (lines : ℕ → List Message) → Legal past → Survives past lines
      → LeavesOnly moment left old new (HoldsSome (λ l. l ≡ lines))
      → LeavesOnly moment left old new (λ image. Agrees image past)
  pub comes : (old new : D) (past : List Entry) (lines : ℕ → List Message) (queue : ℕ) (ms : List Message) → Legal past
      → Survives past lines → Survives past (joined queue ms lines)
      → LeavesOnly moment left old new (HoldsSome (IsEither lines queue ms))
      → LeavesOnly moment left old new (λ image. Agrees image past)
  pub loses : (old new : D) (past : List Entry) (lines : ℕ → List Message) (queue : ℕ) (ids : List ℕ) → Legal past
      → Survives past lines → ((x : ℕ) → contains ids x ≡ true → contains (acked past queue) x ≡ true)
      → LeavesOnly moment left old new (HoldsSome (LosesSome queue ids lines))
      → LeavesOnly moment left old new (λ image. Agrees image past)
  -- Settling: entries of removed messages go, and then each is settled. Where the run ends with a fault, `gone` and
  -- `agrees` alone hold.
  pub settle : (old new : D) (sharing : Sharing) (past : List Entry) (lines : ℕ → List Message) (queue : ℕ)
      (ids : List ℕ) → Legal past → Standing (files old) sharing past lines
      → ((x : ℕ) → contains ids x ≡ true → contains (acked past queue) x ≡ true)
      → LeavesOnly moment left old new (HoldsSome (LosesSome queue ids lines))
      → StillHeld (files new) sharing (without queue ids lines) → Steady (left old) (moment old) past
      → Steady (left new) (moment new) (settle_all (moment new) queue ids past)
