-- What the opening of a folder says.
use Rattle.std.specs.Prelude.{◌≡◌, ℕ, ◌+◌, ◌*◌, ◌≤◌, List, length, None}
use Rattle.std.specs.List.{AllByRecursion}
use Rattle.cq_disk.specs.declared.disk.Disk.{Ghosts}
use Rattle.cq_disk.specs.declared.name.Name.{Name}
use Rattle.cq_disk.specs.Files.{IsImage, IsThere}
use Rattle.cq_disk.specs.Run.{LeavesOnly}
use Rattle.cq_small.specs.Store.{name_of as store_name, len_of as store_len, IsOpen as IsStoreOpen, IsSmallStore}
use Rattle.cq_index.specs.Codec.{entry_len, most_entries}
use Rattle.cq_index.specs.Segments.{name_of, count_of, len_of, IsOpen, IsSegment}
use Rattle.cq_journal.specs.declared.event.Message.{Message}
use Rattle.cq_journal.specs.History.{opened_in}
use Rattle.cq_journal.specs.Legal.{AreLines}
use Rattle.cq_folder.specs.Held.{as_read, contents_of, IsSettled}
use Rattle.cq_folder.specs.Standing.{StillSound}
use Rattle.cq_folder.specs.Steady.{IsUnsound, SoundBy}
use Rattle.cq_back.specs.declared.error.BackError.{BackError}
use Rattle.cq_back.specs.declared.error.BackError.TheVariants.{Fault}
use Rattle.cq_back.specs.declared.found.FoundQueue.{FoundQueue}
use Rattle.cq_back.specs.Folder.{index_file, small_file, IsOneQueue, HasNoShared, ReadsSame, IsImageOrWithout}
use Rattle.cq_back.specs.Cause.{HasCause}
use Rattle.cq_back.specs.Found.{BreaksFolder}
use Rattle.cq_back.specs.Read.{AreHeld, AreMatched, IfDamaged}

-- In a folder with no other file, the files held exactly these messages of each queue, in order, each with its entry; they still do, in whatever a crash leaves.
pub record FindsMessages {D : Type 0} (g : Ghosts D) (old new : D) (found : FoundQueue) : Type 0 where
  pub ok : g.tells → IsOneQueue (g.files old) → SoundBy (as_read (g.files old)) (λ q. opened_in q found.lines)
  pub now : g.tells → IsOneQueue (g.files old) → StillSound (g.files new) (λ q. opened_in q found.lines)
  pub held : g.tells → AreHeld (as_read (g.files old)) found.held.items found.lines
  pub held_now : g.tells → AreHeld (as_read (g.files new)) found.held.items found.lines

-- The lines and their entries match, are of queue 0, and keep the limits; each record lies within the small store.
pub record FoundLines (found : FoundQueue) : Type 0 where
  pub lines : AreLines found.lines
  pub one_queue : AllByRecursion (λ l. l.queue ≡ 0) found.lines
  pub matched : AreMatched found.held.items found.lines
  pub short : AllByRecursion (λ l. length l.body ≤ 1048576) found.lines
  pub within : AllByRecursion (λ h. h.entry.place + h.entry.len + 5 ≤ store_len found.small) found.held.items
  pub few_held : length found.held.items ≤ most_entries
  pub few : count_of found.segment ≤ most_entries

-- The two files are known and nothing waits for a sync; where one has no header, no crash can leave more of it.
pub record FindsFiles {D : Type 0} (g : Ghosts D) (old new : D) (found : FoundQueue) : Type 0 where
  pub settled : g.tells → (n : Name) → IsSettled (g.files new n)
  pub name : name_of found.segment ≡ index_file
  pub small_name : store_name found.small ≡ small_file
  pub count : g.tells → length (contents_of (as_read (g.files old)) index_file) ≡ entry_len * count_of found.segment
  pub segment : g.tells → IsSegment found.segment (g.files new index_file)
  pub small : g.tells → IsSmallStore found.small (g.files new small_file)
  pub bare_index : g.tells → IsOpen found.segment → len_of found.segment ≤ 128 → IsThere (g.files new index_file) (λ f. f.most ≤ 128)
  pub bare_small : g.tells → IsStoreOpen found.small → store_len found.small ≤ 128 → IsThere (g.files new small_file) (λ f. f.most ≤ 128)

-- `Damaged` tells bytes that were read and break a rule, the first one that the folder breaks, and then it isn't sound, if no shared file is there. Without a fault only syncs and reads were done, and of a folder that isn't sound also with one.
pub record Refuses {D : Type 0} (g : Ghosts D) (old new : D) (error : BackError) : Type 0 where
  pub damaged : IfDamaged error (λ name place found. g.tells → BreaksFolder (as_read (g.files old)) name place found)
  pub cause : IfDamaged error HasCause
  pub refuses : IfDamaged error (λ name place found. g.tells → HasNoShared (g.files old) → IsUnsound (as_read (g.files old)))
  pub reads : g.tells → (error ≡ Fault → ⊥) → ReadsSame (g.files old) (g.files new)
  pub only_reads : g.tells → (error ≡ Fault → ⊥) → LeavesOnly g old new (IsImage (g.files old))
  pub unsound : g.tells → IsOneQueue (g.files old) → IsUnsound (as_read (g.files old)) → LeavesOnly g old new (IsImage (g.files old))

-- Whichever the answer: no file is new, a crash at any moment leaves what it could have left before, with the small store that was to be removed or without, and what that held it holds.
pub record KeepsFolder {D : Type 0} (g : Ghosts D) (old new : D) : Type 0 where
  pub no_new : g.tells → (n : Name) → g.files old n ≡ None → g.files new n ≡ None
  pub any_moment : g.tells → LeavesOnly g old new (IsImageOrWithout (g.files old))
  pub meanwhile : g.tells → (lines : ℕ → List Message) → StillSound (g.files old) lines → LeavesOnly g old new (λ image. SoundBy image lines)
