-- How a commit lays out messages: the records of the small ones and the entries of all, one after another, in the order of the messages.
use Rattle.std.specs.Prelude.{◌≡◌, ℕ, ◌+◌, List, [], ◌∷◌, ◌++◌, length}
use Rattle.std.specs.List.{AllByRecursion}
use Rattle.cq_entry.specs.declared.entry.Entry.{Entry as IndexEntry}
use Rattle.cq_entry.specs.declared.entry.EntryKind.{EntryKind}
use Rattle.cq_entry.specs.declared.entry.EntryKind.TheVariants.{Small, Shared as SharedEntry}
use Rattle.cq_entry.specs.Entry.{IsPresent, entry_bytes}
use Rattle.cq_small.specs.Record.{small_record}
use Rattle.cq_journal.specs.declared.event.Message.{Message}
use Rattle.cq_folder.specs.Folder.{Sharing, IsShelved}

-- what joins the small store for a message of this kind; where its entry says that it stands, and where the next one does
abbrev pub record_of : EntryKind → Message → List ℕ
record_of Small m = small_record m.body
record_of SharedEntry m = []

abbrev pub place_of : EntryKind → ℕ → ℕ
place_of Small base = base
place_of SharedEntry base = 0

abbrev pub next_of : EntryKind → ℕ → ℕ → ℕ
next_of Small base len = base + len + 5
next_of SharedEntry base len = base

-- the records of messages
abbrev pub records_of : (Message → EntryKind) → List Message → List ℕ
records_of kinds [] = []
records_of kinds (m ∷ ms) = record_of (kinds m) m ++ records_of kinds ms

-- the entry of a message, where the next record stands here
abbrev pub entry_of : EntryKind → ℕ → Message → IndexEntry
entry_of kind base m = record { kind = kind; len = length m.body; id = m.id; place = place_of kind base }

-- the entries of messages whose records stand one after another, the first one here
abbrev pub entries_of : (Message → EntryKind) → ℕ → List Message → List IndexEntry
entries_of kinds base [] = []
entries_of kinds base (m ∷ ms) = entry_of (kinds m) base m ∷ entries_of kinds (next_of (kinds m) base (length m.body)) ms

-- each of the shared ones has its record in a shared file
abbrev pub AreShelved : Sharing → List Message → Type 0
AreShelved sharing ms = AllByRecursion (λ m. sharing.kinds m ≡ SharedEntry → IsShelved sharing.shelves m) ms

-- these are the records and the entries of these messages, if the first record stands here, beside these shared files
pub record Lays (sharing : Sharing) (base : ℕ) (ms : List Message) (records : List ℕ) (entries : List IndexEntry) : Type 0 where
  pub records_are : records ≡ records_of sharing.kinds ms
  pub entries_are : entries ≡ entries_of sharing.kinds base ms
  pub present : AllByRecursion (λ e. IsPresent (entry_bytes e) e) entries
  pub shelved : AreShelved sharing ms
