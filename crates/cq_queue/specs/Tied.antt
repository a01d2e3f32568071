-- What ties the messages of a queue to its segments and to its files.
use Rattle.std.specs.Prelude.{◌≡◌, ◌≢◌, ℕ, ◌+◌, ◌-◌, ◌≤◌, Bool, false, true, nat_lt, if◌then◌else◌, List, [], ◌∷◌, ◌++◌, length, take, drop, Option, Some, None, is_some}
use Rattle.std.proofs.Props.{props}
use Rattle.std.specs.Coded.{Coded-set, coded_ℕ, coded_bool, coded_list, coded×, le_prop}
use Rattle.std.specs.List.{AllByRecursion}
use Rattle.cq_disk.specs.declared.name.Name.{Name}
use Rattle.cq_disk.specs.File.{File}
use Rattle.cq_entry.specs.declared.entry.Entry.{Entry as IndexEntry}
use Rattle.cq_entry.specs.declared.entry.EntryKind.TheVariants.{Small}
use Rattle.cq_small.specs.Record.{StandsIn}
use Rattle.cq_small.specs.Store.{small_name}
use Rattle.cq_index.specs.Places.{index_name}
use Rattle.cq_folder.specs.Queue.{content_in, listed_in}
use Rattle.cq_folder.specs.Holding.{IsAt}
use Rattle.cq_items.specs.Item.{Item}
use Rattle.cq_items.specs.declared.item.Stand.{Stand}
use Rattle.cq_items.specs.Items.{undecided_items}
use Rattle.cq_queue.specs.declared.segment.QueueSegment.{QueueSegment}
use Rattle.cq_queue.specs.QueueSegment.{IsOpen, count_of, end_of, present_of, small_len}
use Rattle.cq_queue.specs.Lists.{AreAt}
use Rattle.cq_queue.specs.Passing.{HasLength, IsReady}

-- where present entries are listed: the segment and the place in it, by rising segment and then place
abbrev pub listed : List QueueSegment → List (ℕ × ℕ)
listed [] = []
listed (s ∷ list) = listed_in s.number (present_of s) ++ listed list

-- where the committed messages stand, in the order of the queue
abbrev pub listing_of : Option Stand → List (ℕ × ℕ)
listing_of None = []
listing_of (Some s) = (s.segment, s.at) ∷ []

abbrev pub standing_at : List Item → List (ℕ × ℕ)
standing_at [] = []
standing_at (i ∷ is) = listing_of i.stand ++ standing_at is

-- nothing is committed behind an undecided one
abbrev pub AreSplit : List Item → Type 0
AreSplit [] = Unit {0}
AreSplit (i ∷ is) = (is_some i.stand ≡ false → AllByRecursion (λ j. is_some j.stand ≡ false) is) × AreSplit is

-- the record of a small committed message lies within the small store of its segment
abbrev pub IsWithin : List QueueSegment → Item → Type 0
IsWithin list i = (s : Stand) → i.stand ≡ Some s → i.kind ≡ Small
    → AllByRecursion (λ p. p.number ≡ s.segment → s.place + i.len + 5 ≤ small_len p) list

-- The segments list exactly the committed messages, in the same order, and each has its index; a small one's record lies
-- within its small store; nothing is committed behind an undecided one, and each undecided one can be committed.
pub record IsTied (items : List Item) (list : List QueueSegment) : Type 0 where
  pub listing : standing_at items ≡ listed list
  pub made : AllByRecursion IsOpen list
  pub within : AllByRecursion (IsWithin list) items
  pub split : AreSplit items
  pub ready : AllByRecursion IsReady (undecided_items items)

-- ---- on a disk that tells its files

-- the entry of a committed message
abbrev pub entry_at : Item → Stand → IndexEntry
entry_at i s = record { kind = i.kind; len = i.len; id = i.id; place = s.place }

-- what stands where the body of a record of this length would, at this place of a small store's content
abbrev pub body_at : List ℕ → ℕ → ℕ → List ℕ
body_at content place len = take len (drop (place - 128 + 4) content)

-- The record of a body of this length stands at this place. It is said without a witness, so that it is a proposition.
pub record IsWholeRecord (content : List ℕ) (place len : ℕ) : Type 0 where
  pub len_is : length (body_at content place len) ≡ len
  pub stands : StandsIn content place (body_at content place len)

-- A committed message's entry stands at its place of its segment, and of a small one the record of a body of its length
-- at its place of the small store.
pub record IsInPlace (queue : ℕ) (files : Name → Option File) (i : Item) (s : Stand) : Type 0 where
  pub entry : IsAt (content_in (files (index_name queue s.segment))) s.at (entry_at i s)
  pub record_is : i.kind ≡ Small → IsWholeRecord (content_in (files (small_name queue s.segment))) s.place i.len

abbrev pub AreInPlace : ℕ → (Name → Option File) → List Item → Type 0
AreInPlace queue files items = AllByRecursion (λ i. (s : Stand) → i.stand ≡ Some s → IsInPlace queue files i s) items

-- The queue's files are as its own calls left them: each segment knows its own, no other is there, and each committed
-- message stands in its place.
pub record IsQueueAt (queue : ℕ) (list : List QueueSegment) (items : List Item) (files : Name → Option File) : Type 0 where
  pub segments : AreAt queue list files
  pub stands : AreInPlace queue files items

-- the files, but a queue's indexes and small stores, are as they were
abbrev pub OtherFilesStay : ℕ → (Name → Option File) → (Name → Option File) → Type 0
OtherFilesStay queue old new = (n : Name) → ((k : ℕ) → (n ≢ index_name queue k) × (n ≢ small_name queue k)) → new n ≡ old n

-- ---- the segment that the next entries join

-- Its number, how many it has, and where its next record stands: the last segment, if it has fewer entries than a segment
-- gets, else a new one.
pub record Pick : Type 0 where
  pub number : ℕ
  pub count : ℕ
  pub base : ℕ

abbrev pub first_pick : ℕ → Pick
first_pick number = record { number = number; count = 0; base = 128 }

abbrev pub pick_of : ℕ → List QueueSegment → Pick
pick_of most [] = first_pick 0
pick_of most (s ∷ []) = if nat_lt (count_of s) most then record { number = s.number; count = count_of s; base = end_of s } else first_pick (s.number + 1)
pick_of most (s ∷ t ∷ list) = pick_of most (t ∷ list)

-- for how many entries it has room
abbrev pub room_of : ℕ → List QueueSegment → ℕ
room_of most list = most - (pick_of most list).count

-- ---- what a struct can keep

AreMade-prop : (list : List QueueSegment) → IsProp (AllByRecursion IsOpen list)
AreMade-prop [] = hlevel
AreMade-prop (s ∷ list) = hlevel (props, AreMade-prop list)

IsNear-prop : (segment end : ℕ) (list : List QueueSegment)
    → IsProp (AllByRecursion (λ p. p.number ≡ segment → end ≤ small_len p) list)
IsNear-prop segment end [] = hlevel
IsNear-prop segment end (p ∷ list) = hlevel (le_prop, IsNear-prop segment end list)

AreWithin-prop : (list : List QueueSegment) (items : List Item) → IsProp (AllByRecursion (IsWithin list) items)
AreWithin-prop list [] = hlevel
AreWithin-prop list (i ∷ is) = hlevel (λ (s : Stand). IsNear-prop s.segment (s.place + i.len + 5) list, AreWithin-prop list is)

AreUndecided-prop : (items : List Item) → IsProp (AllByRecursion (λ j. is_some j.stand ≡ false) items)
AreUndecided-prop [] = hlevel
AreUndecided-prop (i ∷ is) = hlevel (Coded-set coded_bool, AreUndecided-prop is)

AreSplit-prop : (items : List Item) → IsProp (AreSplit items)
AreSplit-prop [] = hlevel
AreSplit-prop (i ∷ is) = hlevel (AreUndecided-prop is, AreSplit-prop is)

HasLength-prop : (body : Option (List ℕ)) (len : ℕ) → IsProp (HasLength body len)
HasLength-prop None len = hlevel
HasLength-prop (Some body) len = hlevel (Coded-set coded_ℕ)

AreReady-prop : (items : List Item) → IsProp (AllByRecursion IsReady items)
AreReady-prop [] = hlevel
AreReady-prop (i ∷ is) = hlevel (le_prop, HasLength-prop i.body i.len, AreReady-prop is)

IsTied-prop : (items : List Item) (list : List QueueSegment) → IsProp (IsTied items list)
IsTied-prop items list = hlevel (Coded-set (coded_list (coded× coded_ℕ coded_ℕ)), AreMade-prop list, AreWithin-prop list items, AreSplit-prop items, AreReady-prop (undecided_items items))

-- the same while this holds
pub TiedWhere-prop : (running : Type 0) (items : List Item) (list : List QueueSegment) → IsProp (running → IsTied items list)
TiedWhere-prop running items list = hlevel (IsTied-prop items list)
