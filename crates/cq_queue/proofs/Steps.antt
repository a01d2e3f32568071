-- A segment whose one file was made, and the same segment after it: one call after another, told of the first one's segment.
use Rattle.std.proofs.Common.{◌≡◌, ◌≢◌, ◌⊎◌, ℕ, ◌+◌, ◌<◌, ◌≤◌, List, ◌++◌, Option, sym, ap, ◌∙◌, subst, arith, length}
use Rattle.std.specs.Prelude.{◌↔◌, Contains}
use Rattle.cq_disk.specs.declared.name.Name.{Name}
use Rattle.cq_disk.specs.declared.disk.Disk.{Ghosts}
use Rattle.cq_disk.specs.File.{File}
use Rattle.cq_entry.specs.declared.entry.Entry.{Entry as IndexEntry}
use Rattle.cq_small.specs.declared.store.SmallStore.{SmallStore}
use Rattle.cq_small.specs.Store as store
use Rattle.cq_small.specs.Store.{small_name}
use Rattle.cq_index.specs.Codec.{most_entries}
use Rattle.cq_index.specs.Places.{index_name, entries_bytes}
use Rattle.cq_index.specs.declared.segment.Segment.{Segment}
use Rattle.cq_index.specs.Segments as index
use Rattle.cq_journal.specs.declared.event.Message.{Message}
use Rattle.cq_folder.specs.Folder.{Sharing}
use Rattle.cq_queue.specs.declared.segment.QueueSegment.{QueueSegment}
use Rattle.cq_folder.specs.Queue.{content_in}
use Rattle.cq_queue.specs.Files.{ComesHeld, ComesHeldOn, HasEntriesFrom, HasRecords, KeepsRecords, WillCome}
use Rattle.cq_queue.specs.Laid.{Lays}
use Rattle.cq_queue.specs.QueueSegment.{CanGrow, Commits, HasCommitted, HasIndex, HasListed, HasRecorded, HasSmall, IsLonger, IsMore, ListsOnly, SameContent, SameIndex, SameNumber, SameSmall, TouchesOnly, count_of, end_of, index_file, index_in, present_of, small_file, small_in, small_len}
use Rattle.cq_queue.proofs.Come.{batch_comes}
use Rattle.cq_queue.proofs.Files.{apart, index_length}
use Rattle.cq_queue.proofs.Runs.{Tells, come_same, contents_same, stays_come, touches_then}
use Rattle.cq_queue.proofs.Stand.{keeps_entries}

same_small_file : (s m : QueueSegment) → SameNumber s m → small_file m ≡ small_file s
same_small_file s m same = λ i. small_name (same.queue i) (same.number i)

same_index_file : (s m : QueueSegment) → SameNumber s m → index_file m ≡ index_file s
same_index_file s m same = λ i. index_name (same.queue i) (same.number i)

-- what comes of the one comes of the other
module _ {D : Type 0} (g : Ghosts D) (s m : QueueSegment) (same : SameNumber s m) (mid new : D) (entries : List IndexEntry) where
  pub listed_as : count_of m ≡ count_of s → HasListed g m mid new entries → HasListed g s mid new entries
  listed_as count has = record {
    content = subst (λ (n : Name). content_in (g.files new n) ≡ content_in (g.files mid n) ++ entries_bytes entries) (same_index_file s m same) has.content;
    new_entries = subst (λ (n : ℕ). HasEntriesFrom n entries (index_in (g.files new) s)) count (subst (λ (n : Name). HasEntriesFrom (count_of m) entries (content_in (g.files new n))) (same_index_file s m same) has.new_entries);
    held = λ sharing ms will lines h. subst (λ (q : ℕ). ComesHeld (g.files mid) (g.files new) q sharing ms) same.queue
        (has.held sharing ms (subst (λ (q : ℕ). WillCome (g.files mid) q m.number sharing entries ms) (sym same.queue) (subst (λ (n : ℕ). WillCome (g.files mid) s.queue n sharing entries ms) (sym same.number) will))) lines h;
  }

  pub lists_as : ListsOnly g m mid new entries → ListsOnly g s mid new entries
  lists_as lists = record {
    others = subst (λ (name : Name). (n : Name) → n ≢ name → g.files new n ≡ g.files mid n) (same_index_file s m same) lists.others;
    any_moment = λ sharing ms will lines h. subst (λ (q : ℕ). ComesHeldOn g mid new q sharing ms) same.queue
        (lists.any_moment sharing ms (subst (λ (q : ℕ). WillCome (g.files mid) q m.number sharing entries ms) (sym same.queue) (subst (λ (n : ℕ). WillCome (g.files mid) s.queue n sharing entries ms) (sym same.number) will))) lines h;
  }

module _ {D : Type 0} (g : Ghosts D) (t : Tells g) (s m : QueueSegment) (old mid new : D) where
  -- records, once the small store is made
  pub records_touch : SameIndex s m → TouchesOnly g (small_file s) old mid → SameContent g (small_file s) old mid → TouchesOnly g (small_file m) mid new → TouchesOnly g (small_file s) old new
  records_touch same first made next = touches_then g t old mid new (small_file s) first made.held (subst (λ (n : Name). TouchesOnly g n mid new) (same_small_file s m same.number) next)

  pub records_next : (records : List ℕ) → SameIndex s m → HasSmall s m → SameContent g (small_file s) old mid → HasRecorded g m mid new records → HasRecorded g s old new records
  records_next records same has made next =
      let file = same_small_file s m same.number in
      record {
        kept_records = subst (λ (c : List ℕ). KeepsRecords c (small_in (g.files new) s)) made.same (subst (λ (n : Name). KeepsRecords (content_in (g.files mid n)) (content_in (g.files new n))) file next.kept_records);
        new_records = subst (λ (end : ℕ). HasRecords end records (small_in (g.files new) s)) has.end (subst (λ (n : Name). HasRecords (end_of m) records (content_in (g.files new n))) file next.new_records);
        held = λ sharing lines h. next.held sharing lines (made.held sharing lines h);
      }

  -- entries, once the index is made
  module _ (entries : List IndexEntry) (same : SameSmall s m) (first : TouchesOnly g (index_file s) old mid) (made : SameContent g (index_file s) old mid) where
    will_next : (sharing : Sharing) (ms : List Message) → WillCome (g.files old) s.queue s.number sharing entries ms → WillCome (g.files mid) s.queue s.number sharing entries ms
    will_next sharing ms will = come_same (g.files old) (g.files mid) s.queue s.number sharing entries ms (contents_same (g.files old) (g.files mid) (index_file s) made.same first.others) will

    pub entries_touch : ListsOnly g m mid new entries → ListsOnly g s old new entries
    entries_touch lists =
        let next = lists_as g s m same.number mid new entries lists in
        record {
          others = λ n other. next.others n other ∙ first.others n other;
          any_moment = λ sharing ms will. stays_come g t old mid new s.queue sharing ms first.any_moment made.held (next.any_moment sharing ms (will_next sharing ms will));
        }

    pub entries_next : HasIndex s m → HasListed g m mid new entries → HasListed g s old new entries
    entries_next has listed =
        let next = listed_as g s m same.number mid new entries has.count listed in
        record {
          content = next.content ∙ ap (λ (c : List ℕ). c ++ entries_bytes entries) made.same;
          new_entries = next.new_entries;
          held = λ sharing ms will lines h. next.held sharing ms (will_next sharing ms will) lines (made.held sharing lines h);
        }

  -- entries, once their records have joined the small store
  module _ (records : List ℕ) (entries : List IndexEntry) (can : CanGrow s (g.files old)) (few : count_of s + length entries ≤ most_entries) (same : SameIndex s m) (first : TouchesOnly g (small_file s) old mid) (recorded : HasRecorded g s old mid records) where
    index_was : g.files mid (index_file s) ≡ g.files old (index_file s)
    index_was = first.others (index_file s) (apart s.queue s.number s.queue s.number)

    will_join : (sharing : Sharing) (ms : List Message) → Lays sharing (end_of s) ms records entries → WillCome (g.files mid) s.queue s.number sharing entries ms
    will_join sharing ms lays = batch_comes (g.files mid) sharing s.queue s.number (end_of s) (count_of s) ms records entries lays recorded.new_records
        (ap (λ (o : Option File). length (content_in o)) index_was ∙ index_length s.index (g.files old (index_file s)) can.knows.index) few
        (λ k gt. first.others (index_name s.queue k) (apart s.queue k s.queue s.number) ∙ can.greatest k gt)

    pub commit_touches : ListsOnly g m mid new entries → Commits g s old new records entries
    commit_touches lists =
        let next = lists_as g s m same.number mid new entries lists in
        record {
          others = λ n not_small not_index. next.others n not_index ∙ first.others n not_small;
          any_moment = λ sharing ms lays. stays_come g t old mid new s.queue sharing ms first.any_moment recorded.held (next.any_moment sharing ms (will_join sharing ms lays));
        }

    pub commit_has : ListsOnly g m mid new entries → HasListed g m mid new entries → HasCommitted g s old new records entries
    commit_has lists listed =
        let count : count_of m ≡ count_of s = ap (λ (i : Segment). index.count_of i) same.index in
        let next = listed_as g s m same.number mid new entries count listed in
        let small_was = (lists_as g s m same.number mid new entries lists).others (small_file s) (λ e. apart s.queue s.number s.queue s.number (sym e)) in
        record {
          kept_records = subst (λ (o : Option File). KeepsRecords (small_in (g.files old) s) (content_in o)) (sym small_was) recorded.kept_records;
          new_records = subst (λ (o : Option File). HasRecords (end_of s) records (content_in o)) (sym small_was) recorded.new_records;
          kept_entries = keeps_entries (index_in (g.files old) s) (index_in (g.files new) s) (entries_bytes entries) (next.content ∙ ap (λ (o : Option File). content_in o ++ entries_bytes entries) index_was);
          new_entries = next.new_entries;
          held = λ sharing ms lays lines h. next.held sharing ms (will_join sharing ms lays) lines (recorded.held sharing lines h);
        }

-- so many entries more, once the index is made
pub more_next : (s m n : QueueSegment) (more : ℕ) → SameSmall s m → HasIndex s m → SameSmall m n → IsMore m n more 0 → IsMore s n more 0
more_next s m n more same has next grown =
    let was : end_of m ≡ end_of s = ap (λ (st : SmallStore). store.end_of st) same.small in
    record {
      is_open = grown.is_open;
      count = grown.count ∙ ap (λ (k : ℕ). k + more) has.count;
      present = subst (λ (ps : List ℕ). (k : ℕ) → Contains (present_of n) k ↔ (Contains ps k ⊎ ((count_of s ≤ k) × (k < count_of n)))) has.present
          (subst (λ (c : ℕ). (k : ℕ) → Contains (present_of n) k ↔ (Contains (present_of m) k ⊎ ((c ≤ k) × (k < count_of n)))) has.count grown.present);
      end = grown.end ∙ ap (λ (k : ℕ). k + 0) was;
      longer = subst (λ (st : SmallStore). store.len_of st ≤ small_len n) same.small grown.longer;
      room = grown.room;
      unused = λ none. grown.unused none ∙ same.small;
    }

-- so many entries and bytes more, once the records have joined
pub more_all : (s m n : QueueSegment) (more bytes : ℕ) → SameIndex s m → IsLonger s m bytes → SameSmall m n → IsMore m n more 0 → IsMore s n more bytes
more_all s m n more bytes same longer next grown =
    let count : count_of m ≡ count_of s = ap (λ (i : Segment). index.count_of i) same.index in
    let present : present_of m ≡ present_of s = ap (λ (i : Segment). index.present_of i) same.index in
    let end : end_of n ≡ end_of m = ap (λ (st : SmallStore). store.end_of st) next.small in
    let len = ap (λ (st : SmallStore). store.len_of st) next.small in
    record {
      is_open = grown.is_open;
      count = grown.count ∙ ap (λ (k : ℕ). k + more) count;
      present = subst (λ (ps : List ℕ). (k : ℕ) → Contains (present_of n) k ↔ (Contains ps k ⊎ ((count_of s ≤ k) × (k < count_of n)))) present
          (subst (λ (c : ℕ). (k : ℕ) → Contains (present_of n) k ↔ (Contains (present_of m) k ⊎ ((c ≤ k) × (k < count_of n)))) count grown.present);
      end = end ∙ longer.end;
      longer = subst (λ (l : ℕ). small_len s ≤ l) (sym len) longer.longer;
      room = λ some. let r = longer.room some in omega (arith, r, end, len);
      unused = λ none. next.small ∙ longer.unused none;
    }
