-- The messages of a batch come once their records stand in the small store.
use Rattle.std.proofs.Common.{◌≡◌, ℕ, ◌+◌, ◌*◌, ◌≤◌, List, [], ◌∷◌, ◌++◌, length, take, drop, Option, refl, sym, ap, ◌∙◌, subst, arith, length-append}
use Rattle.std.specs.Int.{w32, to_be_bytes}
use Rattle.std.proofs.Math.Seq.{drop-append-add}
use Rattle.std.proofs.lemmas.List.{take_at}
use Rattle.cq_disk.specs.declared.name.Name.{Name}
use Rattle.cq_disk.specs.File.{File}
use Rattle.cq_entry.specs.declared.entry.Entry.{Entry as IndexEntry}
use Rattle.cq_entry.specs.declared.entry.Seen.{Seen}
use Rattle.cq_small.specs.Record.{small_record, HasRecord, StandsIn}
use Rattle.cq_small.specs.Store.{small_name}
use Rattle.cq_index.specs.Codec.{entry_len, most_entries}
use Rattle.cq_index.specs.Places.{index_name}
use Rattle.cq_journal.specs.declared.event.Message.{Message}
use Rattle.cq_folder.specs.Folder.{AreEntries, present, spots, Sharing, folder_of, IsShelved, IsMessageOf}
use Rattle.std.specs.List.{AllZip}
use Rattle.cq_folder.proofs.Names.{index_own, small_own}
use Rattle.cq_entry.specs.declared.entry.EntryKind.{EntryKind}
use Rattle.cq_entry.specs.declared.entry.EntryKind.TheVariants.{Small, Shared as SharedEntry}
use Rattle.cq_queue.specs.Laid.{record_of, next_of, records_of, entry_of, entries_of, AreShelved, Lays}
use Rattle.cq_folder.specs.Queue.{content_in}
use Rattle.cq_queue.specs.Files.{IsGreatest, WillCome, HasRecords}

pub length_record : (body : List ℕ) → length (small_record body) ≡ length body + 5
length_record body = length-append (to_be_bytes w32 (length body) ++ body) (255 ∷ []) ∙ ap (λ n. n + 1) (length-append (to_be_bytes w32 (length body)) body) ∙ omega arith

pub first_record : (m : Message) (rest : List ℕ) → HasRecord (small_record m.body ++ rest) 0 m.body
first_record m rest = take_at (small_record m.body) rest (length m.body + 5) (length_record m.body)

later_record : (m : Message) (rest : List ℕ) (offset : ℕ) (body : List ℕ) → HasRecord rest offset body → HasRecord (small_record m.body ++ rest) (length m.body + 5 + offset) body
later_record m rest offset body has =
    let past : length m.body + 5 + offset ≡ length (small_record m.body) + offset = omega (arith, length_record m.body) in
    ap (λ n. take (length body + 5) (drop n (small_record m.body ++ rest))) past
    ∙ ap (take (length body + 5)) (drop-append-add (small_record m.body) rest offset)
    ∙ has

pub rest_records : (kind : EntryKind) (content : List ℕ) (base : ℕ) (m : Message) (rest : List ℕ) → HasRecords base (record_of kind m ++ rest) content → HasRecords (next_of kind base (length m.body)) rest content
rest_records Small content base m rest stand offset body has =
    let e : base + (length m.body + 5 + offset) ≡ base + length m.body + 5 + offset = omega arith in
    subst (λ place. StandsIn content place body) e (stand (length m.body + 5 + offset) body (later_record m rest offset body has))
rest_records SharedEntry content base m rest stand offset body has = stand offset body has

small_is_shared : {A : Type 0} → Small ≡ SharedEntry → A
small_is_shared e = cc

-- the entry is that of its message
one_placed : (sharing : Sharing) (contents : Name → List ℕ) (queue number base : ℕ) (m : Message) (rest : List ℕ) (kind : EntryKind) → sharing.kinds m ≡ kind → HasRecords base (record_of kind m ++ rest) (contents (small_name queue number))
    → (sharing.kinds m ≡ SharedEntry → IsShelved sharing.shelves m) → IsMessageOf (folder_of sharing contents) queue (record { segment = number; entry = entry_of kind base m }) m
one_placed sharing contents queue number base m rest Small is stand shelved = record {
  id = refl;
  len = refl;
  kind = sym is;
  stands = λ small. (let e : base + 0 ≡ base = omega arith in subst (λ place. StandsIn (contents (small_name queue number)) place m.body) e (stand 0 m.body (first_record m rest)));
  shelved = λ shared. small_is_shared shared;
}
one_placed sharing contents queue number base m rest SharedEntry is stand shelved = record {
  id = refl;
  len = refl;
  kind = sym is;
  stands = λ small. small_is_shared (sym small);
  shelved = λ shared. shelved is;
}

-- each entry is that of its message
pub placed : (sharing : Sharing) (contents : Name → List ℕ) (queue number base : ℕ) (ms : List Message) → HasRecords base (records_of sharing.kinds ms) (contents (small_name queue number)) → AreShelved sharing ms
    → AllZip (IsMessageOf (folder_of sharing contents) queue) (spots number (entries_of sharing.kinds base ms)) ms
placed sharing contents queue number base [] present shelved = tt
placed sharing contents queue number base (m ∷ ms) present shelved = (
  one_placed sharing contents queue number base m (records_of sharing.kinds ms) (sharing.kinds m) refl present shelved.0,
  placed sharing contents queue number (next_of (sharing.kinds m) base (length m.body)) ms (rest_records (sharing.kinds m) (contents (small_name queue number)) base m (records_of sharing.kinds ms) present) shelved.1,
)

none_present : (content : List ℕ) (seen : List Seen) → content ≡ [] → AreEntries content seen → present seen ≡ []
none_present content [] none are = refl
none_present content (s ∷ seen) none are = let zero_is : length content ≡ 0 = ap length none in let inside = are.0 in absurd (omega (arith, zero_is, inside))

-- so the messages come
pub batch_comes : (files : Name → Option File) (sharing : Sharing) (queue number base count : ℕ) (ms : List Message) (records : List ℕ) (entries : List IndexEntry) → Lays sharing base ms records entries → HasRecords base records (content_in (files (small_name queue number)))
    → length (content_in (files (index_name queue number))) ≡ entry_len * count → count + length entries ≤ most_entries → IsGreatest files queue number → WillCome files queue number sharing entries ms
batch_comes files sharing queue number base count ms records entries lays has long few greatest contents reads = record {
  valid = lays.present;
  room = (let l : length (contents (index_name queue number)) ≡ entry_len * count = ap length (reads (index_name queue number) (index_own queue number)) ∙ long in omega (arith, l, few));
  last = λ k gt seen are. none_present (contents (index_name queue k)) seen (reads (index_name queue k) (index_own queue k) ∙ ap content_in (greatest k gt)) are;
  placed = subst (λ (es : List IndexEntry). AllZip (IsMessageOf (folder_of sharing contents) queue) (spots number es) ms) (sym lays.entries_are)
      (placed sharing contents queue number base ms (subst (λ (r : List ℕ). HasRecords base r (contents (small_name queue number))) lays.records_are (subst (HasRecords base records) (sym (reads (small_name queue number) (small_own queue number))) has)) lays.shelved);
}
