-- The body that was read is that of the message which is held.
use Prim.Native.Nat.{zero, suc}
use Rattle.std.proofs.Common.{◌≡◌, inl, inr, ⊎_elim, ℕ, ◌+◌, ◌<◌, ◌≤◌, Bool, true, false, not, cond, List, [], ◌∷◌, length, get_or, Option, Some, None, refl, sym, ap, ◌∙◌, subst, arith}
use Rattle.std.specs.Prelude.{is_some, slice_get}
use Rattle.cq_disk.specs.declared.name.Name.{Name}
use Rattle.cq_disk.specs.File.{File}
use Rattle.cq_disk.specs.declared.disk.Disk.{Ghosts}
use Rattle.cq_entry.specs.declared.entry.Entry.{Entry}
use Rattle.cq_entry.specs.declared.entry.Seen.{Seen}
use Rattle.cq_entry.specs.declared.entry.Seen.TheVariants.{Gone, Present}
use Rattle.cq_entry.specs.declared.entry.EntryKind.TheVariants.{Small}
use Rattle.cq_entry.specs.Entry.{IsPresent, IsSeen}
use Rattle.cq_entry.specs.EntryLemmas.{one_entry}
use Rattle.cq_small.specs.Record.{StandsIn}
use Rattle.cq_small.specs.Store.{small_name}
use Rattle.cq_index.specs.Opened.{piece_at}
use Rattle.cq_index.specs.Places.{index_name}
use Rattle.cq_journal.specs.declared.event.Message.{Message}
use Rattle.cq_journal.specs.History.{has_id}
use Rattle.cq_journal.specs.Lists.{HasDistinctIds, IsIn}
use Rattle.cq_folder.specs.Folder.{AreEntries, present, Folder, HoldsIn, folder_of}
use Rattle.cq_folder.specs.Holding.{IsAt}
use Rattle.cq_folder.specs.Queue.{content_in}
use Rattle.cq_folder.proofs.Entries.{entry_seen, length-seen}
use Rattle.cq_folder.proofs.Members.{entry_held}
use Rattle.cq_folder.proofs.Names.{index_own, small_own}
use Rattle.cq_folder.proofs.One.{same_body}
use Rattle.cq_folder.proofs.Sublists.{all_in, in_has, clash}
use Rattle.cq_items.specs.Item.{Item}
use Rattle.cq_items.specs.declared.item.Stand.{Stand}
use Rattle.cq_items.specs.Items.{undecided, undecided_items, waiting_items, waits}
use Rattle.cq_queue.specs.declared.segment.QueueSegment.{QueueSegment}
use Rattle.cq_queue.specs.Lists.{AreSegments, place_in}
use Rattle.cq_queue.specs.Passing.{HasLength, IsReady}
use Rattle.cq_queue.specs.QueueCalls.{IsBodyHeld}
use Rattle.cq_queue.specs.QueueSegment.{HasWhole, small_in, small_len}
use Rattle.cq_queue.specs.Tied.{AreInPlace, IsInPlace, IsTied, IsWithin, body_at}
use Rattle.cq_queue.proofs.Changes.{all_at, some_same}
use Rattle.cq_queue.proofs.Goes.{never_missing, number_at}
use Rattle.cq_queue.proofs.Settling.{stands_in}
use Rattle.cq_queue.proofs.Runs.{Tells, contents_read}

-- of distinct ids there is one message each
one_of : (l : List Message) (m k : Message) → HasDistinctIds l → IsIn l m → IsIn l k → m.id ≡ k.id → m ≡ k
one_of [] m k d here there same = absurd here
one_of (x ∷ l) m k d here there same = ⊎_elim
    (λ (m_is : x ≡ m). ⊎_elim
    (λ (k_is : x ≡ k). sym m_is ∙ k_is)
    (λ later. clash (has_id l x.id) d.0 (subst (λ (y : ℕ). has_id l y ≡ true) (sym same ∙ sym (ap (λ (w : Message). w.id) m_is)) (in_has l k later))) there)
    (λ earlier. ⊎_elim
    (λ (k_is : x ≡ k). clash (has_id l x.id) d.0 (subst (λ (y : ℕ). has_id l y ≡ true) (same ∙ sym (ap (λ (w : Message). w.id) k_is)) (in_has l m earlier)))
    (λ later. one_of l m k d.1 earlier later same) there) here

first_present : (seen : List Seen) (s : Seen) (e : Entry) → s ≡ Present e → IsIn (present (s ∷ seen)) e
first_present seen s e is = subst (λ (t : Seen). IsIn (present (t ∷ seen)) e) (sym is) (inl refl)

later_present : (seen : List Seen) (s : Seen) (e : Entry) → IsIn (present seen) e → IsIn (present (s ∷ seen)) e
later_present seen Gone e there = there
later_present seen (Present d) e there = inr there

of_piece : (bytes : List ℕ) (s : Seen) (e : Entry) → IsSeen bytes s → IsPresent bytes e → s ≡ Present e
of_piece bytes Gone e is at = absurd (is (ap (λ (l : List ℕ). get_or l 0 0) at.spelled))
of_piece bytes (Present d) e is at = ap Present (one_entry bytes d e is.1 at)

is_listed : (bytes : List ℕ) (seen : List Seen) (j : ℕ) (e : Entry) → j < length seen → IsSeen bytes (get_or seen j Gone) → IsPresent bytes e → IsIn (present seen) e
is_listed bytes [] j e lt is at = absurd (omega (arith, lt))
is_listed bytes (s ∷ seen) zero e lt is at = first_present seen s e (of_piece bytes s e is at)
is_listed bytes (s ∷ seen) (suc j) e lt is at = later_present seen s e (is_listed bytes seen j e (omega (arith, lt)) is at)

-- an entry that stands at its place is a present one
at_present : (content : List ℕ) (seen : List Seen) (k : ℕ) (e : Entry) → AreEntries content seen → IsAt content k e → IsIn (present seen) e
at_present content seen k e are at =
    let long = length-seen content seen are in
    let inside = at.inside in
    is_listed (piece_at content k) seen k e (omega (arith, long, inside)) (entry_seen content seen k are (omega (arith, long, inside))) at.is

-- So the body of a record at the place of an entry, of its length, is that of the message of this id.
body_held : (folder : Folder) (queue number k : ℕ) (e : Entry) (l : List Message) (body : List ℕ) (m : Message) → HoldsIn folder queue l → HasDistinctIds l → IsAt (folder.contents (index_name queue number)) k e
    → e.kind ≡ Small → StandsIn (folder.contents (small_name queue number)) e.place body → length body ≡ e.len → IsIn l m → m.id ≡ e.id → body ≡ m.body
body_held folder queue number k e l body m holds once at small stands len there same =
    let held = entry_held folder queue l holds number (holds.seen number) e (holds.entries number) (at_present (folder.contents (index_name queue number)) (holds.seen number) k e (holds.entries number) at) in
    let own : held.0 ≡ m = one_of l held.0 m once held.1.0 there (held.1.1.id ∙ sym same) in
    same_body (folder.contents (small_name queue number)) e.place body held.0.body stands (held.1.1.stands small) (len ∙ sym held.1.1.len) ∙ ap (λ (w : Message). w.body) own

-- What was read where a message stands is the body of the message that is held.
pub body_is_held : {D : Type 0} (g : Ghosts D) → Tells g → (disk : D) (queue : ℕ) (i : Item) (s : Stand) (body : List ℕ) → IsInPlace queue (g.files disk) i s → i.kind ≡ Small
    → StandsIn (content_in (g.files disk (small_name queue s.segment))) s.place body → length body ≡ i.len → IsBodyHeld queue (g.files disk) i.id body
body_is_held g t disk queue i s body in_place small stands len sharing lines once h m there same =
    body_held (folder_of sharing h.contents) queue s.segment s.at (record { kind = i.kind; len = i.len; id = i.id; place = s.place }) (lines queue) body m (h.holds queue) once
    (subst (λ (c : List ℕ). IsAt c s.at (record { kind = i.kind; len = i.len; id = i.id; place = s.place })) (sym (contents_read g t disk (folder_of sharing h.contents) h.still (index_name queue s.segment) (index_own queue s.segment))) in_place.entry)
    small
    (subst (λ (c : List ℕ). StandsIn c s.place body) (sym (contents_read g t disk (folder_of sharing h.contents) h.still (small_name queue s.segment) (small_own queue s.segment))) stands)
    len there same

-- ---- the first message that waits

none_some : {A : Type 0} (a : A) → None ≡ Some a → ⊥
none_some a e = cc

pub first_in : (items : List Item) (i : Item) → slice_get (waiting_items items) 0 ≡ Some i → IsIn items i
first_in [] i first = absurd (none_some i first)
first_in (j ∷ js) i first = (elim (waits j) as (λ (b : Bool). slice_get (cond b (j ∷ waiting_items js) (waiting_items js)) 0 ≡ Some i → IsIn (j ∷ js) i) [
  | true ↦ λ here. inl (some_same j i here)
  | false ↦ λ later. inr (first_in js i later)
]) first

in_undecided : (items : List Item) (i : Item) → IsIn items i → i.stand ≡ None → IsIn (undecided_items items) i
in_undecided [] i there none = absurd there
in_undecided (j ∷ js) i there none = ⊎_elim
    (λ (here : j ≡ i). subst (λ (b : Bool). IsIn (cond b (j ∷ undecided_items js) (undecided_items js)) i) (sym (ap (λ (o : Option Stand). not (is_some o)) (ap (λ (k : Item). k.stand) here ∙ none))) (inl here))
    (λ later. behind (undecided j) (in_undecided js i later none)) there
  where
    behind : (b : Bool) → IsIn (undecided_items js) i → IsIn (cond b (j ∷ undecided_items js) (undecided_items js)) i
    behind true there = inr there
    behind false there = there

-- of one that isn't committed the body is in memory, of its length
pub has_body : (items : List Item) (list : List QueueSegment) (i : Item) → IsTied items list → IsIn items i → i.stand ≡ None → i.kind ≡ Small → HasLength i.body i.len
has_body items list i tied there none small = (all_in IsReady (undecided_items items) i tied.ready (in_undecided items i there none)).body small

-- of one that is committed, the segment is there, and its record lies in it
module _ (items : List Item) (list : List QueueSegment) (i : Item) (s : Stand) (tied : IsTied items list) (there : IsIn items i) (at : i.stand ≡ Some s) where
  pub is_listed_there : place_in s.segment list ≡ None → ⊥
  is_listed_there none = never_missing list s.segment s.at (subst (λ (l : List (ℕ × ℕ)). IsIn l (s.segment, s.at)) tied.listing (stands_in items i s there at)) none

  module _ (k len : ℕ) (found : place_in s.segment list ≡ Some k) (small : i.kind ≡ Small) (len_is : i.len ≡ len) where
    pub in_range : (p : QueueSegment) → slice_get list k ≡ Some p → s.place + len + 5 ≤ small_len p
    in_range p is = subst (λ (n : ℕ). s.place + n + 5 ≤ small_len p) len_is
        (all_at (λ (r : QueueSegment). r.number ≡ s.segment → s.place + i.len + 5 ≤ small_len r) list k p is (all_in (IsWithin list) items i tied.within there s at small) (number_at list s.segment k p found is))

    module _ (queue : ℕ) (are : AreSegments queue list) (files : Name → Option File) (stand : AreInPlace queue files items) where
      pub in_place : IsInPlace queue files i s
      in_place = all_in (λ (j : Item). (t : Stand) → j.stand ≡ Some t → IsInPlace queue files j t) items i stand there s at

      pub name_is : (p : QueueSegment) → slice_get list k ≡ Some p → small_name queue s.segment ≡ small_name p.queue p.number
      name_is p is =
          let own : p.queue ≡ queue = all_at (λ (r : QueueSegment). r.queue ≡ queue) list k p is are.0 in
          let number : p.number ≡ s.segment = number_at list s.segment k p found is in
          λ j. small_name (sym own j) (sym number j)

      pub is_whole : (p : QueueSegment) → slice_get list k ≡ Some p → HasWhole (small_in files p) s.place len
      is_whole p is =
          let whole = in_place.record_is small in
          subst (λ (m : Name). HasWhole (content_in (files m)) s.place len) (name_is p is)
          (subst (λ (n : ℕ). HasWhole (content_in (files (small_name queue s.segment))) s.place n) len_is (body_at (content_in (files (small_name queue s.segment))) s.place i.len, (whole.len_is, whole.stands)))
