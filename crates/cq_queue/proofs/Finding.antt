-- The present entries of a segment that were read stand in its file, and their records in its small store.
use Rattle.std.proofs.Common.{◌≡◌, ◌∙◌, ℕ, zero, suc, ◌+◌, ◌*◌, ◌<◌, ◌≤◌, List, [], ◌∷◌, ◌++◌, length, take, get_or, Option, Some, None, Result, Ok, Err, OnOk, refl, sym, ap, subst, arith, inl, inr}
use Rattle.std.specs.Prelude.{All, Contains, IfErr, is_some, slice_get}
use Rattle.std.specs.List.{AllByRecursion, AllZip}
use Rattle.std.proofs.lemmas.List.{append_assoc}
use Rattle.std.proofs.lemmas.List.Elements.{All-contains_itself, All-head, All-tail, recursion_from_All}
use Rattle.std.proofs.lemmas.Option.{none-some, same_Some}
use Rattle.cq_bulk.specs.Entries.{IsMisreadOf}
use Rattle.cq_disk.specs.declared.name.Name.{Name}
use Rattle.cq_disk.specs.File.{File}
use Rattle.cq_disk.specs.Files.{Among}
use Rattle.cq_entry.specs.declared.entry.Entry.{Entry}
use Rattle.cq_entry.specs.Entry.{IsPresent}
use Rattle.cq_gate.specs.declared.gate.Gate.{Gate}
use Rattle.cq_gate.specs.Format.{content}
use Rattle.cq_index.specs.Codec.{entry_len}
use Rattle.cq_index.specs.declared.segment.Segment.{Segment}
use Rattle.cq_index.specs.declared.error.SegmentError.{SegmentError}
use Rattle.cq_index.specs.declared.error.SegmentError.TheVariants.{Fault as segment_fault, Memory as segment_memory, Damaged as segment_damaged}
use Rattle.cq_index.specs.Opened.{piece_at, IfDamaged as IfSegmentDamaged}
use Rattle.cq_index.specs.Places.{entry_at}
use Rattle.cq_index.specs.Segments as index
use Rattle.cq_folder.specs.Holding.{IsAt}
use Rattle.cq_folder.specs.Queue.{IsIndexAt, content_in}
use Rattle.cq_items.specs.Item.{Item}
use Rattle.cq_items.specs.Queue.{Queue}
use Rattle.cq_queue.specs.declared.segment.QueueSegment.{QueueSegment}
use Rattle.cq_queue.specs.declared.error.QueueError.{QueueError}
use Rattle.cq_queue.specs.declared.error.QueueError.TheVariants.{Fault, Memory, Damaged}
use Rattle.cq_queue.specs.QueueSegment.{KnowsFiles, index_file, index_in, present_of, small_file, small_len}
use Rattle.cq_queue.specs.Opening.{CantFind, CantFindAny, FindsMore, HasRecords, IfDamaged, IsOutside, IsOutsideAmong, error_of, found_of}
use Rattle.cq_queue.proofs.Changes.{all_at}
use Rattle.cq_queue.proofs.Files.{index_length}
use Rattle.cq_queue.proofs.Inside.{whole_inside}
use Rattle.cq_queue.proofs.Reading.{found_more, record_there}
use Rattle.cq_queue.proofs.Stand.{entry_in}

-- ---- an entry stands at its place

one_at : (segment : Segment) (slot : Option File) (k : ℕ) (e : Entry) → IsIndexAt segment slot → k < index.count_of segment → Among slot (λ f. IsPresent (entry_at f.reads k) e) → IsAt (content_in slot) k e
one_at segment None k e at below there = absurd there
one_at segment (Some f) k e at below there =
    let long = index_length segment (Some f) at in
    let inside : entry_len * k + entry_len ≤ length (content f.reads) = omega (arith, long, below) in
    record { inside = inside; is = subst (λ (p : List ℕ). IsPresent p e) (sym (entry_in segment f at (opened segment.gate refl) k inside)) there }
  where
    opened : (o : Option Gate) → segment.gate ≡ o → index.IsOpen segment
    opened None is = absurd (none-some f (sym (at.knows.absent is)))
    opened (Some g) is = ap is_some is

all_stand : (segment : Segment) (slot : Option File) (ks : List ℕ) (es : List Entry) → IsIndexAt segment slot → All (λ k. k < index.count_of segment) ks → AllZip (λ k e. Among slot (λ f. IsPresent (entry_at f.reads k) e)) ks es
    → AllZip (λ k e. IsAt (content_in slot) k e) ks es
all_stand segment slot [] [] at below there = tt
all_stand segment slot [] (e ∷ es) at below there = absurd there
all_stand segment slot (k ∷ ks) [] at below there = absurd there
all_stand segment slot (k ∷ ks) (e ∷ es) at below there = (
  one_at segment slot k e at (All-head (λ (j : ℕ). j < index.count_of segment) k ks below) there.0,
  all_stand segment slot ks es at (All-tail (λ (j : ℕ). j < index.count_of segment) k ks below) there.1,
)

pub read_stand : (s : QueueSegment) (files : Name → Option File) (es : List Entry) → KnowsFiles s files → AllZip (λ k e. Among (files (index.name_of s.index)) (λ f. IsPresent (entry_at f.reads k) e)) (present_of s) es
    → AllZip (λ k e. IsAt (index_in files s) k e) (present_of s) es
read_stand s files es knows there = all_stand s.index (files (index_file s)) (present_of s) es knows.index s.index.below
    (subst (λ (n : Name). AllZip (λ k e. Among (files n) (λ f. IsPresent (entry_at f.reads k) e)) (present_of s) es) s.index_named there)

-- ---- what is refused

zip_get : {A B : Type 0} (R : A → B → Type 0) (xs : List A) (ys : List B) (i : ℕ) (x : A) (y : B) → slice_get xs i ≡ Some x → slice_get ys i ≡ Some y → AllZip R xs ys → R x y
zip_get R [] ys i x y at is all = absurd (none-some x at)
zip_get R (a ∷ xs) [] i x y at is all = absurd (none-some y is)
zip_get R (a ∷ xs) (b ∷ ys) zero x y at is all = subst (λ c. R c y) (same_Some a x at) (subst (λ c. R a c) (same_Some b y is) all.0)
zip_get R (a ∷ xs) (b ∷ ys) (suc i) x y at is all = zip_get R xs ys i x y at is all.1

outside_never : (s : QueueSegment) (files : Name → Option File) (es : List Entry) (name : Name) (place found : ℕ) → KnowsFiles s files → HasRecords s.queue files s.index → AllZip (λ k e. IsAt (index_in files s) k e) (present_of s) es
    → IsOutsideAmong s es name place found → ⊥
outside_never s files es name place found knows has stand o =
    let at : IsAt (index_in files s) o.at o.entry = zip_get (λ k e. IsAt (index_in files s) k e) (present_of s) es o.i o.at o.entry o.at_is o.entry_is stand in
    let listed : Contains (present_of s) o.at = all_at (Contains (present_of s)) (present_of s) o.i o.at o.at_is (recursion_from_All (Contains (present_of s)) (present_of s) (All-contains_itself (present_of s))) in
    o.outside.outside (λ small. whole_inside s.small (files (small_file s)) o.entry.place o.entry.len knows.small (record_there s.queue files s refl has o.at o.entry listed at small))

module _ (Told : Type 0) (s : QueueSegment) where
  -- an entry that was read as a wrong one
  pub misread_cant : (error : SegmentError) → IfSegmentDamaged error (IsMisreadOf Told (present_of s)) → IfDamaged (error_of (index_file s) error) (CantFind Told s)
  misread_cant segment_fault h = tt
  misread_cant segment_memory h = tt
  misread_cant (segment_damaged place found) h = record { untold = h.misread.untold; name_is = refl; at = h.at; cause = inl h.misread.broken }

  -- an entry whose record lies outside
  pub outside_cant : (files : Name → Option File) (es : List Entry) → (Told → KnowsFiles s files) → (Told → HasRecords s.queue files s.index) → (Told → AllZip (λ k e. IsAt (index_in files s) k e) (present_of s) es)
      → (error : QueueError) → IfDamaged error (IsOutsideAmong s es) → IfDamaged error (CantFind Told s)
  outside_cant files es knows has stand Fault h = tt
  outside_cant files es knows has stand Memory h = tt
  outside_cant files es knows has stand (Damaged name place found) h = record {
    untold = λ told. outside_never s files es name place found (knows told) (has told) (stand told) h;
    name_is = h.name_is;
    at = h.at;
    cause = inr (h.entry, h.outside);
  }

pub err_only : {T E : Type 0} (r : Result T E) (P Q : E → Type 0) → IfErr r P → ((e : E) → P e → Q e) → IfErr r Q
err_only (Ok v) P Q h f = tt
err_only (Err e) P Q h f = f e h

-- ---- one entry more

pub one_more : (n : ℕ) (ks : List ℕ) (es : List Entry) (i k : ℕ) (e : Entry) (items : List Item) (q next : Queue) → slice_get ks i ≡ Some k → slice_get es i ≡ Some e
    → q ≡ record { items = items ++ found_of n (take i ks) (take i es); reserved = 0 } → next ≡ record { items = q.items ++ found_of n (k ∷ []) (e ∷ []); reserved = 0 }
    → next ≡ record { items = items ++ found_of n (take (i + 1) ks) (take (i + 1) es); reserved = 0 }
one_more n ks es i k e items q next at is was now =
    let up : suc i ≡ i + 1 = omega arith in
    now ∙ ap (λ (is : List Item). queue_of is) (ap (λ (x : Queue). x.items ++ found_of n (k ∷ []) (e ∷ [])) was ∙ append_assoc items (found_of n (take i ks) (take i es)) (found_of n (k ∷ []) (e ∷ []))
    ∙ ap (λ (is : List Item). items ++ is) (sym (found_more n ks es i k e at is) ∙ ap (λ (m : ℕ). found_of n (take m ks) (take m es)) up))
  where
    queue_of : List Item → Queue
    queue_of is = record { items = is; reserved = 0 }

pub on_both : {T E : Type 0} (r : Result T E) (A B C : Type 0) → OnOk r A → OnOk r B → (A → B → C) → OnOk r C
on_both (Ok v) A B C a b step = step a b
on_both (Err e) A B C a b step = tt

-- a fault of a segment is one of its queue
pub fault_of : (name : Name) (error : SegmentError) → error_of name error ≡ Fault → error ≡ segment_fault
fault_of name segment_fault is = refl
fault_of name segment_memory is = absurd (memory_fault is)
  where
    memory_fault : Memory ≡ Fault → ⊥
    memory_fault e = cc
fault_of name (segment_damaged place found) is = absurd (damaged_fault is)
  where
    damaged_fault : Damaged name place found ≡ Fault → ⊥
    damaged_fault e = cc

pub get_some : {A : Type 0} (xs : List A) (i : ℕ) (d : A) → i < length xs → slice_get xs i ≡ Some (get_or xs i d)
get_some [] i d lt = absurd (omega (arith, lt))
get_some (x ∷ xs) zero d lt = refl
get_some (x ∷ xs) (suc i) d lt = get_some xs i d (omega (arith, lt))

pub among : (s : QueueSegment) (es : List Entry) (i at : ℕ) (e : Entry) → slice_get (present_of s) i ≡ Some at → slice_get es i ≡ Some e → (error : QueueError)
    → IfDamaged error (λ name place found. (name ≡ index_file s) × IsOutside (small_len s) at e place found) → IfDamaged error (IsOutsideAmong s es)
among s es i at e there is Fault h = tt
among s es i at e there is Memory h = tt
among s es i at e there is (Damaged name place found) h = record { i = i; at = at; entry = e; at_is = there; entry_is = is; name_is = h.0; outside = h.1 }

pub any_of : (Told : Type 0) (list : List QueueSegment) (i : ℕ) (s : QueueSegment) → slice_get list i ≡ Some s → (error : QueueError) → IfDamaged error (CantFind Told s) → IfDamaged error (CantFindAny Told list)
any_of Told list i s is Fault h = tt
any_of Told list i s is Memory h = tt
any_of Told list i s is (Damaged name place found) h = record { i = i; segment = s; is = is; cant = h }

pub nothing_left : {A : Type 0} (xs : List A) → length xs ≡ 0 → xs ≡ []
nothing_left [] none = refl
nothing_left (x ∷ xs) none = absurd (omega (arith, none))

-- the same of files that are equal
pub found_on : (Told : Type 0) (a b : Name → Option File) (s : QueueSegment) (old new : Queue) → (Told → a ≡ b) → FindsMore Told a s old new → FindsMore Told b s old new
found_on Told a b s old new same finds = record {
  entries = finds.entries;
  len = finds.len;
  queue = finds.queue;
  within = finds.within;
  stand = λ told. subst (λ (files : Name → Option File). AllZip (λ k e. IsAt (index_in files s) k e) (present_of s) finds.entries) (same told) (finds.stand told);
}
