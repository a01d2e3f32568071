-- A finished segment is removed: what stands elsewhere stands.
use Prim.Native.Nat.{zero, suc}
use Rattle.std.proofs.Common.{◌≡◌, ◌≢◌, ℕ, ◌+◌, ◌<◌, ◌≤◌, Bool, true, false, List, [], ◌∷◌, ◌++◌, take, drop, Option, Some, None, refl, sym, ap, ◌∙◌, subst, arith}
use Rattle.std.specs.Prelude.{if◌then◌else◌, option_map, slice_get}
use Rattle.std.specs.List.{AllByRecursion}
use Rattle.cq_disk.specs.declared.name.Name.{Name}
use Rattle.cq_disk.specs.File.{File}
use Rattle.cq_small.specs.Store.{small_name}
use Rattle.cq_index.specs.Places.{index_name}
use Rattle.cq_folder.specs.Holding.{IsAt}
use Rattle.cq_folder.specs.Queue.{content_in, listed_in}
use Rattle.cq_items.specs.Item.{Item}
use Rattle.cq_items.specs.declared.item.Stand.{Stand}
use Rattle.cq_queue.specs.declared.segment.QueueSegment.{QueueSegment}
use Rattle.cq_queue.specs.QueueSegment.{IsOpen, OthersStay, is_over, present_of, small_len}
use Rattle.cq_queue.specs.Lists.{Rise, is_there, first_over}
use Rattle.cq_queue.specs.Tied.{listed, listing_of, standing_at, IsWithin, IsTied, entry_at, IsWholeRecord, IsInPlace, AreInPlace, OtherFilesStay}
use Rattle.cq_queue.proofs.Files.{apart}
use Rattle.cq_queue.proofs.Over.{over_empty}
use Rattle.cq_queue.proofs.Changes.{some_same, all_at, all_append, all_front, all_back, all_without}

none_some : {A : Type 0} (a : A) → None ≡ Some a → ⊥
none_some a e = cc

-- the finished segment
pub record Finished (ps : List QueueSegment) (i : ℕ) : Type 0 where
  pub segment : QueueSegment
  pub is : slice_get ps i ≡ Some segment
  pub over : present_of segment ≡ []

below : (p : QueueSegment) (ps : List QueueSegment) (i : ℕ) (o : Option ℕ) → ((k : ℕ) → o ≡ Some k → Finished ps k) → option_map suc o ≡ Some i → Finished (p ∷ ps) i
below p ps i None rest none = absurd (none_some i none)
below p ps i (Some k) rest some = subst (Finished (p ∷ ps)) (some_same (suc k) i some) (let f = rest k refl in record { segment = f.segment; is = f.is; over = f.over })

pub is_finished : (most : ℕ) (ps : List QueueSegment) (i : ℕ) → first_over most ps ≡ Some i → Finished ps i
is_finished most [] i is = absurd (none_some i is)
is_finished most (p ∷ ps) i is = (elim (is_over (is_there ps) most p) as (λ (b : Bool). is_over (is_there ps) most p ≡ b → (if b then Some 0 else option_map suc (first_over most ps)) ≡ Some i → Finished (p ∷ ps) i) [
  | true ↦ λ over here. subst (Finished (p ∷ ps)) (some_same 0 i here) (record { segment = p; is = refl; over = over_empty (is_there ps) most p over })
  | false ↦ λ other later. below p ps i (first_over most ps) (λ k was. is_finished most ps k was) later
]) refl is

-- ---- the places that are listed

listed_without : (ps : List QueueSegment) (i : ℕ) (p : QueueSegment) → slice_get ps i ≡ Some p → present_of p ≡ [] → listed (take i ps ++ drop (suc i) ps) ≡ listed ps
listed_without [] i p is over = absurd (none_some p is)
listed_without (q ∷ ps) zero p is over =
    let e : q ≡ p = some_same q p is in
    sym (ap (λ (xs : List ℕ). listed_in q.number xs ++ listed ps) (ap present_of e ∙ over))
listed_without (q ∷ ps) (suc i) p is over = ap (λ (l : List (ℕ × ℕ)). listed_in q.number (present_of q) ++ l) (listed_without ps i p is over)

abbrev IsOff : ℕ → (ℕ × ℕ) → Type 0
IsOff n l = l.0 ≢ n

in_off : (m n : ℕ) (ks : List ℕ) → m ≢ n → AllByRecursion (IsOff n) (listed_in m ks)
in_off m n [] other = tt
in_off m n (k ∷ ks) other = (other, in_off m n ks other)

above_off : (n : ℕ) (ps : List QueueSegment) → AllByRecursion (λ (s : QueueSegment). n < s.number) ps → AllByRecursion (IsOff n) (listed ps)
above_off n [] above = tt
above_off n (q ∷ ps) above = let lt = above.0 in all_append (IsOff n) (listed_in q.number (present_of q)) (listed ps) (in_off q.number n (present_of q) (λ same. omega (arith, same, lt))) (above_off n ps above.1)

-- nothing is listed in a segment without a present entry
listed_off : (ps : List QueueSegment) (i : ℕ) (p : QueueSegment) → slice_get ps i ≡ Some p → present_of p ≡ [] → Rise ps → AllByRecursion (IsOff p.number) (listed ps)
listed_off [] i p is over rise = absurd (none_some p is)
listed_off (q ∷ ps) zero p is over rise =
    let e : q ≡ p = some_same q p is in
    all_append (IsOff p.number) (listed_in q.number (present_of q)) (listed ps)
    (subst (λ (ks : List ℕ). AllByRecursion (IsOff p.number) (listed_in q.number ks)) (sym (ap present_of e ∙ over)) tt)
    (above_off p.number ps (subst (λ (n : ℕ). AllByRecursion (λ (s : QueueSegment). n < s.number) ps) (ap (λ (r : QueueSegment). r.number) e) rise.0))
listed_off (q ∷ ps) (suc i) p is over rise =
    let lt : q.number < p.number = all_at (λ (s : QueueSegment). q.number < s.number) ps i p is rise.0 in
    all_append (IsOff p.number) (listed_in q.number (present_of q)) (listed ps) (in_off q.number p.number (present_of q) (λ same. omega (arith, same, lt))) (listed_off ps i p is over rise.1)

-- ---- what stands elsewhere

-- the files of other segments are as they were
pub stays : (queue : ℕ) (p : QueueSegment) (old new : Name → Option File) → OthersStay p old new → (n : ℕ) → n ≢ p.number → (new (index_name queue n) ≡ old (index_name queue n)) × (new (small_name queue n) ≡ old (small_name queue n))
stays queue p old new others n other = (
  others (index_name queue n) (apart queue n p.queue p.number) (λ e. other (ap (λ (m : Name). m.number) e)),
  others (small_name queue n) (λ e. other (ap (λ (m : Name). m.number) e)) (λ e. apart p.queue p.number queue n (sym e)),
)

-- the files of other queues are as they were
pub other_files : (queue : ℕ) (p : QueueSegment) (old new : Name → Option File) → p.queue ≡ queue → OthersStay p old new → OtherFilesStay queue old new
other_files queue p old new own others n off = others n
    (λ e. (off p.number).1 (e ∙ ap (λ (q : ℕ). small_name q p.number) own))
    (λ e. (off p.number).0 (e ∙ ap (λ (q : ℕ). index_name q p.number) own))

-- so a message of another segment stands in its place
pub in_other : (queue : ℕ) (p : QueueSegment) (old new : Name → Option File) → OthersStay p old new → (i : Item) (s : Stand) → s.segment ≢ p.number → IsInPlace queue old i s → IsInPlace queue new i s
in_other queue p old new others i s other is =
    let same = stays queue p old new others s.segment other in
    record {
      entry = subst (λ (o : Option File). IsAt (content_in o) s.at (entry_at i s)) (sym same.0) is.entry;
      record_is = λ small. subst (λ (o : Option File). IsWholeRecord (content_in o) s.place i.len) (sym same.1) (is.record_is small);
    }

all_stay : (queue : ℕ) (p : QueueSegment) (old new : Name → Option File) → OthersStay p old new → (items : List Item) → AllByRecursion (IsOff p.number) (standing_at items) → AreInPlace queue old items → AreInPlace queue new items
all_stay queue p old new others [] off stands = tt
all_stay queue p old new others (i ∷ is) off stands = (
  (λ s at. in_other queue p old new others i s (subst (λ (o : Option Stand). AllByRecursion (IsOff p.number) (listing_of o)) at (all_front (IsOff p.number) (listing_of i.stand) (standing_at is) off)).0 (stands.0 s at)),
  all_stay queue p old new others is (all_back (IsOff p.number) (listing_of i.stand) (standing_at is) off) stands.1,
)

within_without : (list : List QueueSegment) (i : ℕ) (items : List Item) → AllByRecursion (IsWithin list) items → AllByRecursion (IsWithin (take i list ++ drop (suc i) list)) items
within_without list i [] all = tt
within_without list i (x ∷ xs) all = (
  (λ s at small. all_without (λ (p : QueueSegment). p.number ≡ s.segment → s.place + x.len + 5 ≤ small_len p) list i (all.0 s at small)),
  within_without list i xs all.1,
)

-- So the messages are tied to the segments that are left,
pub tied_without : (items : List Item) (list : List QueueSegment) (i : ℕ) → Finished list i → IsTied items list → IsTied items (take i list ++ drop (suc i) list)
tied_without items list i f tied = record {
  listing = tied.listing ∙ sym (listed_without list i f.segment f.is f.over);
  made = all_without IsOpen list i tied.made;
  within = within_without list i items tied.within;
  split = tied.split;
  ready = tied.ready;
}

-- and each of them stands in its place.
pub stand_without : (queue : ℕ) (items : List Item) (list : List QueueSegment) (i : ℕ) (f : Finished list i) (old new : Name → Option File) → OthersStay f.segment old new → Rise list → IsTied items list → AreInPlace queue old items → AreInPlace queue new items
stand_without queue items list i f old new others rise tied = all_stay queue f.segment old new others items (subst (AllByRecursion (IsOff f.segment.number)) (sym tied.listing) (listed_off list i f.segment f.is f.over rise))
