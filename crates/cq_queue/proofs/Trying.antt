-- What the tests know of the segments that they fill and empty.
use Rattle.std.proofs.Common.{◌≡◌, ℕ, zero, suc, ◌+◌, ◌<◌, ◌≤◌, Bool, false, List, [], ◌∷◌, ◌++◌, length, Option, Some, None, sym, ◌∙◌, subst, arith}
use Rattle.std.specs.Prelude.{◌==◌, slice_get, All, Contains}
use Rattle.std.specs.List.Sorted.{IsStrictlyIncreasing}
use Rattle.std.proofs.lemmas.Bool.{false≢true}
use Rattle.std.proofs.lemmas.List.Elements.{All-contains_itself}
use Rattle.cq_disk.specs.declared.name.Name.{Name}
use Rattle.cq_disk.specs.File.{File}
use Rattle.cq_queue.specs.declared.segment.QueueSegment.{QueueSegment}
use Rattle.cq_queue.specs.QueueSegment.{CanLose, present_of}
use Rattle.cq_queue.specs.Lists.{AreAt, AreBelow, AreSame, IsPicked}
use Rattle.cq_queue.specs.Lists.IsPicked.{Last, Next, First}
use Rattle.cq_queue.proofs.Changes.{all_append, all_front, all_back, some_same}

none_some : {A : Type 0} (a : A) → None ≡ Some a → ⊥
none_some a e = cc

-- numbers below one are below the next, once the segment that the next entries join is behind the others
same_below : (n : ℕ) (ps qs : List QueueSegment) → AreSame ps qs → AreBelow n ps → AreBelow n qs
same_below n [] [] same below = tt
same_below n [] (q ∷ qs) same below = absurd same
same_below n (p ∷ ps) [] same below = absurd same
same_below n (p ∷ ps) (q ∷ qs) same below = (subst (λ (k : ℕ). k < n) (sym same.0.number.number) below.0, same_below n ps qs same.1 below.1)

pub wider_below : (n : ℕ) (ps : List QueueSegment) → AreBelow n ps → AreBelow (n + 1) ps
wider_below n [] below = tt
wider_below n (p ∷ ps) below = (let lt = below.0 in omega (arith, lt), wider_below n ps below.1)

pub picked_below : (queue most n : ℕ) (old new : List QueueSegment) (s last : QueueSegment) → IsPicked queue most old new s → last.number ≡ s.number → AreBelow n old → AreBelow (n + 1) (new ++ last ∷ [])
picked_below queue most n old new s r (Last last whole same lt) is below =
    let front = subst (AreBelow n) whole below in
    let l = (all_back (λ (p : QueueSegment). p.number < n) new (last ∷ []) front).0 in
    let number = same.number.number in
    all_append (λ (p : QueueSegment). p.number < n + 1) new (r ∷ []) (wider_below n new (all_front (λ (p : QueueSegment). p.number < n) new (last ∷ []) front)) (omega (arith, l, number, is), tt)
picked_below queue most n old new s r (Next front last whole full same fresh) is below =
    let l = (all_back (λ (p : QueueSegment). p.number < n) front (last ∷ []) (subst (AreBelow n) whole below)).0 in
    let number = fresh.number in
    all_append (λ (p : QueueSegment). p.number < n + 1) new (r ∷ []) (wider_below n new (same_below n old new same below)) (omega (arith, l, number, is), tt)
picked_below queue most n old new s r (First none empty fresh) is below =
    let number = fresh.number in
    subst (λ (l : List QueueSegment). AreBelow (n + 1) (l ++ r ∷ [])) (sym empty) (omega (arith, number, is), tt)

pub below_up : (n m : ℕ) (ps : List QueueSegment) → n ≤ m → AreBelow n ps → AreBelow m ps
below_up n m [] le below = tt
below_up n m (p ∷ ps) le below = (let lt = below.0 in omega (arith, lt, le), below_up n m ps le below.1)

-- all entries of a segment that lists some can go
pub can_lose : (list : List QueueSegment) (x : QueueSegment) (at : List ℕ) → Some x ≡ slice_get list 0 → at ≡ present_of x → IsStrictlyIncreasing (present_of x) → 0 < length at → (0 < length list) × ((p : QueueSegment) → slice_get list 0 ≡ Some p → CanLose p at)
can_lose [] x at is same rising some = absurd (none_some x (sym is))
can_lose (q ∷ list) x at is same rising some = (
  omega arith,
  λ p here. subst (λ (r : QueueSegment). CanLose r at) (some_same x p (is ∙ here)) (record {
    some = some;
    rising = subst IsStrictlyIncreasing (sym same) rising;
    present = subst (λ (l : List ℕ). All (Contains (present_of x)) l) (sym same) (All-contains_itself (present_of x));
  }),
)

pub at_queue : {list : List QueueSegment} {files : Name → Option File} (p q : ℕ) → p ≡ q → AreAt p list files → AreAt q list files
at_queue {list} {files} p q same at = subst (λ (n : ℕ). AreAt n list files) same at

pub some_of : (n : ℕ) (b : Bool) → b ≡ (n == 0) → b ≡ false → 0 < n
some_of zero b is no' = absurd (false≢true (sym no' ∙ is))
some_of (suc n) b is no' = omega arith
