-- The segments of a queue, rising by number.
use Rattle.std.specs.Prelude.{◌≡◌, ℕ, suc, ◌+◌, ◌<◌, ◌≤◌, Bool, true, false, ◌==◌, if◌then◌else◌, option_map, position, List, [], ◌∷◌, ◌++◌, Option, Some, None, slice_get}
use Rattle.std.specs.Coded.{Coded-set, coded_ℕ, le_prop}
use Rattle.std.specs.List.{list_any, AllByRecursion, AllZip}
use Rattle.cq_disk.specs.declared.name.Name.{Name}
use Rattle.cq_disk.specs.File.{File}
use Rattle.cq_small.specs.Store.{small_name}
use Rattle.cq_index.specs.Places.{index_name}
use Rattle.cq_queue.specs.Ascending.{put_in}
use Rattle.cq_queue.specs.declared.segment.QueueSegment.{QueueSegment}
use Rattle.cq_queue.specs.QueueSegment.{KnowsFiles, IsSame, IsNew, count_of, is_empty, is_over, present_of}

-- whether a segment has this number
abbrev pub has_number : List QueueSegment → ℕ → Bool
has_number list n = list_any (λ s. s.number == n) list

-- each is of this queue
abbrev pub AreOf : ℕ → List QueueSegment → Type 0
AreOf queue list = AllByRecursion (λ s. s.queue ≡ queue) list

-- each number is below this one
abbrev pub AreBelow : ℕ → List QueueSegment → Type 0
AreBelow n list = AllByRecursion (λ s. s.number < n) list

-- the numbers rise
abbrev pub Rise : List QueueSegment → Type 0
Rise [] = Unit {0}
Rise (s ∷ list) = AllByRecursion (λ r. s.number < r.number) list × Rise list

-- of one queue, rising
abbrev pub AreSegments : ℕ → List QueueSegment → Type 0
AreSegments queue list = AreOf queue list × Rise list

-- this segment stands at an index
abbrev pub StandsAt : List QueueSegment → ℕ → QueueSegment → Type 0
StandsAt list i s = slice_get list i ≡ Some s

-- the index of the first one with this number
abbrev pub place_in : ℕ → List QueueSegment → Option ℕ
place_in n list = position (λ s. s.number == n) list

-- the index of the lowest finished one
abbrev pub is_there : List QueueSegment → Bool
is_there [] = false
is_there (s ∷ list) = true

abbrev pub first_over : ℕ → List QueueSegment → Option ℕ
first_over most [] = None
first_over most (s ∷ list) = if is_over (is_there list) most s then Some 0 else option_map suc (first_over most list)

-- the numbers of those without a present entry
abbrev pub empty_numbers : List QueueSegment → List ℕ
empty_numbers [] = []
empty_numbers (s ∷ list) = if is_empty (present_of s) then s.number ∷ empty_numbers list else empty_numbers list

-- these numbers, with that of a segment without a present entry
abbrev pub put_empty : QueueSegment → List ℕ → List ℕ
put_empty s numbers = if is_empty (present_of s) then put_in s.number numbers else numbers

-- Each segment knows its files, and no other segment of the queue has any.
pub record AreAt (queue : ℕ) (list : List QueueSegment) (files : Name → Option File) : Type 0 where
  pub each : AllByRecursion (λ s. KnowsFiles s files) list
  pub none : (n : ℕ) → has_number list n ≡ false → (files (index_name queue n) ≡ None) × (files (small_name queue n) ≡ None)

-- the same segments, but for the memory that they have reserved
abbrev pub AreSame : List QueueSegment → List QueueSegment → Type 0
AreSame old new = AllZip IsSame old new

-- The segment that a queue's next entries join, out of the others: the last one, if it has fewer entries than a segment gets; else a new one under the next number.
pub data IsPicked (queue most : ℕ) (old new : List QueueSegment) (s : QueueSegment) : Type 0 where
  Last : (last : QueueSegment) → old ≡ new ++ last ∷ [] → IsSame last s → count_of last < most → IsPicked queue most old new s
  Next : (front : List QueueSegment) (last : QueueSegment) → old ≡ front ++ last ∷ [] → most ≤ count_of last → AreSame old new
      → IsNew queue (last.number + 1) s → IsPicked queue most old new s
  First : old ≡ [] → new ≡ [] → IsNew queue 0 s → IsPicked queue most old new s

AreOf-prop : (queue : ℕ) (list : List QueueSegment) → IsProp (AreOf queue list)
AreOf-prop queue [] = hlevel
AreOf-prop queue (s ∷ list) = hlevel (Coded-set coded_ℕ, AreOf-prop queue list)

AreAbove-prop : (n : ℕ) (list : List QueueSegment) → IsProp (AllByRecursion (λ r. n < r.number) list)
AreAbove-prop n [] = hlevel
AreAbove-prop n (s ∷ list) = hlevel (le_prop, AreAbove-prop n list)

Rise-prop : (list : List QueueSegment) → IsProp (Rise list)
Rise-prop [] = hlevel
Rise-prop (s ∷ list) = hlevel (AreAbove-prop s.number list, Rise-prop list)

-- the same, so that a struct can keep it
pub AreSegments-prop : (queue : ℕ) (list : List QueueSegment) → IsProp (AreOf queue list × Rise list)
AreSegments-prop queue list = hlevel (AreOf-prop queue list, Rise-prop list)
