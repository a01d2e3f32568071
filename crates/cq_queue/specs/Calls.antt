-- What the calls on the segments of a queue do.
use Rattle.std.specs.Prelude.{◌≡◌, ℕ, ◌<◌, ◌≤◌, List, [], ◌∷◌, ◌++◌, length, slice_set}
use Rattle.std.specs.VecDeque.{deque_len, deque_capacity}
use Rattle.cq_queue.specs.declared.segment.QueueSegment.{QueueSegment}
use Rattle.cq_queue.specs.declared.segments.Segments.{Segments}
use Rattle.cq_queue.specs.QueueSegment.{SameNumber, SameSmall, IsMore, IsLess, CanLose, present_of, reserved_of}
use Rattle.cq_queue.specs.Lists.{AreBelow, IsPicked, StandsAt}

-- their queue, how many entries a segment gets at most, and the segments
abbrev pub queue_of : Segments → ℕ
queue_of s = s.queue

abbrev pub most_of : Segments → ℕ
most_of s = s.most

abbrev pub list_of : Segments → List QueueSegment
list_of s = s.list.items

-- there is memory for one more, and for its number
pub record HasRoom (s : Segments) : Type 0 where
  pub list : deque_len s.list < deque_capacity s.list
  pub empty : deque_len s.list < deque_capacity s.empty

-- of the same queue, and as many entries for a segment at most
pub record SameQueue (old new : Segments) : Type 0 where
  pub queue : new.queue ≡ old.queue
  pub most : new.most ≡ old.most

-- the segment may stand behind the others, for which there is memory
pub record CanFollow (s : Segments) (segment : QueueSegment) : Type 0 where
  pub room : HasRoom s
  pub own : segment.queue ≡ s.queue
  pub next : AreBelow segment.number (list_of s)

-- the segment that the next entries join was taken out, with memory for so many and for its way back
pub record IsTaken (old new : Segments) (count : ℕ) (segment : QueueSegment) : Type 0 where
  pub picked : IsPicked (queue_of old) (most_of old) (list_of old) (list_of new) segment
  pub reserved : count ≤ reserved_of segment
  pub follows : CanFollow new segment

-- behind the others stands this one with so many entries more and so many bytes of records
pub record HasLast (old new : Segments) (segment : QueueSegment) (more bytes : ℕ) : Type 0 where
  pub last : QueueSegment
  pub list : list_of new ≡ list_of old ++ last ∷ []
  pub number : SameNumber segment last
  pub is : IsMore segment last more bytes

-- at this index stands a segment that can lose these entries
pub record CanLoseAt (s : Segments) (i : ℕ) (at : List ℕ) : Type 0 where
  pub within : i < length (list_of s)
  pub can : (p : QueueSegment) → StandsAt (list_of s) i p → CanLose p at

-- at this index stands a segment of the same number, and each other one is as it was
pub record HasOther (old new : Segments) (i : ℕ) (p : QueueSegment) : Type 0 where
  pub other : QueueSegment
  pub list : list_of new ≡ slice_set (list_of old) i other
  pub same : SameSmall p other

-- at this index stands the segment without these entries
pub record HasLess (old new : Segments) (i : ℕ) (at : List ℕ) (p : QueueSegment) : Type 0 where
  pub less : QueueSegment
  pub list : list_of new ≡ slice_set (list_of old) i less
  pub is : IsLess p less at

-- at this index stands a segment without a present entry
pub record CanRemove (s : Segments) (i : ℕ) : Type 0 where
  pub within : i < length (list_of s)
  pub over : (p : QueueSegment) → StandsAt (list_of s) i p → present_of p ≡ []
