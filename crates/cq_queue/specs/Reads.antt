-- What a read of a body from a segment asks.
use Rattle.std.specs.Prelude.{ℕ, ◌+◌, ◌<◌, ◌≤◌, length}
use Rattle.cq_queue.specs.declared.segment.QueueSegment.{QueueSegment}
use Rattle.cq_queue.specs.declared.segments.Segments.{Segments}
use Rattle.cq_queue.specs.QueueSegment.{small_len}
use Rattle.cq_queue.specs.Lists.{StandsAt}
use Rattle.cq_queue.specs.Calls.{list_of}

-- at this index stands a segment in whose small store a record of this length lies at this place
pub record CanReadAt (s : Segments) (i place len : ℕ) : Type 0 where
  pub within : i < length (list_of s)
  pub range : (p : QueueSegment) → StandsAt (list_of s) i p → place + len + 5 ≤ small_len p
