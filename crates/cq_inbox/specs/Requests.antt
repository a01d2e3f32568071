-- Requests that a node can answer.
use Rattle.std.specs.Prelude.{ℕ, ◌<◌, Bool, true, false, List, length, count_by}
use Rattle.cq_bytes.specs.Numbers.{AreQueues}
use Rattle.cq_inbox.specs.declared.request.Request.{Request}
use Rattle.cq_inbox.specs.declared.request.Request.TheVariants.{Publish, Get}

-- a publish names some queues, and each queue is below 256
abbrev pub IsRequest : Request → Type 0
IsRequest (Publish queues body) = (0 < length queues) × AreQueues queues
IsRequest (Get queue) = queue < 256
IsRequest _ = Unit {0}

abbrev pub is_publish : Request → Bool
is_publish (Publish queues body) = true
is_publish _ = false

-- how many of the requests are publishes
abbrev pub publishes : List Request → ℕ
publishes rs = count_by is_publish rs
