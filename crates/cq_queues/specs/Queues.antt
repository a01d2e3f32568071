-- The queues of a node as its contracts see them.
use Rattle.std.specs.Prelude.{ℕ, List}
use Rattle.cq_items.specs.Item.{Item}
use Rattle.cq_queue.specs.Values.{QueueValue}
use Rattle.cq_queues.specs.declared.queues.NodeQueues.{NodeQueues}
use Rattle.cq_queues.specs.Values.{value_in}

-- the queue of a number; past the last one without messages
abbrev pub queue_at : NodeQueues → ℕ → QueueValue
queue_at n q = value_in n.cores.items q

-- its messages in line order
abbrev pub items_at : NodeQueues → ℕ → List Item
items_at n q = (queue_at n q).items

-- how many entries a segment gets at most
abbrev pub most_of : NodeQueues → ℕ
most_of n = n.most
