-- What a node keeps of a client.
use Rattle.std.specs.Prelude.{ℕ, ◌==◌, not, if◌then◌else◌, List, [], ◌∷◌, filter, Option, None, Some}
use Rattle.cq_journal.specs.declared.reply.Reply.{Reply}
use Rattle.cq_client.specs.declared.open.OpenDelivery.{OpenDelivery}

-- the open deliveries, the oldest first, how many publishes and deliveries there were, and the replies, the oldest first
pub record Account : Type 0 where
  pub opens : List OpenDelivery
  pub published : ℕ
  pub delivered : ℕ
  pub replies : List Reply

-- what contracts see of a client: its account, and for how many more replies room is spare
pub record ClientValue : Type 0 where
  pub account : Account
  pub room : ℕ

-- no delivery, no publish and no reply
abbrev pub no_account : Account
no_account = record { opens = []; published = 0; delivered = 0; replies = [] }

-- the queue of an open delivery
abbrev pub queue_of : ℕ → List OpenDelivery → Option ℕ
queue_of delivery [] = None
queue_of delivery (o ∷ os) = if o.delivery == delivery then Some o.queue else queue_of delivery os

-- the open deliveries but one
abbrev pub without : ℕ → List OpenDelivery → List OpenDelivery
without delivery os = filter (λ o. not (o.delivery == delivery)) os
