-- What is kept of requests, and the words of what is open.
use Rattle.std.specs.Prelude.{◌≡◌, ◌≢◌, ℕ, ◌<◌, false, List, [], ◌∷◌, length, map, get_or, Option, None, Some}
use Rattle.cq_bytes.specs.Numbers.{contains}
use Rattle.cq_inbox.specs.declared.request.Request.{Request}
use Rattle.cq_inbox.specs.declared.request.Request.TheVariants.{Publish, Get, Ack, End}
use Rattle.cq_desk.specs.declared.kept.Kind.{Kind}
use Rattle.cq_desk.specs.declared.kept.Kind.TheVariants as kind
use Rattle.cq_inbox.specs.Requests.{IsRequest}
use Rattle.cq_client.specs.declared.open.OpenDelivery.{OpenDelivery}

-- the kept request of a client
abbrev pub kept_of : List (Option Request) → ℕ → Option Request
kept_of kept c = get_or kept c None

abbrev pub listed : Option Request → List Request
listed None = []
listed (Some r) = r ∷ []

-- there are as many places, and those of other clients are as they were
pub record OthersKept (client : ℕ) (old new : List (Option Request)) : Type 0 where
  pub count : length new ≡ length old
  pub same : (c : ℕ) → c ≢ client → kept_of new c ≡ kept_of old c

-- a kept request can be answered
abbrev pub MayKeep : Option Request → Type 0
MayKeep None = Unit {0}
MayKeep (Some r) = IsRequest r

-- the kept request is a publish that can be answered
abbrev pub IsPublish : Option Request → Type 0
IsPublish (Some (Publish queues body)) = IsRequest (Publish queues body)
IsPublish _ = ⊥

-- the kept request is of this kind, and can be answered
abbrev pub IsKind : Kind → Option Request → Type 0
IsKind kind.Publish r = IsPublish r
IsKind (kind.Get queue) r = (r ≡ Some (Get queue)) × (queue < 256)
IsKind (kind.Ack delivery) r = r ≡ Some (Ack delivery)
IsKind kind.End r = r ≡ Some End

-- the numbers of open deliveries
abbrev pub numbers_of : List OpenDelivery → List ℕ
numbers_of os = map (λ o. o.delivery) os

-- no number stands twice
abbrev pub AreOnce : List ℕ → Type 0
AreOnce [] = Unit {0}
AreOnce (x ∷ xs) = (contains xs x ≡ false) × AreOnce xs

-- Each open delivery has a word, and nothing else does.
pub record HasWords (words : List ℕ) (opens : List OpenDelivery) : Type 0 where
  pub count : length words ≡ length opens
  pub each : (d : ℕ) → contains words d ≡ contains (numbers_of opens) d
