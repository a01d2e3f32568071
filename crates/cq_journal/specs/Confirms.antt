-- Confirms: how many there are, and that no publish lacks one.
use Rattle.std.specs.Prelude.{◌≡◌, ℕ, ◌+◌, true, List, [], ◌∷◌, ◌++◌}
use Rattle.std.specs.List.{AllByRecursion}
use Rattle.cq_journal.specs.declared.event.Entry.{Entry}
use Rattle.cq_journal.specs.declared.event.Event.{Event}
use Rattle.cq_journal.specs.declared.event.Event.TheVariants.{Confirmed}
use Rattle.cq_journal.specs.Legal.{has, is_publish, is_confirmed_by}

-- 1 where the event confirms a message
abbrev pub confirms : Event → ℕ
confirms (Confirmed client number id) = 1
confirms _ = 0

-- how many messages were confirmed
abbrev pub confirmed : List Entry → ℕ
confirmed [] = 0
confirmed (e ∷ past) = confirmed past + confirms e.event

-- every message that was published is confirmed
abbrev pub AreConfirmed : List Entry → Type 0
AreConfirmed journal = (client number id : ℕ) → has (is_publish client number id) journal ≡ true → has (is_confirmed_by id) journal ≡ true

-- confirms alone were added
pub record AddsConfirms (old new : List Entry) : Type 0 where
  pub added : List Entry
  pub is : new ≡ added ++ old
  pub each : AllByRecursion (λ e. confirms e.event ≡ 1) added
