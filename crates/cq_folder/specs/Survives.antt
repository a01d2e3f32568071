-- What a crash has to leave of a journal.
use Rattle.cq_journal.specs.Lists.{HasDistinctIds, IsSublist}
use Rattle.std.specs.Prelude.{◌≡◌, ℕ, ◌==◌, Bool, true, false, List}
use Rattle.cq_bytes.specs.Numbers.{contains}
use Rattle.cq_journal.specs.declared.event.Event.{Event}
use Rattle.cq_journal.specs.declared.event.Event.TheVariants.{Opened, Confirmed}
use Rattle.cq_journal.specs.declared.event.Entry.{Entry}
use Rattle.cq_journal.specs.declared.event.Message.{Message}
use Rattle.cq_journal.specs.History.{has_id, opened_in, line, acked, settled}
use Rattle.cq_journal.specs.Legal.{has}

-- whether an event makes a message of a queue sure: it was confirmed, or stood there at the opening
abbrev pub makes_sure : ℕ → ℕ → Event → Bool
makes_sure q x (Opened lines) = has_id (opened_in q lines) x
makes_sure q x (Confirmed client number id) = id == x
makes_sure q x _ = false

-- The messages are some of the queue's line, each once, with their bodies; each message that is sure and wasn't removed
-- is among them, and none that is settled.
pub record SurvivesIn (past : List Entry) (q : ℕ) (ms : List Message) : Type 0 where
  pub sublist : IsSublist ms (line past q)
  pub once : HasDistinctIds ms
  pub kept : (x : ℕ) → has_id (line past q) x ≡ true → has (makes_sure q x) past ≡ true
      → contains (acked past q) x ≡ false → has_id ms x ≡ true
  pub gone : (x : ℕ) → contains (settled past q) x ≡ true → has_id ms x ≡ false

abbrev pub Survives : List Entry → (ℕ → List Message) → Type 0
Survives past lines = (q : ℕ) → SurvivesIn past q (lines q)
