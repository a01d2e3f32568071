-- What a journal shows.
use Rattle.std.specs.Prelude.{ℕ, List}
use Rattle.cq_journal.specs.declared.event.Entry.{Entry}

-- the entries, the newest first, and for how many more room is spare
pub record Recorded : Type 0 where
  pub entries : List Entry
  pub room : ℕ
