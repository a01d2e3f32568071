-- How many of the opened messages each queue has.
use Rattle.std.specs.Prelude.{◌≡◌, ℕ, ◌+◌, ◌==◌, if◌then◌else◌, List, length, map, Option, None, Some, unwrap_or}
use Rattle.std.specs.Ordering.{nat_cmp}
use Rattle.std.specs.BTreeMap.{BTreeMap, get}
use Rattle.cq_journal.specs.declared.lines.Line.{Line}
use Rattle.cq_journal.specs.History.{opened_in}
use Rattle.cq_print.specs.Text.{opened_line}

-- a count, and nothing where it is 0
abbrev pub counted : ℕ → Option ℕ
counted n = if n == 0 then None else Some n

-- a map counts one more message of a queue
abbrev pub CountsOne : BTreeMap ℕ ℕ → BTreeMap ℕ ℕ → ℕ → Type 0
CountsOne old new queue = (q : ℕ) → get nat_cmp new q ≡ (if queue == q then Some (unwrap_or (get nat_cmp old queue) 0 + 1) else get nat_cmp old q)

-- a map has the count of each queue that stands in the lines, and of no other
abbrev pub HasCounts : BTreeMap ℕ ℕ → List Line → Type 0
HasCounts counts lines = (q : ℕ) → get nat_cmp counts q ≡ counted (length (opened_in q lines))

-- the lines of queues with their counts
abbrev pub counts_lines : List (ℕ × ℕ) → List (List ℕ)
counts_lines counts = map (λ c. opened_line c.0 c.1) counts
