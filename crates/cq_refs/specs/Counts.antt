-- Counts of references by message id. An id that the map doesn't have counts 0.
use Rattle.std.specs.Prelude.{ℕ, unwrap_or, if◌then◌else◌, ◌==◌}
use Rattle.std.specs.Ordering.{nat_cmp}
use Rattle.std.specs.FinMap.{FinMap, get, insert, remove}

-- the count of an id
abbrev pub count_of : FinMap nat_cmp ℕ → ℕ → ℕ
count_of counts id = unwrap_or (get counts id) 0

-- the counts, with this count of an id
abbrev pub with_count : FinMap nat_cmp ℕ → ℕ → ℕ → FinMap nat_cmp ℕ
with_count counts id n = if n == 0 then remove counts id else insert counts id n
