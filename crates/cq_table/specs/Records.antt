-- Where records stand, by message id, and the records of one file.
use Rattle.std.specs.Prelude.{◌≡◌, ℕ, ◌+◌, Bool, false, ◌==◌, List, map, unwrap_or, if◌then◌else◌, refl}
use Rattle.std.specs.Option.{option_map_or}
use Rattle.std.specs.Ordering.{nat_cmp}
use Rattle.std.specs.Coded.{Coded, code_by, coded×, coded_ℕ}
use Rattle.std.specs.FinMap.{FinMap, get, empty, entries, retain_keys}
use Rattle.cq_block.specs.declared.layout.Block.{Block}
use Rattle.cq_map.specs.Totals.{total}
use Rattle.cq_table.specs.declared.Place.{Place}

-- a place is stored as the list of its numbers
abbrev pub place_code : Coded Place
place_code = code_by (ℕ × (ℕ × ℕ)) (coded× coded_ℕ (coded× coded_ℕ coded_ℕ)) (λ p. (p.file, (p.at, p.len))) (λ q. record { file = q.0; at = q.1.0; len = q.1.1 }) (λ _. refl)

-- places by message id
abbrev pub Places : Type 0
Places = FinMap nat_cmp Place

-- the whole length of a record: its body's and 25 bytes more
abbrev pub whole_len : Place → ℕ
whole_len p = p.len + 25

-- the whole length of a message's record, 0 where there is none
abbrev pub len_at : Places → ℕ → ℕ
len_at places id = option_map_or whole_len (get places id) 0

-- whether the record of a message stands in a file
abbrev pub stands_in : Places → ℕ → ℕ → Bool
stands_in places file id = option_map_or (λ (p : Place). p.file == file) (get places id) false

-- the places of the records that stand in a file
abbrev pub in_file : Places → ℕ → Places
in_file places file = retain_keys places (stands_in places file)

-- the sum of the whole lengths of a file's records
abbrev pub live_bytes : Places → ℕ → ℕ
live_bytes places file = total whole_len (in_file places file)

-- a record as a block of its file
abbrev pub block_of : ℕ × Place → Block
block_of e = record { at = e.1.at; len = whole_len e.1; id = e.0 }

-- records as blocks, by rising id
abbrev pub blocks_of : Places → List Block
blocks_of places = map block_of (entries places)

-- the records of a file, as a map by file has them
abbrev pub records_at : FinMap nat_cmp Places → ℕ → Places
records_at files file = unwrap_or (get files file) empty

-- one file's records are now these, and the other files' are as before
abbrev pub ChangesFile : FinMap nat_cmp Places → FinMap nat_cmp Places → ℕ → Places → Type 0
ChangesFile old new file records = (f : ℕ) → records_at new f ≡ (if f == file then records else records_at old f)
