-- What a table holds: the place of each message's record, and the content bytes that were noted of each file.
use Rattle.std.specs.Prelude.{◌≡◌, ℕ, unwrap_or, refl}
use Rattle.std.specs.Ordering.{nat_cmp}
use Rattle.std.specs.Coded.{Coded, code_by, coded×, coded_ℕ}
use Rattle.std.specs.FinMap.{FinMap, get, code}
use Rattle.cq_table.specs.Records.{Places, place_code, records_at, in_file}

pub record Located : Type 0 where
  pub places : Places
  pub contents : FinMap nat_cmp ℕ

-- it is stored as the pair of its fields
abbrev pub located_code : Coded Located
located_code = code_by (Places × FinMap nat_cmp ℕ) (coded× (code coded_ℕ place_code) (code coded_ℕ coded_ℕ)) (λ l. (l.places, l.contents)) (λ p. record { places = p.0; contents = p.1 }) (λ _. refl)

-- the content bytes that were noted of a file, 0 where none were
abbrev pub content_of : FinMap nat_cmp ℕ → ℕ → ℕ
content_of contents file = unwrap_or (get contents file) 0

-- a map by file has each file's records
abbrev pub IsByFile : Places → FinMap nat_cmp Places → Type 0
IsByFile places files = (f : ℕ) → records_at files f ≡ in_file places f
