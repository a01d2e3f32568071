-- The paths that are open.
use Rattle.std.specs.Prelude.{◌≡◌, ℕ, List, Bool, not, ◌||◌, Option, Some, None, if◌then◌else◌, String, string_bytes, filter}
use Rattle.std.specs.List.{list_any}
use Rattle.std.specs.Str.{bytes_eq}

-- whether one of these paths is this one
abbrev pub has_path : {Z : Type 0} → List (String Z) → List ℕ → Bool
has_path paths path = list_any (λ p. bytes_eq (string_bytes p) path) paths

-- the other paths
abbrev pub other_paths : {Z : Type 0} → List (String Z) → List ℕ → List (String Z)
other_paths paths path = filter (λ p. not (bytes_eq (string_bytes p) path)) paths

-- with how many faults the disk of a path was handed out: with none, where the path is open
abbrev pub given_to : {Z : Type 0} → List (String Z) → List ℕ → Option ℕ
given_to paths path = if has_path paths path then Some 0 else None

-- one path more
abbrev pub OneMore : {Z : Type 0} → List ℕ → List (String Z) → List (String Z) → Type 0
OneMore path old new = (p : List ℕ) → has_path new p ≡ (has_path old p || bytes_eq path p)
