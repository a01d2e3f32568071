-- Rising numbers, each once.
use Rattle.std.specs.Prelude.{ℕ, ◌<◌, ◌≤◌, nat_lt, ◌==◌, if◌then◌else◌, List, [], ◌∷◌, length, get_or}
use Rattle.std.specs.List.{AllByRecursion}

-- they rise
abbrev pub Ascend : List ℕ → Type 0
Ascend [] = Unit {0}
Ascend (x ∷ xs) = AllByRecursion (λ y. x < y) xs × Ascend xs

-- with this number in its place
abbrev pub put_in : ℕ → List ℕ → List ℕ
put_in n [] = n ∷ []
put_in n (x ∷ xs) = if nat_lt x n then x ∷ put_in n xs else n ∷ x ∷ xs

-- without this number
abbrev pub removed : ℕ → List ℕ → List ℕ
removed n [] = []
removed n (x ∷ xs) = if x == n then xs else x ∷ removed n xs

-- this is the place of a number: those before it are below
pub record IsPlace (n : ℕ) (xs : List ℕ) (i : ℕ) : Type 0 where
  pub within : i ≤ length xs
  pub below : (k : ℕ) → k < i → get_or xs k 0 < n
  pub above : (k : ℕ) → i ≤ k → k < length xs → n ≤ get_or xs k 0
