-- What a call of a box changes.
use Rattle.std.specs.Prelude.{ℕ, ◌+◌, ◌-◌, ◌^◌, min, Bool, if◌then◌else◌, List, [], ◌∷◌, ◌++◌, Option, Some, None}

-- what it was told, where it tells that: one number of a session more
abbrev pub told_more : ℕ → ℕ → Option (List (ℕ × ℕ)) → Option (List (ℕ × ℕ))
told_more session number None = None
told_more session number (Some told) = Some (told ++ (session, number) ∷ [])

-- its count of faults: one more where the call failed, up to the last value
abbrev pub faults_after : Bool → ℕ → ℕ
faults_after failed faults = if failed then min (faults + 1) (2 ^ 64 - 1) else faults
