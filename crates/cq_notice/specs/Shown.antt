-- What the boxes of all clients show.
use Rattle.std.specs.Prelude.{◌≡◌, ℕ, Bool, false, if◌then◌else◌, List, [], ◌∷◌, Option, Some, None, slice_index_or, slice_set}
use Rattle.cq_notice.specs.Told.{told_more, faults_after}
use Rattle.cq_notice.specs.declared.notices.Boxes.{Boxes}

-- of one box: what it was told, where it tells that; its count of faults; and whether it is told no more
pub record Shown : Type 0 where
  pub told : Option (List (ℕ × ℕ))
  pub faults : ℕ
  pub silent : Bool

-- of one client's place, by what its box was told and counts
abbrev pub shown_at : {B : Type 0} → (B → Option (List (ℕ × ℕ))) → (B → ℕ) → Option B → Bool → Option Shown
shown_at told faults None silent = None
shown_at told faults (Some box) silent = Some (record { told = told box; faults = faults box; silent = silent })

-- of all places, in the clients' order
abbrev pub shown_all : {B : Type 0} → (B → Option (List (ℕ × ℕ))) → (B → ℕ) → List (Option B) → List Bool → List (Option Shown)
shown_all told faults [] silent = []
shown_all told faults (place ∷ places) [] = shown_at told faults place false ∷ shown_all told faults places []
shown_all told faults (place ∷ places) (s ∷ silent) = shown_at told faults place s ∷ shown_all told faults places silent

-- of the boxes of all clients
abbrev pub shown : {B : Type 0} → (B → Option (List (ℕ × ℕ))) → (B → ℕ) → Boxes B → List (Option Shown)
shown told faults boxes = shown_all told faults boxes.places.items boxes.silent

-- a box that isn't silent is told one number more; it is silent from then on exactly if that failed
abbrev pub told_one : ℕ → ℕ → Bool → Option Shown → Option Shown
told_one session number failed None = None
told_one session number failed (Some s) = Some (if s.silent then s
    else record { told = told_more session number s.told; faults = faults_after failed s.faults; silent = failed })

-- the client's box is told, where it has one, and no other
abbrev pub Tells : ℕ → ℕ → ℕ → List (Option Shown) → List (Option Shown) → Type 0
Tells client session number old new =
    (failed : Bool) × (new ≡ slice_set old client (told_one session number failed (slice_index_or old client None)))
