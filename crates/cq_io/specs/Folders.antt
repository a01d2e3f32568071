-- What is said of folders by their paths, and how the faults of their disks are counted.
use Rattle.std.specs.Prelude.{◌≡◌, ◌≢◌, ◌⊎◌, ℕ, ◌-◌, ◌^◌, ◌<◌, ◌≤◌, Bool, false, List, Option, Some, None, Result, IsErrOf}
use Rattle.cq_disk.specs.Rose.{Rose}

-- what is said of every path but this one stays as it was
abbrev pub SameElsewhere : {A : Type 0} → List ℕ → (List ℕ → A) → (List ℕ → A) → Type 0
SameElsewhere path old new = (p : List ℕ) → p ≢ path → new p ≡ old p

-- what is said of every path stays as it was
abbrev pub SameAtAll : {A : Type 0} → (List ℕ → A) → (List ℕ → A) → Type 0
SameAtAll old new = (p : List ℕ) → new p ≡ old p

-- The disk that stood at this path is handed out, with its count of faults. None stands there now, and the path can't be opened.
pub record HandsOut {F D : Type 0} (tells : Type 0) (inside : F → List ℕ → Option D) (opens : F → List ℕ → Bool) (given : F → List ℕ → Option ℕ) (faults_of : D → ℕ) (path : List ℕ) (old new : F) (disk : D) : Type 0 where
  pub stood : tells → inside old path ≡ Some disk
  pub gone : tells → inside new path ≡ None
  pub shut : tells → opens new path ≡ false
  pub count : given new path ≡ Some (faults_of disk)

-- This disk stands at the path now, and isn't handed out.
pub record TakesBack {F D : Type 0} (tells : Type 0) (inside : F → List ℕ → Option D) (given : F → List ℕ → Option ℕ) (path : List ℕ) (new : F) (disk : D) : Type 0 where
  pub stands : tells → inside new path ≡ Some disk
  pub back : given new path ≡ None

-- A call for one path changes nothing that is said of the others.
pub record LeavesOthers {F D : Type 0} (tells : Type 0) (inside : F → List ℕ → Option D) (opens : F → List ℕ → Bool) (given : F → List ℕ → Option ℕ) (path : List ℕ) (old new : F) : Type 0 where
  pub stand : tells → SameElsewhere path (inside old) (inside new)
  pub can_open : tells → SameElsewhere path (opens old) (opens new)
  pub are_out : SameElsewhere path (given old) (given new)

-- Nothing that is said of any path changes.
pub record LeavesAll {F D : Type 0} (tells : Type 0) (inside : F → List ℕ → Option D) (opens : F → List ℕ → Bool) (given : F → List ℕ → Option ℕ) (old new : F) : Type 0 where
  pub stand : tells → SameAtAll (inside old) (inside new)
  pub can_open : tells → SameAtAll (opens old) (opens new)
  pub are_out : SameAtAll (given old) (given new)

-- A fault is told only where the count has risen, and where folders tell, the count rises only by a fault.
pub record CountsFaults {T E : Type 0} (tells : Type 0) (fault : E) (before now : ℕ) (result : Result T E) : Type 0 where
  pub later : before ≤ now
  pub failed : IsErrOf result fault → Rose before now
  pub only : tells → now ≢ before → IsErrOf result fault

-- a disk that was handed out with the first count has a greater one now, or one at its last value
abbrev pub HasRisen : Option ℕ → ℕ → Type 0
HasRisen None count = ⊥
HasRisen (Some given) count = (given < count) ⊎ (2 ^ 64 - 1 ≤ count)

-- The count of disks' faults after a disk was handed back: it rises exactly where the disk's own has.
pub record TakesOver (given : Option ℕ) (count before now : ℕ) : Type 0 where
  pub later : before ≤ now
  pub only : now ≢ before → HasRisen given count
  pub rises : HasRisen given count → Rose before now
