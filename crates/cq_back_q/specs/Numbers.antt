-- The numbers of a queue's files among names.
use Rattle.std.specs.Prelude.{◌≡◌, ℕ, ◌<◌, List, [], ◌∷◌, map, Contains}
use Rattle.std.specs.List.{AllByRecursion}
use Rattle.std.specs.List.Sorted.{IsStrictlySortedBy}
use Rattle.cq_disk.specs.declared.name.Name.{Name}
use Rattle.cq_disk.specs.declared.name.Kind.{Kind}
use Rattle.cq_disk.specs.Names.{name_cmp}

-- numbers that rise
abbrev pub Rise : List ℕ → Type 0
Rise [] = Unit {0}
Rise (n ∷ ns) = AllByRecursion (λ m. n < m) ns × Rise ns

-- each is below this number
abbrev pub AreBelow : ℕ → List ℕ → Type 0
AreBelow number numbers = AllByRecursion (λ n. n < number) numbers

-- the name of a queue's file of this kind
abbrev pub name_with : Kind → ℕ → ℕ → Name
name_with kind queue number = record { kind = kind; queue = queue; number = number }

-- the name of a queue's file of this kind, with a number above these
pub record IsNext (kind : Kind) (queue : ℕ) (numbers : List ℕ) (name : Name) : Type 0 where
  pub kind_is : name.kind ≡ kind
  pub queue_is : name.queue ≡ queue
  pub above : AreBelow name.number numbers

-- Rising numbers of a queue's files of this kind among these names: all of them, where the names are in order.
pub record AreNumbersOf (kind : Kind) (queue : ℕ) (names : List Name) (numbers : List ℕ) : Type 0 where
  pub rise : Rise numbers
  pub named : AllByRecursion (λ n. Contains names (name_with kind queue n)) numbers
  pub all : IsStrictlySortedBy name_cmp names → (n : ℕ) → Contains names (name_with kind queue n) → Contains numbers n

-- the numbers of names
abbrev pub numbers_in : List Name → List ℕ
numbers_in names = map (λ name. name.number) names
