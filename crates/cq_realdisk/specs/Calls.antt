-- What each call of a disk that tells nothing does to its counts.
use Rattle.std.specs.Prelude.{ℕ, [], None, Result}
use Rattle.cq_disk.specs.Call.{Called, Elapses}

-- time goes on by one call, and nothing is told of what a crash leaves
abbrev pub Ticks : ℕ → ℕ → Type 0
Ticks before now = Elapses before now (λ t u image. ⊥) (λ t u image. ⊥)

-- a call of a disk that has no fuse and no planned faults, and whose every fault strikes
abbrev pub PlainlyCalled : {D T E : Type 0} → D → D → (D → ℕ) → (D → ℕ) → Result T E → Type 0 → Type 0
PlainlyCalled old new moment faults result IsFault = Called moment faults faults (λ disk. None) (λ disk. []) old new result IsFault
