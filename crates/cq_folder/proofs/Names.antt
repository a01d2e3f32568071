-- An index and a small store are no shared files.
use Rattle.std.proofs.Common.{◌≡◌, ◌≢◌, ℕ}
use Rattle.cq_disk.specs.declared.name.Kind.TheVariants.{Index, Small as SmallFile, Shared}
use Rattle.cq_small.specs.Store.{small_name}
use Rattle.cq_index.specs.Places.{index_name}

pub index_own : (q n : ℕ) → (index_name q n).kind ≢ Shared
index_own q n e = let k : Index ≡ Shared = e in cc

pub small_own : (q n : ℕ) → (small_name q n).kind ≢ Shared
small_own q n e = let k : SmallFile ≡ Shared = e in cc
