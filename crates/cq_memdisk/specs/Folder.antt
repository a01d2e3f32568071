-- The bytes of the files that are kept.
use Rattle.std.specs.Prelude.{ℕ, List, Option, Some, None, Vec}
use Rattle.std.specs.Option.{option_map}
use Rattle.std.specs.BTreeMap.{BTreeMap, get}
use Rattle.std.specs.declared.alloc.Global.{Global}
use Rattle.cq_disk.specs.declared.name.Name.{Name}
use Rattle.cq_disk.specs.Names.{name_cmp}

abbrev pub bytes_of : BTreeMap Name (Vec ℕ Global) → Name → Option (List ℕ)
bytes_of files name = option_map (λ file. file.items) (get name_cmp files name)

-- a fact of the bytes, where the file is there
abbrev pub IfThere : Option (List ℕ) → (List ℕ → Type 0) → Type 0
IfThere None P = Unit {0}
IfThere (Some bytes) P = P bytes
