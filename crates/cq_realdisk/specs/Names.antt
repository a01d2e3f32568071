-- The texts of names.
use Rattle.std.specs.Prelude.{◌≡◌, ℕ, List, ◌++◌, codes}
use Rattle.std.specs.Fmt.{decimal}
use Rattle.cq_disk.specs.declared.name.Kind.{Kind}
use Rattle.cq_disk.specs.declared.name.Kind.TheVariants as kind
use Rattle.cq_disk.specs.declared.name.Name.{Name}
use Rattle.cq_disk.specs.Names.{IsInRange}

-- `q`, the queue, `-`, the number and the extension, both numbers in decimal; of a shared file the number and the extension
abbrev pub text_of : Kind → ℕ → ℕ → List ℕ
text_of kind.Index queue number = codes "q" ++ decimal queue ++ codes "-" ++ decimal number ++ codes ".qi"
text_of kind.Small queue number = codes "q" ++ decimal queue ++ codes "-" ++ decimal number ++ codes ".qs"
text_of kind.Shared queue number = decimal number ++ codes ".rdq"

-- the text of a name
abbrev pub name_text : Name → List ℕ
name_text name = text_of name.kind name.queue name.number

-- a file can have this name, and this is its text
pub record IsNamed (name : Name) (text : List ℕ) : Type 0 where
  pub in_range : IsInRange name
  pub spelled : name_text name ≡ text
