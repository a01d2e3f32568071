use Rattle.std.proofs.Common.{◌≡◌, ◌<◌, ℕ, List, Option, Some, None, length, get_or, ◌∙◌, ap, arith, rules}
use Rattle.std.proofs.lemmas.List.{get_or-take, get_or-drop}
use Rattle.cq_disk.specs.declared.name.Kind.{Kind}
use Rattle.cq_disk.specs.File.{File}
use Rattle.cq_disk.specs.Files.{Reads}
use Rattle.cq_memdisk.specs.Given.{given, GivesAltered}
use Rattle.cq_memdisk.proofs.altered.AlteredDisk.read.Goals as goal

-- the bytes that are read, as they are given
gives : (kind : Kind) (file : Option File) (at : ℕ) (got new : List ℕ) → Reads file at got → length new ≡ length got → ((i : ℕ) → i < length new → get_or new i 0 ≡ given kind (get_or got i 0)) → GivesAltered kind file at new
gives kind None at got new reads len each = reads
gives kind (Some f) at got new reads len each = λ i lt.
    each i lt ∙ ap (given kind) (ap (λ (l : List ℕ). get_or l i 0) reads ∙ get_or-take (length got) _ i 0 (omega (arith, lt, len)) ∙ get_or-drop at f.reads i 0)

pub returns-clause-within : goal.returns-clause-within
returns-clause-within c = gives c.args.name.kind _ c.args.at c.read.new.into _ (search rules) c.alter.ensures.len c.alter.ensures.given
