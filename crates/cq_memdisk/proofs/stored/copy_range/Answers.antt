use Rattle.std.proofs.Common.{List, ℕ, [], ◌∷◌, sym, subst, arith}
use Rattle.cq_memdisk.specs.Ranges.{Copied}
use Rattle.cq_memdisk.proofs.Ranges.{copied_one}
use Rattle.cq_memdisk.proofs.stored.copy_range.Goals as goal

pub returns : goal.returns
returns c =
    let old = c.args.to.now.items in
    subst (λ (l : List ℕ). Copied ((c.args.at, c.args.len) ∷ []) c.args.end c.args.from.now old l) (sym c.copy_part.ensures)
    (copied_one c.args.at c.args.len c.args.end c.min-start.result c.min-stop.result c.args.from.now old c.requires.lens c.requires.within (omega arith) c.min-start.ensures (omega (arith, c.min-stop.ensures, c.saturating_add.ensures)))
