use Rattle.std.proofs.Common.{ℕ, List, [], ◌∷◌, take, get_or, sym, subst}
use Rattle.std.proofs.lemmas.List.{take_more}
use Rattle.cq_memdisk.specs.Ranges.{Copied}
use Rattle.cq_memdisk.proofs.Ranges.{copied_then}
use Rattle.cq_memdisk.proofs.stored.copy_ranges.Goals as goal

pub loop-range-preserved : goal.loop-range-preserved
loop-range-preserved c =
    let ranges = c.args.ranges.now in
    let k = c.loop-range.range-index in
    let new = c.copy_range.new.to.items in
    let from = c.args.from.now in
    subst (λ (l : List (ℕ × ℕ)). Copied l c.args.end from c.args.to.now.items new) (sym (take_more ranges k (0, 0) c.loop-range-test.true))
    (copied_then (take k ranges) (get_or ranges k (0, 0) ∷ []) c.args.end from c.args.to.now.items c.loop-range.to.items new c.loop-range.invariant c.copy_range.ensures)
