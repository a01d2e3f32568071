use Rattle.std.proofs.Common.{◌≡◌, ℕ, ◌+◌, max, List, [], ◌∷◌, ◌++◌, Option, None, get_or, take, length, sym, ap, ◌∙◌, arith, ◌<◌}
use Rattle.std.proofs.Math.Seq.{take-length}
use Rattle.std.proofs.lemmas.List.{take_more, get_or_default}
use Rattle.cq_marks.specs.declared.Marked.{Marked}
use Rattle.cq_marks.specs.Marks.{end_in, greatest_end}
use Rattle.cq_marks.proofs.Marks.lowest_cut.Goals as goal

greatest_end-push : (file : ℕ) (ms : List (Option Marked)) (m : Option Marked) → greatest_end file (ms ++ m ∷ []) ≡ max (greatest_end file ms) (end_in file m)
greatest_end-push file [] m = omega arith
greatest_end-push file (x ∷ xs) m = ap (max (end_in file x)) (greatest_end-push file xs m) ∙ omega arith

-- one mark further
next : (file : ℕ) (ms : List (Option Marked)) (k cut : ℕ) (m : Option Marked) → k < length ms → cut ≡ greatest_end file (take k ms) → m ≡ get_or ms k m → max cut (end_in file m) ≡ greatest_end file (take (k + 1) ms)
next file ms k cut m within is at =
    ap (λ n. max n (end_in file m)) is
    ∙ sym (greatest_end-push file (take k ms) m)
    ∙ ap (greatest_end file) (sym (take_more ms k m within ∙ ap (λ (x : Option Marked). take k ms ++ x ∷ []) (sym at)))

pub loop-mark-preserved : goal.loop-mark-preserved
loop-mark-preserved c =
    let ms = c.deref-mark-items.result.now in
    let k = c.loop-mark.mark-index in
    let m = get_or ms k None in
    let e = c.end_in.ensures in
    let cut : c.max-cut.result ≡ greatest_end c.args.file (take (k + 1) ms) =
    c.max-cut.ensures ∙ ap (max c.loop-mark.cut) e.end ∙ next c.args.file ms k c.loop-mark.cut m c.loop-mark-test.true c.loop-mark.invariant.cut (get_or_default ms k None m c.loop-mark-test.true)
    in
    record { cut = cut; small = omega (arith, c.max-cut.ensures, e.small) }

pub returns : goal.returns
returns c =
    let ms = c.deref-mark-items.result.now in
    let end : c.loop-mark.mark-index ≡ length ms = omega arith in
    c.loop-mark.invariant.cut
    ∙ ap (greatest_end c.args.file) (ap (λ (n : ℕ). take n ms) end ∙ take-length ms ∙ c.deref-mark-items.ensures.value ∙ c.self.view_is)
