use Rattle.std.proofs.Common.{◌≡◌, ℕ, List, [], ◌+◌, ◌-◌, ◌≤◌, ◌<◌, ◌∙◌, ◌++◌, ◌∷◌, take, drop, length, sym, ap, subst, arith, length-drop}
use Rattle.std.proofs.lemmas.List.{drop-drop}
use Rattle.std.proofs.Math.ListN.{drop_of_length-le}
use Rattle.std.proofs.Math.Seq.{take-length}
use Rattle.cq_block.specs.Blocks.{IsRun, IsFront, NoFront, IsCause}
use Rattle.cq_block.specs.declared.layout.Block.{Block}
use Rattle.cq_block.specs.declared.layout.BlockError.TheVariants.{Broken}
use Rattle.cq_block.proofs.Runs.{run_push, front_within, one_run, no_run}
use Rattle.cq_block.proofs.reader.chain.Goals as goal

place : (content : List ℕ) (offset : ℕ) → offset ≤ length content → length content - length (drop offset content) ≡ offset
place content offset within = omega (arith, length-drop offset content)

whole : (content : List ℕ) (offset : ℕ) → take (length content - offset) (drop offset content) ≡ drop offset content
whole content offset = ap (λ (n : ℕ). take n (drop offset content)) (sym (length-drop offset content)) ∙ take-length (drop offset content)

broken : (content : List ℕ) (offset : ℕ) (blocks : List Block) (p f : ℕ) → offset < length content → IsRun 128 content blocks (drop offset content)
    → NoFront (128 + offset) (take (length content - offset) (drop offset content)) p f → IsCause content (Broken p f)
broken content offset blocks p f more run none =
    let here : NoFront (128 + (length content - length (drop offset content))) (drop offset content) p f =
    subst (λ n. NoFront (128 + n) (drop offset content) p f) (sym (place content offset (omega arith))) (subst (λ l. NoFront (128 + offset) l p f) (whole content offset) none)
    in
    let left : 0 < length (drop offset content) = omega (arith, length-drop offset content) in
    (record { blocks = blocks; rest = drop offset content; run = run; more = left; none = here }, λ ys whole. no_run 128 content blocks ys (drop offset content) _ p f run left here whole)

pub returns-in-Err-clause-broken : goal.returns-in-Err-clause-broken
returns-in-Err-clause-broken c = broken c.args.content.now c.loop-offset.offset c.loop-offset.blocks.items c.in-Err.gap.place c.in-Err.gap.found c.loop-offset-test.true c.loop-offset.invariant.run c.in-Err.ensures

longer : (content : List ℕ) (offset : ℕ) (blocks : List Block) (b : Block) → offset ≤ length content → IsRun 128 content blocks (drop offset content)
    → IsFront (128 + offset) (take (length content - offset) (drop offset content)) b → (offset + b.len ≤ length content) × IsRun 128 content (blocks ++ b ∷ []) (drop (offset + b.len) content)
longer content offset blocks b within run front =
    let here : IsFront (128 + offset) (drop offset content) b = subst (λ l. IsFront (128 + offset) l b) (whole content offset) front in
    let size = front_within (128 + offset) (drop offset content) b here in (
      omega (arith, size.1, length-drop offset content),
      subst (IsRun 128 content (blocks ++ b ∷ [])) (drop-drop b.len offset content) (run_push 128 content blocks (drop offset content) b run (subst (λ n. IsFront (128 + n) (drop offset content) b) (sym (place content offset within)) here)),
    )

pub loop-offset-preserved : goal.loop-offset-preserved
loop-offset-preserved c =
    let l = longer c.args.content.now c.loop-offset.offset c.loop-offset.blocks.items c.in-Ok.block c.loop-offset.invariant.within c.loop-offset.invariant.run c.in-Ok.ensures in
    record { within = l.0; run = rw c.in_ok-push.ensures.items l.1 }

pub returns-clause-only : goal.returns-clause-only
returns-clause-only c = λ others whole. one_run 128 c.args.content.now _ others (subst (IsRun 128 c.args.content.now c.loop-offset.blocks.items) (drop_of_length-le c.args.content.now (omega arith)) c.loop-offset.invariant.run) whole
