use Rattle.std.proofs.Common.{◌≡◌, ℕ, ◌+◌, ◌^◌, ◌<◌, List, [], ◌∷◌, Some, ◌++◌, length, take, get_or, ap, sym, subst, ◌∙◌, arith}
use Rattle.std.specs.Int.{w64, to_be_bytes}
use Rattle.std.specs.List.{flat_map}
use Rattle.std.proofs.Math.Seq.{take-length}
use Rattle.std.proofs.lemmas.List.{take_more, flat_map_more, get_or_default}
use Rattle.cq_block.specs.Plans.{Fits, AllFit, plan_of, move_bytes}
use Rattle.cq_block.specs.declared.layout.Move.{Move}
use Rattle.cq_block.proofs.Planned.{plan_back, fit_more}
use Rattle.cq_block.proofs.plan.encode_plan.Goals as goal

record Written (ms : List Move) (k : ℕ) (bytes : List ℕ) : Type 0 where
  spelled : bytes ≡ to_be_bytes w64 (length ms) ++ flat_map move_bytes (take k ms)
  fit : AllFit (take k ms)

all_back : (ms : List Move) (k : ℕ) (bytes : List ℕ) → Written ms k bytes → 0 < length ms → length ms < 2 ^ 64 → k ≡ length ms → plan_of bytes ≡ Some ms
all_back ms k bytes written some few end =
    let all : take k ms ≡ ms = ap (λ (n : ℕ). take n ms) end ∙ take-length ms in
    ap plan_of (written.spelled ∙ ap (λ (l : List Move). to_be_bytes w64 (length ms) ++ flat_map move_bytes l) all) ∙ plan_back ms some few (subst AllFit all written.fit)

more : (ms : List Move) (k : ℕ) (bytes longer : List ℕ) (m : Move) → Written ms k bytes → k < length ms → m ≡ get_or ms k m → longer ≡ bytes ++ move_bytes m → Fits m → Written ms (k + 1) longer
more ms k bytes longer m written within is new fits =
    let next : take (k + 1) ms ≡ take k ms ++ m ∷ [] = take_more ms k m within ∙ ap (λ (x : Move). take k ms ++ x ∷ []) (sym is) in
    record {
      spelled = new ∙ ap (λ (l : List ℕ). l ++ move_bytes m) written.spelled ∙ flat_map_more move_bytes (to_be_bytes w64 (length ms)) (take k ms) m ∙ ap (λ (l : List Move). to_be_bytes w64 (length ms) ++ flat_map move_bytes l) (sym next);
      fit = subst AllFit (sym next) (fit_more (take k ms) m written.fit fits);
    }

pub returns-clause-read_back : goal.returns-clause-read_back
returns-clause-read_back c =
    all_back c.args.moves.now c.loop-step.step-index c.loop-step.bytes.items (record { spelled = c.loop-step.invariant.spelled; fit = c.loop-step.invariant.fit }) c.requires (omega arith) (omega arith)

pub loop-step-preserved : goal.loop-step-preserved
loop-step-preserved c =
    let w = more c.args.moves.now c.loop-step.step-index c.loop-step.bytes.items c.spell.new.bytes.items (get_or c.args.moves.now c.loop-step.step-index (record { id = 0; from = 0; to = 0; len = 0 })) (record { spelled = c.loop-step.invariant.spelled; fit = c.loop-step.invariant.fit }) c.loop-step-test.true (get_or_default c.args.moves.now c.loop-step.step-index _ _ c.loop-step-test.true) c.in_ok-spell.ensures.spelled c.in_ok-spell.ensures.fits in
    record { spelled = w.spelled; fit = w.fit }
