use Rattle.std.proofs.Common.{[], map, ℕ, ◌+◌, ◌<◌, List, drop, length, sym, ap, ◌∙◌, Ok, Err, Bor, arith, Result, subst}
use Rattle.cq_script.specs.declared.script.StepWord.{StepWord}
use Rattle.cq_script.specs.declared.script.Why.{Why}
use Rattle.cq_script.specs.Grammar.{GivesSteps, take_steps}
use Rattle.cq_script.proofs.Sticky.{take_steps-more, GivesSteps-steps}
use Rattle.cq_script.proofs.reading.take_steps.Goals as goal

pub loop-word-preserved : goal.loop-word-preserved
loop-word-preserved c =
    let words : List (Bor (List ℕ)) = c.args.words.now in
    let i = c.loop-word.word-index in
    let within : i < length words = omega arith in
    ap (λ (r : Result (List StepWord) Why). take_steps r (map (λ w. w.now) (drop (i + 1) words))) (sym c.in_default.ensures)
    ∙ sym (take_steps-more (Ok c.loop-word.steps) words i (record { ref_ptr = (0, 0); now = [] }) within)
    ∙ c.loop-word.invariant

pub returns-in-Err : goal.returns-in-Err
returns-in-Err c =
    let words : List (Bor (List ℕ)) = c.args.words.now in
    let i = c.loop-word.word-index in
    let within : i < length words = omega arith in
    subst (λ (r : Result (List StepWord) Why). GivesSteps (Err c.in-Err.error) c.take_step.new.steps r)
    (sym (take_steps-more (Ok c.loop-word.steps) words i (record { ref_ptr = (0, 0); now = [] }) within) ∙ c.loop-word.invariant)
    (GivesSteps-steps c.in-Err.error c.take_step.new.steps _ (map (λ w. w.now) (drop (i + 1) words)) c.in-Err.ensures)
