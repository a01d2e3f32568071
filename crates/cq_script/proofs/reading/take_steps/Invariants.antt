use Rattle.std.proofs.Common.{◌≡◌, Ok, drop, map}
use Rattle.cq_script.specs.Grammar.{take_steps}
use Rattle.cq_script.proofs.reading.take_steps.Given as goal

-- what is left makes of the steps so far what all words make
abbrev pub invariant-loop-word : goal.invariant-loop-word
invariant-loop-word l = take_steps (Ok l.steps) (map (λ w. w.now) (drop l.word-index l.words)) ≡ take_steps (Ok l.fn.steps) (map (λ w. w.now) l.fn.words)
