use Rattle.std.proofs.Common.{◌≡◌, drop, map}
use Rattle.cq_grammar.specs.Words.{each}
use Rattle.cq_grammar.specs.Steps.{run_of}
use Rattle.cq_grammar.proofs.Each.{after}
use Rattle.cq_grammar.proofs.steps.runs_of.Given as goal

-- the runs so far and those of what is left are all runs
abbrev pub invariant-loop-word : goal.invariant-loop-word
invariant-loop-word l = after l.runs.items (each (run_of l.clients) (map (λ w. w.now) (drop l.word-index l.words))) ≡ each (run_of l.fn.clients) (map (λ w. w.now) l.fn.words)
