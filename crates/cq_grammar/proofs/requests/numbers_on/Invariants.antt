use Rattle.std.proofs.Common.{◌≡◌, drop, map}
use Rattle.cq_grammar.specs.Words.{each}
use Rattle.cq_grammar.specs.Requests.{number_on}
use Rattle.cq_grammar.proofs.Each.{after}
use Rattle.cq_grammar.proofs.requests.numbers_on.Given as goal

-- the numbers so far and those of what is left are all numbers
abbrev pub invariant-loop-word : goal.invariant-loop-word
invariant-loop-word l = after l.numbers.items (each number_on (map (λ w. w.now) (drop l.word-index l.words))) ≡ each number_on (map (λ w. w.now) l.fn.words)
