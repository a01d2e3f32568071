use Rattle.std.proofs.Common.{◌≡◌, ◌++◌, length, replicate}
use Rattle.cq_grammar.proofs.script.Steps.repeat.Given as goal

abbrev pub invariant-loop-time : goal.invariant-loop-time
invariant-loop-time l = (l.self-inside.words.items ≡ l.initial.self-inside.words.items ++ replicate l._time l.word) × (l.before ≡ length l.initial.self-inside.words.items)
