use Rattle.std.proofs.Common.{◌≡◌, ◌+◌, drop, map}
use Rattle.cq_grammar.specs.Grammar.{read_lines, nothing_read}
use Rattle.cq_grammar.proofs.reader.read_lines.Given as goal

-- what is left makes of the reading so far what all lines make
abbrev pub invariant-loop-i : goal.invariant-loop-i
invariant-loop-i l = read_lines (l.i + 1) l.reading (map (λ w. w.now) (drop l.i l.lines)) ≡ read_lines 1 nothing_read (map (λ w. w.now) l.lines)
