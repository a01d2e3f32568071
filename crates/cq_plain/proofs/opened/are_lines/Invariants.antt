use Rattle.std.proofs.Common.{◌≡◌, length}
use Rattle.cq_plain.specs.Table.{are_lines}
use Rattle.cq_plain.proofs.opened.are_lines.Given as goal

-- what is left decides
abbrev pub invariant-loop-first : goal.invariant-loop-first
invariant-loop-first l = are_lines l.lines ≡ are_lines l.left

abbrev pub decreases-loop-first : goal.decreases-loop-first
decreases-loop-first l = length l.left
