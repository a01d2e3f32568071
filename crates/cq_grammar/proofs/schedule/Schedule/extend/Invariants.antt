use Rattle.std.proofs.Common.{◌≡◌, drop}
use Rattle.cq_grammar.specs.Steps.{with_runs}
use Rattle.cq_grammar.proofs.schedule.Schedule.extend.Given as goal

-- the runs that are left make of the steps so far what all make
abbrev pub invariant-loop-run : goal.invariant-loop-run
invariant-loop-run l = with_runs l.self (drop l.run-index l.runs) ≡ with_runs l.fn.self l.fn.runs
