use Rattle.std.proofs.Common.{◌≡◌, drop, []}
use Rattle.cq_grammar.specs.Requests.{with_queues}
use Rattle.cq_grammar.proofs.requests.queues_among.Given as goal

-- the numbers that are left make of the queues so far what all make
abbrev pub invariant-loop-number : goal.invariant-loop-number
invariant-loop-number l = with_queues l.count l.queues (drop l.number-index l.numbers) ≡ with_queues l.fn.count [] l.fn.numbers
