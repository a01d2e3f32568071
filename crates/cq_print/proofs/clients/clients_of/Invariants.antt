use Rattle.std.proofs.Common.{take, reverse}
use Rattle.cq_print.specs.Clients.{HasEntries}
use Rattle.cq_print.proofs.clients.clients_of.Given as goal

abbrev pub invariant-loop-entry : goal.invariant-loop-entry
invariant-loop-entry l = HasEntries l.clients (reverse (take l.entry-index l.entries))
