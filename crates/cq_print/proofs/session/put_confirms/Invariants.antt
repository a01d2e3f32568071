use Rattle.std.proofs.Common.{◌≤◌, take}
use Rattle.cq_io.specs.Streams.{Adds}
use Rattle.cq_print.specs.Text.{confirmed_lines}
use Rattle.cq_print.specs.Clients.{behind}
use Rattle.cq_print.proofs.session.put_confirms.Given as goal

-- the confirms so far are put, and the count hasn't fallen
abbrev pub invariant-loop-entry : goal.invariant-loop-entry
invariant-loop-entry g l = record {
  put : Adds (g.W.Sink.pieces l.fn.sink) (g.W.Sink.pieces l.sink) (confirmed_lines (behind (take l.entry-index l.entries)) l.client);
  later : g.W.Sink.faults l.fn.sink ≤ g.W.Sink.faults l.sink;
}
