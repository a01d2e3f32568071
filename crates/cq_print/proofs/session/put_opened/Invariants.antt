use Rattle.std.proofs.Common.{◌≤◌, take, reverse}
use Rattle.cq_io.specs.Streams.{Adds}
use Rattle.cq_print.specs.Text.{opened_lines}
use Rattle.cq_print.proofs.session.put_opened.Given as goal

-- the opened lines so far are put, and the count hasn't fallen
abbrev pub invariant-loop-entry : goal.invariant-loop-entry
invariant-loop-entry g l = record {
  put : Adds (g.W.Sink.pieces l.fn.sink) (g.W.Sink.pieces l.sink) (opened_lines (reverse (take l.entry-index l.entries)));
  later : g.W.Sink.faults l.fn.sink ≤ g.W.Sink.faults l.sink;
}
