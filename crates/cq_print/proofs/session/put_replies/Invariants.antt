use Rattle.std.proofs.Common.{◌≤◌, take}
use Rattle.cq_io.specs.Streams.{Adds}
use Rattle.cq_print.specs.Bodies.{shown}
use Rattle.cq_print.specs.Clients.{behind}
use Rattle.cq_print.specs.Lines.{reply_lines}
use Rattle.cq_print.proofs.session.put_replies.Given as goal

-- the lines of the entries so far are put, and the count hasn't fallen
abbrev pub invariant-loop-place : goal.invariant-loop-place
invariant-loop-place g l = record {
  put : Adds (g.W.Sink.pieces l.fn.sink) (g.W.Sink.pieces l.sink) (reply_lines (shown l.bodies) l.client l.left_out (behind (take l.place l.entries)));
  later : g.W.Sink.faults l.fn.sink ≤ g.W.Sink.faults l.sink;
}
