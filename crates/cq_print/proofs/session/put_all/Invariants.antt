use Rattle.std.proofs.Common.{◌≤◌, map}
use Rattle.std.specs.Map.Iter.{deref_pair}
use Rattle.cq_io.specs.Streams.{Adds}
use Rattle.cq_print.specs.Bodies.{shown}
use Rattle.cq_print.specs.Clients.{lines_of}
use Rattle.cq_print.proofs.session.put_all.Given as goal

-- the lines of the clients so far are put, and the count of faults hasn't fallen
abbrev pub invariant-loop-client : goal.invariant-loop-client
invariant-loop-client g l = record {
  put : Adds (g.W.Sink.pieces l.fn.sink) (g.W.Sink.pieces l.sink) (lines_of (shown l.bodies) l.cut (map deref_pair l.yielded));
  later : g.W.Sink.faults l.fn.sink ≤ g.W.Sink.faults l.sink;
}
