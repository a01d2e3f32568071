use Rattle.std.proofs.Common.{◌≤◌, map}
use Rattle.std.specs.Map.Iter.{deref_pair}
use Rattle.cq_io.specs.Streams.{Adds}
use Rattle.cq_print.specs.Counts.{counts_lines}
use Rattle.cq_print.proofs.session.put_counts.Given as goal

-- the lines of the counts so far are put, and the count of faults hasn't fallen
abbrev pub invariant-loop-queue : goal.invariant-loop-queue
invariant-loop-queue g l = record {
  put : Adds (g.W.Sink.pieces l.fn.sink) (g.W.Sink.pieces l.sink) (counts_lines (map deref_pair l.yielded));
  later : g.W.Sink.faults l.fn.sink ≤ g.W.Sink.faults l.sink;
}
