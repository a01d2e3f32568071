use Rattle.cq_print.proofs.Opened.{counted-next}
use Rattle.cq_print.proofs.counts.counts_of.Goals as goal

pub loop-queue-preserved : goal.loop-queue-preserved
loop-queue-preserved c = record {
  counts = λ q.
      counted-next q c.loop-queue.at c.in-Some-checked_add.next c.args.lines.now _ c.loop-queue.counts c.count_one.new.counts
      c.in-Some.ensures c.in-Some-checked_add.ensures.1 c.loop-queue.invariant.counts c.in_ok-count_one.ensures.ok;
  ordered = c.in_ok-count_one.ensures.ordered;
}
