use Rattle.std.proofs.Common.{arith, rules}
use Rattle.std.proofs.lemmas.Grind.{common_steps}
use Rattle.cq_print.proofs.Opened.{counts_lines-push}
use Rattle.cq_print.proofs.session.put_counts.Goals as goal

pub loop-queue-preserved : goal.loop-queue-preserved
loop-queue-preserved g c = record {
  put =
      let more = counts_lines-push c.loop-queue.yielded (c.in-Some.queue, c.in-Some.count) in
      grind (arith, common_steps, more);
  later = search rules;
}
