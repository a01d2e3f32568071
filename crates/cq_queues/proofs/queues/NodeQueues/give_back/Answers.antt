use Rattle.std.proofs.Common.{List, ℕ, sym, subst, arith}
use Rattle.std.proofs.lemmas.List.{take_more}
use Rattle.cq_queues.specs.Changes.{HasGivenBack}
use Rattle.cq_queues.specs.Queues.{queue_at}
use Rattle.cq_queues.proofs.Loops.{gave_more, stay_more}
use Rattle.cq_queues.proofs.queues.NodeQueues.give_back.Goals as goal

pub loop-queue-preserved : goal.loop-queue-preserved
loop-queue-preserved c = (
  subst (λ (l : List ℕ). HasGivenBack c.args.client l (queue_at c.args.self.now) (queue_at c.give_back_one.new.self)) (sym (take_more c.args.queues.now c.loop-queue.queue-index 0 (omega arith)))
      (gave_more c.args.client _ _ (queue_at c.args.self.now) (queue_at c.loop-queue.self) (queue_at c.give_back_one.new.self) c.loop-queue.invariant.0 c.give_back_one.ensures.back),
  stay_more (queue_at c.args.self.now) (queue_at c.loop-queue.self) (queue_at c.give_back_one.new.self) c.loop-queue.invariant.1 c.give_back_one.ensures.files,
)
