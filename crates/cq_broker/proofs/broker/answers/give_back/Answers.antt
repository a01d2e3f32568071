use Rattle.std.proofs.Common.{ℕ, List, sym, subst, arith}
use Rattle.std.proofs.lemmas.List.{map_more}
use Rattle.cq_client.specs.declared.open.OpenDelivery.{OpenDelivery}
use Rattle.cq_queues.specs.Changes.{HasGivenBack}
use Rattle.cq_queues.specs.Queues.{queue_at}
use Rattle.cq_queues.proofs.Loops.{gave_more, stay_more}
use Rattle.cq_broker.proofs.broker.answers.give_back.Goals as goal

pub loop-open-preserved : goal.loop-open-preserved
loop-open-preserved c = (
  subst (λ (l : List ℕ). HasGivenBack c.args.client l (queue_at c.args.queues.now) (queue_at c.give_back.new.self)) (sym (map_more (λ (o : OpenDelivery). o.queue) c.args.opens.now c.loop-open.open-index (record { delivery = 0; queue = 0 }) (omega arith)))
      (gave_more c.args.client _ _ (queue_at c.args.queues.now) (queue_at c.loop-open.queues) (queue_at c.give_back.new.self) c.loop-open.invariant.0 c.give_back.ensures.back),
  stay_more (queue_at c.args.queues.now) (queue_at c.loop-open.queues) (queue_at c.give_back.new.self) c.loop-open.invariant.1 c.give_back.ensures.files,
)
