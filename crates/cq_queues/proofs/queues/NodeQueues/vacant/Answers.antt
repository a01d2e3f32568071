use Rattle.std.proofs.Common.{◌≡◌, ◌+◌, ◌<◌, ◌∙◌, ℕ, List, [], ◌∷◌, length, length-append, sym, ap, subst, arith}
use Rattle.cq_queue.specs.Values.{empty_queue}
use Rattle.cq_queue.specs.declared.queue.QueueCore.{QueueCore}
use Rattle.cq_queues.specs.Values.{value_in}
use Rattle.cq_queues.specs.Queues.{queue_at}
use Rattle.cq_queues.proofs.Places.{of_ok, vacant_at, vacant_more}
use Rattle.cq_queues.proofs.queues.NodeQueues.vacant.Goals as goal

pub loop-queue-preserved : goal.loop-queue-preserved
loop-queue-preserved c =
    let e = c.in_ok-push.ensures.items in
    let cs = c.loop-queue.cores.items in (
      omega (arith, ap length e, length-append cs (c.vacant.result ∷ []), c.loop-queue.invariant.0),
      subst (λ (l : List QueueCore). (r : ℕ) → r < c.loop-queue.queue + 1 → value_in l r ≡ empty_queue r c.args.length) (sym e)
          (vacant_more c.args.length c.loop-queue.queue cs c.vacant.result c.loop-queue.invariant.0 c.loop-queue.invariant.1 c.vacant.ensures),
    )

pub returns-clause-empty : goal.returns-clause-empty
returns-clause-empty c = of_ok c.of.result _ _ (λ queues same q l. same q ∙ c.loop-queue.invariant.1 q (omega (arith, l, c.loop-queue-test.false))) c.of.ensures

pub returns-clause-files : goal.returns-clause-files
returns-clause-files c = of_ok c.of.result _ _ (λ queues same. vacant_at c.args.length (queue_at queues) (λ q l. same q ∙ c.loop-queue.invariant.1 q (omega (arith, l, c.loop-queue-test.false)))) c.of.ensures
