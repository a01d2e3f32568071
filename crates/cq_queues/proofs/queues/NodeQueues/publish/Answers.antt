use Rattle.std.proofs.Common.{ℕ, ◌≡◌, ◌<◌, [], ◌∷◌, List, length, length-append, get_or, sym, ap, subst, arith, take}
use Rattle.std.specs.List.{AllByRecursion}
use Rattle.std.proofs.lemmas.List.{take_all, take_more, drop_more}
use Rattle.cq_queue.specs.Values.{QueueValue}
use Rattle.cq_queues.specs.Changes.{AreReserved, HasJoined, joined_by}
use Rattle.cq_queues.specs.Queues.{queue_at}
use Rattle.cq_queues.proofs.Loops.{changed_more, joined_off, queue_below, queue_before, queue_behind, all_last, all_others, stay_more}
use Rattle.cq_queues.proofs.queues.NodeQueues.publish.Goals as goal

pub last_of-copy-requires : goal.last_of-copy-requires
last_of-copy-requires c = omega (arith, c.loop-queue.invariant.1)

pub publish_one-requires-clause-queue : goal.publish_one-requires-clause-queue
publish_one-requires-clause-queue c = queue_below c.args.queues.now c.loop-queue.queue-index c.requires.queues (omega arith)

pub publish_one-requires-clause-reserved : goal.publish_one-requires-clause-reserved
publish_one-requires-clause-reserved c = ((subst (λ (l : List ℕ). AreReserved (queue_at c.loop-queue.self) l) (drop_more c.args.queues.now c.loop-queue.queue-index 0 (omega arith)) c.loop-queue.invariant.0).0, tt)

pub publish_one-requires-clause-long : goal.publish_one-requires-clause-long
publish_one-requires-clause-long c =
    (all_last (λ copy. length copy ≡ c.args.len) c.last_of-copy.new.copies.items c.last_of-copy.result (subst (AllByRecursion (λ copy. length copy ≡ c.args.len)) c.last_of-copy.ensures c.loop-queue.invariant.2)).1

pub loop-queue-preserved : goal.loop-queue-preserved
loop-queue-preserved c =
    let x = get_or c.args.queues.now c.loop-queue.queue-index 0 in
    let old = queue_at c.args.self.now in
    let mid = queue_at c.loop-queue.self in
    let new = queue_at c.publish_one.new.self in
    let rest = c.last_of-copy.new.copies.items in
    let copy = c.last_of-copy.result in (
      all_others _ _ _ _ (queue_behind c.args.queues.now c.loop-queue.queue-index c.requires.queues (omega arith)) (λ r other h. subst (λ (v : QueueValue). 0 < v.reserved) (sym (joined_off c.args.id c.args.len x copy mid new c.publish_one.ensures.joined r other)) h)
          (subst (λ (l : List ℕ). AreReserved mid l) (drop_more c.args.queues.now c.loop-queue.queue-index 0 (omega arith)) c.loop-queue.invariant.0).1,
      omega (arith, c.loop-queue.invariant.1, ap length c.last_of-copy.ensures, length-append rest (copy ∷ [])),
      (all_last (λ b. length b ≡ c.args.len) rest copy (subst (AllByRecursion (λ b. length b ≡ c.args.len)) c.last_of-copy.ensures c.loop-queue.invariant.2)).0,
      stay_more old mid new c.loop-queue.invariant.3 c.publish_one.ensures.files,
      λ body all.
          let before = c.loop-queue.invariant.4 body all in
          let parts = all_last (λ b. b ≡ body) rest copy (subst (AllByRecursion (λ b. b ≡ body)) c.last_of-copy.ensures before.0) in (
            parts.0,
            subst (λ (l : List ℕ). HasJoined c.args.id body c.args.len l old new) (sym (take_more c.args.queues.now c.loop-queue.queue-index 0 (omega arith)))
                (changed_more (joined_by c.args.id body c.args.len) x (take c.loop-queue.queue-index c.args.queues.now) old mid new (queue_before c.args.queues.now c.loop-queue.queue-index c.requires.queues (omega arith)) before.1
                (subst (λ (b : List ℕ). HasJoined c.args.id b c.args.len (x ∷ []) mid new) parts.1 c.publish_one.ensures.joined)),
          ),
    )

pub returns-clause-joined : goal.returns-clause-joined
returns-clause-joined c = λ body all.
    let e : take c.loop-queue.queue-index c.args.queues.now ≡ c.args.queues.now = take_all c.loop-queue.queue-index c.args.queues.now c.loop-queue-test.false in
    subst (λ (l : List ℕ). HasJoined c.args.id body c.args.len l (queue_at c.args.self.now) (queue_at c.loop-queue.self)) e (c.loop-queue.invariant.4 body all).1
