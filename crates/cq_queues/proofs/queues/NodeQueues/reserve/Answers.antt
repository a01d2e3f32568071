use Rattle.std.proofs.Common.{ℕ, List, sym, subst, arith}
use Rattle.std.proofs.lemmas.List.{take_more}
use Rattle.cq_queues.specs.Changes.{AreReserved}
use Rattle.cq_queues.specs.Queues.{queue_at}
use Rattle.cq_queues.proofs.Loops.{all_more, all_map, room_more, room_stays}
use Rattle.cq_queues.proofs.queues.NodeQueues.reserve.Goals as goal

pub loop-queue-preserved : goal.loop-queue-preserved
loop-queue-preserved c = (
  room_more (queue_at c.args.self.now) (queue_at c.loop-queue.self) (queue_at c.reserve_one.new.self) c.loop-queue.invariant.0 c.reserve_one.ensures.room,
  subst (λ (l : List ℕ). AreReserved (queue_at c.reserve_one.new.self) l) (sym (take_more c.args.queues.now c.loop-queue.queue-index 0 (omega arith)))
      (all_more _ _ _ (all_map _ _ _ (λ x h. (c.reserve_one.ensures.more x (h, tt)).0) c.loop-queue.invariant.1) c.in_ok-reserve_one.ensures.ok.0),
)

pub returns-in_err-reserve_one-clause-room : goal.returns-in_err-reserve_one-clause-room
returns-in_err-reserve_one-clause-room c = room_more (queue_at c.args.self.now) (queue_at c.loop-queue.self) (queue_at c.reserve_one.new.self) c.loop-queue.invariant.0 c.reserve_one.ensures.room

pub returns-in_err-reserve_one-clause-files : goal.returns-in_err-reserve_one-clause-files
returns-in_err-reserve_one-clause-files c = room_stays (queue_at c.args.self.now) (queue_at c.reserve_one.new.self) (room_more (queue_at c.args.self.now) (queue_at c.loop-queue.self) (queue_at c.reserve_one.new.self) c.loop-queue.invariant.0 c.reserve_one.ensures.room)

pub returns-clause-files : goal.returns-clause-files
returns-clause-files c = room_stays (queue_at c.args.self.now) (queue_at c.loop-queue.self) c.loop-queue.invariant.0
