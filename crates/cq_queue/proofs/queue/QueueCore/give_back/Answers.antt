use Rattle.std.proofs.Common.{sym, subst}
use Rattle.cq_items.specs.Items.{back_one, give_back}
use Rattle.cq_items.specs.Queue.{Queue}
use Rattle.cq_queue.specs.Calls.{list_of, queue_of}
use Rattle.cq_queue.specs.Tied.{IsQueueAt, IsTied}
use Rattle.cq_queue.proofs.Alike.{alike_at, alike_tied, held_alike}
use Rattle.cq_queue.proofs.queue.QueueCore.give_back.Goals as goal

pub invariant_of-self : goal.invariant_of-self
invariant_of-self c = let s = c.args.self.now in
    record { few = s.few; tied = λ running. subst (λ (q : Queue). IsTied q.items s.segments.list.items) (sym c.give_back.ensures) (alike_tied s.items.items (give_back c.args.client s.items.items) s.segments.list.items (held_alike (back_one c.args.client) s.items.items) (s.tied running)) }

pub returns-clause-files : goal.returns-clause-files
returns-clause-files c = let s = c.args.self.now in
    λ files at. subst (λ (q : Queue). IsQueueAt (queue_of s.segments) (list_of s.segments) q.items files) (sym c.give_back.ensures) (alike_at (queue_of s.segments) (list_of s.segments) s.items.items (give_back c.args.client s.items.items) files (held_alike (back_one c.args.client) s.items.items) at)
