use Rattle.std.proofs.Common.{sym, subst}
use Rattle.cq_items.specs.Queue.{Queue}
use Rattle.cq_queue.specs.Tied.{IsTied}
use Rattle.cq_queue.proofs.Alike.{published_tied}
use Rattle.cq_queue.proofs.queue.QueueCore.publish.Goals as goal

pub invariant_of-self : goal.invariant_of-self
invariant_of-self c = let s = c.args.self.now in
    record { few = s.few; tied = λ running. subst (λ (q : Queue). IsTied q.items s.segments.list.items) (sym c.publish.ensures) (published_tied s.items.items s.segments.list.items c.args.id c.args.len c.args.body c.requires.named c.requires.short c.requires.sized (s.tied running)) }
