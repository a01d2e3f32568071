use Rattle.std.proofs.Common.{◌+◌, sym, subst}
use Rattle.cq_queue.specs.Lists.{AreBelow}
use Rattle.cq_queue.proofs.Trying.{at_queue, picked_below}
use Rattle.cq_queue.proofs.tests.put.Goals as goal

pub add-requires-clause-at : goal.add-requires-clause-at
add-requires-clause-at g c = λ told. at_queue c.args.segments.now.queue c.take.new.self.queue (sym c.take.ensures.same.queue) (c.in_ok-segment.ensures.at (g.D.Disk.files c.args.disk.now) (c.requires.at told))

pub returns-clause-numbers : goal.returns-clause-numbers
returns-clause-numbers g c = λ n below.
    let last = c.in_ok-add.ensures.shown in
    subst (AreBelow (n + 1)) (sym last.list) (picked_below _ _ n _ _ _ last.last c.in_ok-segment.ensures.taken.picked last.number.number below)
