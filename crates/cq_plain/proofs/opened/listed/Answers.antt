use Rattle.std.proofs.Common.{◌≡◌, ◌+◌}
use Rattle.cq_plain.proofs.Lists.{taken-more}
use Rattle.cq_plain.proofs.opened.listed.Goals as goal

pub loop-queue-preserved : goal.loop-queue-preserved
loop-queue-preserved c =
    let more = taken-more c.args.lines.now c.loop-queue.at _ c.in-Some.ensures in
    let next : c.in-Some-checked_add.next ≡ c.loop-queue.at + 1 = c.in-Some-checked_add.ensures.1 in
    cc (more, next, c.in_ok-push.ensures.items, c.in_ok-body.ensures, c.loop-queue.invariant)
