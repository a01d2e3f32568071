use Rattle.std.proofs.Common.{rules, arith, sym, None, length, ◌≤◌}
use Rattle.cq_notice.specs.Shown.{shown}
use Rattle.cq_notice.proofs.Places.{shown-emptied, set-past, length-shown}
use Rattle.cq_notice.proofs.notices.Boxes.end_client.Goals as goal

pub returns-then-at-len : goal.returns-then-at-len
returns-then-at-len g c =
    let boxes = c.args.self.now in
    rw c.empty.ensures (shown-emptied g.B.Notice.told g.B.Notice.faults boxes.places.items boxes.silent c.args.client)

pub returns-else-at-len : goal.returns-else-at-len
returns-else-at-len g c =
    let t = g.B.Notice.told in
    let f = g.B.Notice.faults in
    let boxes = c.args.self.now in
    let many = length-shown t f boxes.places.items boxes.silent in
    let far : length boxes.places.items ≤ c.args.client = search rules in
    sym (set-past (shown t f boxes) c.args.client None (omega arith))
