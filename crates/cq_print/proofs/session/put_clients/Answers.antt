use Rattle.std.proofs.Common.{reverse}
use Rattle.cq_print.specs.Bodies.{shown}
use Rattle.cq_print.proofs.Own.{clients-own}
use Rattle.cq_print.proofs.Shown.{retold}
use Rattle.cq_print.proofs.session.put_clients.Goals as goal

pub returns-clause-ok : goal.returns-clause-ok
returns-clause-ok g c =
    retold _ _ _ _ _
    (clients-own (shown c.args.bodies.now) (reverse c.args.entries.now) c.args.cut.now c.in_ok-clients.clients c.put_all.ensures.ordered c.in_ok-clients.ensures)
    c.put_all.ensures.ok
