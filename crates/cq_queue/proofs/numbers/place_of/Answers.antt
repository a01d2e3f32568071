use Rattle.cq_queue.proofs.Placing.{place_found, place_missed}
use Rattle.cq_queue.proofs.numbers.place_of.Goals as goal

pub returns-in-Ok : goal.returns-in-Ok
returns-in-Ok c = place_found c.args.numbers.now.items c.args.number c.in-Ok.place c.requires c.in-Ok.ensures.position

pub returns-in-Err : goal.returns-in-Err
returns-in-Err c = place_missed c.args.numbers.now.items c.args.number c.in-Err.place c.requires c.in-Err.ensures.position
