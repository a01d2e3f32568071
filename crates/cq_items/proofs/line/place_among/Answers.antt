use Rattle.std.proofs.Common.{refl}
use Rattle.std.specs.Prelude.{Err}
use Rattle.cq_items.proofs.Steps.{place-searched}
use Rattle.cq_items.proofs.line.place_among.Goals as goal

pub returns-in-Err : goal.returns-in-Err
returns-in-Err c = place-searched c.args.waiting.now.items c.args.at c.in-Err.place (Err c.in-Err.place) c.in-Err.ensures.position c.requires refl
