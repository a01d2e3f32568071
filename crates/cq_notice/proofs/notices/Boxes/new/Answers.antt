use Rattle.cq_notice.proofs.Places.{shown-loud}
use Rattle.cq_notice.proofs.notices.Boxes.new.Goals as goal

pub returns : goal.returns
returns g c = shown-loud g.B.Notice.told g.B.Notice.faults c.args.list.items 64
