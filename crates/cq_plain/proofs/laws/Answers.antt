use Rattle.cq_plain.proofs.Rows.{exact}
use Rattle.cq_plain.proofs.laws.Goals as goal

pub returns : goal.returns
returns c = exact
