use Rattle.cq_confirm.proofs.Each.{each-empty}
use Rattle.cq_confirm.proofs.Lacks.new.Goals as goal

pub invariant_of-result : goal.invariant_of-result
invariant_of-result c = each-empty c.new.result c.new.ensures
