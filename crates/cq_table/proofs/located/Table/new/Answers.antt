use Rattle.std.proofs.Common.{sym, subst}
use Rattle.std.specs.Ordering.{nat_cmp}
use Rattle.std.specs.FinMap.{FinMap, empty}
use Rattle.cq_table.specs.Records.{Places}
use Rattle.cq_table.specs.Located.{IsByFile}
use Rattle.cq_table.proofs.ByFile.{by_file_empty}
use Rattle.cq_table.proofs.located.Table.new.Goals as goal

pub invariant_of-result : goal.invariant_of-result
invariant_of-result c = subst (λ (m : Places). IsByFile m c.new-2.result) (sym c.new.ensures) (subst (λ (m : FinMap nat_cmp Places). IsByFile empty m) (sym c.new-2.ensures) by_file_empty)
