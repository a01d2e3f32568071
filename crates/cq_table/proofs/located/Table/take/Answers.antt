use Rattle.std.proofs.Common.{sym, subst}
use Rattle.cq_table.specs.Records.{Places}
use Rattle.cq_table.specs.Located.{IsByFile}
use Rattle.cq_table.proofs.ByFile.{none_taken, taken}
use Rattle.cq_table.proofs.located.Table.take.Goals as goal

pub invariant_of-self : goal.invariant_of-self
invariant_of-self c = subst (λ (m : Places). IsByFile m c.self.inside.by_file) (sym c.in_err-place.ensures.rest) (none_taken c.self.inside.by_id c.self.inside.by_file c.args.id c.self.invariant (sym c.in_err-place.ensures.value))

pub invariant_of-self-2 : goal.invariant_of-self-2
invariant_of-self-2 c =
    subst (λ (m : Places). IsByFile m c.take_from.new.files) (sym c.in_ok-place.ensures.rest)
    (taken c.self.inside.by_id c.self.inside.by_file c.take_from.new.files c.args.id c.in_ok-place.place c.self.invariant c.take_from.ensures (sym c.in_ok-place.ensures.value))
