use Rattle.std.proofs.Common.{◌≡◌, sym, ap, subst, ◌∙◌}
use Rattle.cq_table.specs.Records.{live_bytes}
use Rattle.cq_table.specs.Located.{Located, IsByFile}
use Rattle.cq_table.proofs.ByFile.{forgotten}
use Rattle.cq_table.proofs.located.Table.forget.Goals as goal

pub invariant_of-self : goal.invariant_of-self
invariant_of-self c =
    let zero : live_bytes c.self.inside.by_id c.from-2.result ≡ 0 = ap (live_bytes c.self.inside.by_id) c.from-2.ensures ∙ ap (λ (l : Located). live_bytes l.places c.args.file) c.self.view_is ∙ c.requires in
    subst (IsByFile c.self.inside.by_id) (sym c.remove-2.ensures.rest) (forgotten c.self.inside.by_id c.self.inside.by_file c.from-2.result c.self.invariant zero)
