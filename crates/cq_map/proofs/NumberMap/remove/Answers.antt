use Rattle.std.proofs.Common.{sym, ap, ◌∙◌}
use Rattle.std.specs.FinMap as map
use Rattle.cq_map.proofs.Seen.{seen, removed}
use Rattle.cq_map.proofs.NumberMap.remove.Goals as goal

pub returns-clause-value : goal.returns-clause-value
returns-clause-value g c =
    c.swap_remove.ensures.value
    ∙ sym (seen c.self.inside.entries.entries c.args.key)
    ∙ ap (λ m. map.get m c.args.key) c.self.view_is

pub returns-clause-rest : goal.returns-clause-rest
returns-clause-rest g c =
    removed c.self.inside.entries.entries c.swap_remove.new.self.entries c.args.key c.swap_remove.ensures.updates.0
    ∙ ap (λ m. map.remove m c.args.key) c.self.view_is
