use Rattle.std.proofs.Common.{sym, ap, ◌∙◌}
use Rattle.std.specs.FinMap as map
use Rattle.cq_map.proofs.Seen.{seen}
use Rattle.cq_map.proofs.NumberMap.get.Goals as goal

pub returns : goal.returns
returns g c =
    c.get.ensures.value
    ∙ sym (seen c.self.inside.entries.entries c.args.key)
    ∙ ap (λ m. map.get m c.args.key) c.self.view_is
