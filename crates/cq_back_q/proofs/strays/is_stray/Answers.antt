use Rattle.std.proofs.Common.{◌≡◌, true, ◌∙◌, sym}
use Rattle.cq_disk.specs.declared.name.Name.{Name}
use Rattle.cq_disk.specs.declared.name.Kind.TheVariants.{Index}
use Rattle.cq_index.specs.Places.{index_name}
use Rattle.cq_back_q.proofs.Sought.{is_absent}
use Rattle.cq_back_q.proofs.strays.is_stray.Goals as goal

pub returns-clause-alone : goal.returns-clause-alone
returns-clause-alone c = λ sorted kind.
    let name = c.args.name.now in
    let both = is_absent c.args.names.now (index_name name.queue name.number) sorted c.binary_search.result c.binary_search.ensures.bound c.binary_search.ensures.position in
    (λ is. both.0 (sym c.is_err.ensures.value ∙ is), λ none. c.is_err.ensures.value ∙ both.1 none)
