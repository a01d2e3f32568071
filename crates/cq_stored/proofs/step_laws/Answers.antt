use Rattle.cq_stored.proofs.Steps.{step_laws}
use Rattle.cq_stored.proofs.step_laws.Goals as goal

pub returns : goal.returns
returns g c = record { steps = λ told. step_laws g.D.Disk (g.met.D.Disk.now_only told) }
