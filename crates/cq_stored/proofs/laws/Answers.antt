use Rattle.cq_stored.proofs.Holding.{stored_laws}
use Rattle.cq_stored.proofs.InStep.{in_step_laws, passing_laws}
use Rattle.cq_stored.proofs.Other.{other_stays, small_alone}
use Rattle.cq_stored.proofs.PassedLaws.{passed_laws}
use Rattle.cq_stored.proofs.Queues.{queues_laws}
use Rattle.cq_stored.proofs.laws.Goals as goal

pub returns : goal.returns
returns c = record { stored = stored_laws; in_step = in_step_laws; passing = passing_laws; passed = passed_laws; queues = queues_laws; others = other_stays; small = small_alone }
