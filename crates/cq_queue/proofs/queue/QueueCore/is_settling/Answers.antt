use Rattle.std.proofs.Common.{◌∙◌, sym, ap}
use Rattle.std.specs.Prelude.{nat_lt}
use Rattle.cq_queue.proofs.Telling.{settling_some}
use Rattle.cq_queue.proofs.queue.QueueCore.is_settling.Goals as goal

pub returns : goal.returns
returns c = ap (λ n. nat_lt 0 n) c.settling.ensures ∙ settling_some c.args.self.now.items.items
