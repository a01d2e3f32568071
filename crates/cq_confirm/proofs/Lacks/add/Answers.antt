use Rattle.cq_confirm.proofs.Each.{each-either}
use Rattle.cq_confirm.proofs.Lacks.add.Goals as goal

pub invariant_of-self : goal.invariant_of-self
invariant_of-self c = each-either c.insert.result c.self.inside.lacks c.insert.new.self c.args.id (record { client = c.args.client; number = c.args.number; queues = c.args.queues }) c.insert.ensures.ok c.insert.ensures.err c.self.invariant c.requires.some
