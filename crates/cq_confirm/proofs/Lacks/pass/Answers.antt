use Rattle.std.proofs.Common.{◌-◌, ◌<◌, sym, ◌∙◌, arith}
use Rattle.cq_confirm.proofs.Each.{each-removed, each-either}
use Rattle.cq_confirm.proofs.Lacks.pass.Goals as goal

pub invariant_of-self : goal.invariant_of-self
invariant_of-self c = each-removed c.self.inside.lacks c.remove.new.self c.args.id c.self.invariant c.remove.ensures.rest

pub invariant_of-self-in-Some : goal.invariant_of-self-in-Some
invariant_of-self-in-Some c =
    let some : 0 < c.in-Some.lack.queues = c.self.invariant c.args.id c.in-Some.lack (sym c.get.ensures ∙ sym c.copied.ensures ∙ c.in-Some.is) in
    each-either c.insert.result c.self.inside.lacks c.insert.new.self c.args.id (record { client = c.in-Some.lack.client; number = c.in-Some.lack.number; queues = c.in-Some.lack.queues - 1 }) c.insert.ensures.ok c.insert.ensures.err c.self.invariant (omega arith)
