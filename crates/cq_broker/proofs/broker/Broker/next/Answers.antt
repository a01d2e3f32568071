use Rattle.std.proofs.Common.{sym, ◌∙◌}
use Rattle.cq_broker.specs.Broker.{queue_at}
use Rattle.cq_broker.specs.InMemory.{items_of}
use Rattle.cq_broker.proofs.Finding.{finds_first, finds_none}
use Rattle.cq_broker.proofs.broker.Broker.next.Goals as goal

pub returns-in-Some : goal.returns-in-Some
returns-in-Some c =
    let b = c.args.self.now in
    (c.if-is_full.ensures, finds_first (items_of (queue_at b)) b.history.entries b.history.lacks c.args.queue c.in-Some.first b.legal b.in_memory (sym c.first_waiting.ensures ∙ c.in-Some.is))

pub returns-in-None : goal.returns-in-None
returns-in-None c =
    let b = c.args.self.now in
    (c.if-is_full.ensures, finds_none (items_of (queue_at b)) b.history.entries b.history.lacks c.args.queue b.legal b.in_memory (sym c.first_waiting.ensures ∙ c.in-None.is))
