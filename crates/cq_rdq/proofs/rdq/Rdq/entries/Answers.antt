use Rattle.cq_disk.specs.There.{there_among, there_step}
use Rattle.cq_rdq.specs.Rdq.{KnowsRecords, HasSome}
use Rattle.cq_rdq.proofs.Listing.{err_to, never_broken}
use Rattle.cq_rdq.proofs.rdq.Rdq.entries.Goals as goal

pub returns-clause-damaged : goal.returns-clause-damaged
returns-clause-damaged g c =
    let gate = c.args.self.now.gate in
    let slot = g.D.Disk.files c.args.disk.now gate.name in
    err_to c.records.result _ _ (λ place found broken. record {
      broken = broken.cause;
      untold = λ told. never_broken slot place found (there_among slot (λ f. HasSome f.reads) (there_step slot (KnowsRecords gate) (λ f. HasSome f.reads) (λ f k. k.some) (c.requires told))) (broken.told told);
    }) c.records.ensures.damaged
