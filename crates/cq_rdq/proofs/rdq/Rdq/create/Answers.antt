use Rattle.std.proofs.Common.{Some, sym, subst}
use Rattle.cq_disk.specs.declared.name.Name.{Name}
use Rattle.cq_disk.specs.File.{fresh}
use Rattle.cq_disk.specs.Files.{Becomes, IsThere}
use Rattle.cq_rdq.specs.Rdq.{KnowsRecords}
use Rattle.cq_rdq.proofs.Files.{created}
use Rattle.cq_rdq.proofs.rdq.Rdq.create.Goals as goal

pub returns-clause-ok : goal.returns-clause-ok
returns-clause-ok g c told =
    let files = g.D.Disk.files in
    let gate = c.in_ok-gate.gate in
    let e = c.in_ok-gate.ensures in
    record {
      is = subst (λ (n : Name). IsThere (files c.create.new.disk n) (KnowsRecords gate)) (sym e.shown.named) (created _ gate (e.ok told).this (e.gate told));
      becomes = subst (λ (n : Name). Becomes n (Some fresh) (files c.args.disk.now) (files c.create.new.disk)) (sym e.shown.named) (e.ok told);
    }
