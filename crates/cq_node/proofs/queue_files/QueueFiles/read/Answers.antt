use Rattle.std.proofs.Common.{length, sym, subst}
use Rattle.cq_disk.specs.declared.name.Name.{Name}
use Rattle.cq_gate.specs.Calls.{Has}
use Rattle.cq_small.specs.Record.{IsWhole}
use Rattle.cq_small.specs.Store.{small_name}
use Rattle.cq_node.proofs.Agreeing.{whole_in}
use Rattle.cq_node.proofs.queue_files.QueueFiles.read.Goals as goal

pub read-requires-clause-stands : goal.read-requires-clause-stands
read-requires-clause-stands g c = λ told.
    let d = g.D.Disk in
    let s = c.args.self.now in
    let stands = c.requires.stands told in
    subst (λ (n : Name). Has d n s.disk (λ f. IsWhole f.reads c.args.place (length c.args.into.now))) (sym (s.small_filed c.requires.open).named)
    (whole_in (d.files s.disk (small_name 0 0)) c.args.place (length c.args.into.now) stands.0 stands.1 stands.2)
