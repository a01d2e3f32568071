use Rattle.std.proofs.Common.{sym, subst}
use Rattle.cq_disk.specs.declared.name.Name.{Name}
use Rattle.cq_index.specs.Segments.{IsFiled, name_of}
use Rattle.cq_index.proofs.Known.{filed}
use Rattle.cq_disk_tests.proofs.bulk.left.Goals as goal

pub present_entries-requires-clause-segment : goal.present_entries-requires-clause-segment
present_entries-requires-clause-segment g c = λ told.
    let files = g.D.Disk.files c.gone.new.disk in
    subst (λ (n : Name). IsFiled c.gone.new.self (files n)) (sym c.in-Ok.ensures.same.0) (filed c.gone.new.self (files (name_of c.in_ok-segment.segment)) (c.in-Ok.ensures.ok told).is)
