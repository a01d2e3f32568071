use Rattle.std.proofs.Common.{inr}
use Rattle.cq_disk.specs.Files.{Removes}
use Rattle.cq_disk.specs.Moments.{started, remove_only}
use Rattle.cq_queue.proofs.leaving.remove_file.Goals as goal

pub returns-then-absent-clause-any_moment : goal.returns-then-absent-clause-any_moment
returns-then-absent-clause-any_moment g c = λ told.
    let d = g.D.Disk in
    started d.moment d.left d.files (g.met.D.Disk.now_only told) c.args.disk.now (Removes c.args.name (d.files c.args.disk.now)) (λ image is. record { this = inr (is c.args.name); others = λ n other. is n })

pub returns-clause-any_moment : goal.returns-clause-any_moment
returns-clause-any_moment g c = λ told.
    let d = g.D.Disk in
    remove_only d.moment d.left d.files (g.met.D.Disk.now_only told) told c.args.disk.now c.remove.new.self c.args.name c.remove.result c.remove.ensures.ok c.remove.ensures.fault c.remove.ensures.time
