use Rattle.std.proofs.Common.{rules, Some, ◌∙◌, subst}
use Rattle.cq_disk.specs.declared.name.Name.{Name}
use Rattle.cq_disk.specs.File.{fresh}
use Rattle.cq_disk.specs.Files.{Becomes}
use Rattle.cq_disk.specs.Moments.{on_ok}
use Rattle.cq_gate.specs.Calls.{Makes}
use Rattle.cq_small.specs.Store.{small_name, IsVacant}
use Rattle.cq_queue.proofs.Runs.{Tells, made_touches, made_same, nothing_touches}
use Rattle.cq_queue.proofs.segment.QueueSegment.make_small.Goals as goal

pub returns-then-not-is_vacant-clause-touches : goal.returns-then-not-is_vacant-clause-touches
returns-then-not-is_vacant-clause-touches g c = λ told.
    let t : Tells g.D.Disk = record { only = g.met.D.Disk.now_only told; each = g.met.D.Disk.now_each told; readable = g.met.D.Disk.reads_left told } in
    let s = c.args.self.now in
    nothing_touches g.D.Disk t c.args.disk.now (small_name s.queue s.number)

pub returns-clause-touches : goal.returns-clause-touches
returns-clause-touches g c = λ told.
    let t : Tells g.D.Disk = record { only = g.met.D.Disk.now_only told; each = g.met.D.Disk.now_each told; readable = g.met.D.Disk.reads_left told } in
    let s = c.args.self.now in
    let vacant : IsVacant s.small = search rules in
    let makes = subst (λ (n : Name). Makes g.D.Disk n c.args.disk.now c.make.new.disk) s.small_named (c.make.ensures.makes told) in
    made_touches g.D.Disk t c.args.disk.now c.make.new.disk (small_name s.queue s.number) ((c.requires.knows told).small.knows.absent vacant) makes

pub returns-clause-ok : goal.returns-clause-ok
returns-clause-ok g c = on_ok c.make.result (λ made told.
    let t : Tells g.D.Disk = record { only = g.met.D.Disk.now_only told; each = g.met.D.Disk.now_each told; readable = g.met.D.Disk.reads_left told } in
    let s = c.args.self.now in
    let vacant : IsVacant s.small = search rules in
    made_same g.D.Disk t c.args.disk.now c.make.new.disk (small_name s.queue s.number) ((c.requires.knows told).small.knows.absent vacant)
    (subst (λ (n : Name). Becomes n (Some fresh) (g.D.Disk.files c.args.disk.now) (g.D.Disk.files c.make.new.disk)) (c.make.ensures.name ∙ s.small_named) (made told).becomes)) c.make.ensures.ok
