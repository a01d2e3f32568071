use Rattle.std.proofs.Common.{rules, Some, ◌∙◌, subst}
use Rattle.cq_disk.specs.declared.name.Name.{Name}
use Rattle.cq_disk.specs.File.{fresh}
use Rattle.cq_disk.specs.Files.{Becomes}
use Rattle.cq_disk.specs.Moments.{on_ok}
use Rattle.cq_gate.specs.Calls.{Makes}
use Rattle.cq_index.specs.Places.{index_name}
use Rattle.cq_index.specs.Segments.{IsVacant}
use Rattle.cq_queue.proofs.Runs.{Tells, made_touches, made_same, nothing_touches}
use Rattle.cq_queue.proofs.segment.QueueSegment.make_index.Goals as goal

pub returns-then-not-is_vacant-clause-touches : goal.returns-then-not-is_vacant-clause-touches
returns-then-not-is_vacant-clause-touches g c = λ told.
    let t : Tells g.D.Disk = record { only = g.met.D.Disk.now_only told; each = g.met.D.Disk.now_each told; readable = g.met.D.Disk.reads_left told } in
    let s = c.args.self.now in
    nothing_touches g.D.Disk t c.args.disk.now (index_name s.queue s.number)

pub returns-clause-touches : goal.returns-clause-touches
returns-clause-touches g c = λ told.
    let t : Tells g.D.Disk = record { only = g.met.D.Disk.now_only told; each = g.met.D.Disk.now_each told; readable = g.met.D.Disk.reads_left told } in
    let s = c.args.self.now in
    let vacant : IsVacant s.index = search rules in
    let makes = subst (λ (n : Name). Makes g.D.Disk n c.args.disk.now c.create.new.disk) s.index_named (c.create.ensures.makes told) in
    made_touches g.D.Disk t c.args.disk.now c.create.new.disk (index_name s.queue s.number) ((c.requires.knows told).index.knows.absent vacant) makes

pub returns-clause-ok : goal.returns-clause-ok
returns-clause-ok g c = on_ok c.create.result (λ made told.
    let t : Tells g.D.Disk = record { only = g.met.D.Disk.now_only told; each = g.met.D.Disk.now_each told; readable = g.met.D.Disk.reads_left told } in
    let s = c.args.self.now in
    let vacant : IsVacant s.index = search rules in
    made_same g.D.Disk t c.args.disk.now c.create.new.disk (index_name s.queue s.number) ((c.requires.knows told).index.knows.absent vacant)
    (subst (λ (n : Name). Becomes n (Some fresh) (g.D.Disk.files c.args.disk.now) (g.D.Disk.files c.create.new.disk)) (c.create.ensures.same.name ∙ s.index_named) (made told).becomes)) c.create.ensures.ok
