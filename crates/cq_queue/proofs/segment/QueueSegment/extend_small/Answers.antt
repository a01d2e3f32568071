use Rattle.std.proofs.Common.{◌≡◌, ◌++◌, sym, subst}
use Rattle.cq_disk.specs.declared.name.Name.{Name}
use Rattle.cq_disk.specs.File.{settled}
use Rattle.cq_gate.specs.Format.{content}
use Rattle.cq_gate.specs.Gated.{KeepsOrAdds}
use Rattle.cq_gate.specs.Calls.{Touches, Moves}
use Rattle.cq_folder.proofs.Images.{step_part}
use Rattle.cq_small.specs.Calls.{Adds, TakesMore}
use Rattle.cq_small.specs.Store.{end_of}
use Rattle.cq_queue.proofs.Files.{kept_in, added_in, small_bare}
use Rattle.cq_queue.proofs.Runs.{Tells, small_touches, small_held}
use Rattle.cq_queue.proofs.segment.QueueSegment.extend_small.Goals as goal

pub add-requires-clause-store : goal.add-requires-clause-store
add-requires-clause-store g c = λ told.
    let s = c.args.self.now in
    let at = (c.requires.knows told).small in
    subst (λ (n : Name). TakesMore s.small (g.D.Disk.files c.args.disk.now n)) (sym s.small_named) (record { is = at.knows; bare = small_bare s.small _ at c.requires.small })

pub returns-in_err-add-clause-touches : goal.returns-in_err-add-clause-touches
returns-in_err-add-clause-touches g c = λ told.
    let t : Tells g.D.Disk = record { only = g.met.D.Disk.now_only told; each = g.met.D.Disk.now_each told; readable = g.met.D.Disk.reads_left told } in
    let s = c.args.self.now in
    let touches = subst (λ (n : Name). Touches g.D.Disk n c.args.disk.now c.add.new.disk (KeepsOrAdds 2 c.args.records.now)) s.small_named (c.add.ensures.touches told) in
    small_touches g.D.Disk t c.args.disk.now c.add.new.disk s.queue s.number c.args.records.now touches

pub returns-clause-touches : goal.returns-clause-touches
returns-clause-touches g c = λ told.
    let t : Tells g.D.Disk = record { only = g.met.D.Disk.now_only told; each = g.met.D.Disk.now_each told; readable = g.met.D.Disk.reads_left told } in
    let s = c.args.self.now in
    let touches = subst (λ (n : Name). Touches g.D.Disk n c.args.disk.now c.add.new.disk (KeepsOrAdds 2 c.args.records.now)) s.small_named (c.add.ensures.touches told) in
    small_touches g.D.Disk t c.args.disk.now c.add.new.disk s.queue s.number c.args.records.now touches

pub returns-clause-ok : goal.returns-clause-ok
returns-clause-ok g c = λ told.
    let t : Tells g.D.Disk = record { only = g.met.D.Disk.now_only told; each = g.met.D.Disk.now_each told; readable = g.met.D.Disk.reads_left told } in
    let s = c.args.self.now in
    let records = c.args.records.now in
    let end = end_of s.small in
    let touches = subst (λ (n : Name). Touches g.D.Disk n c.args.disk.now c.add.new.disk (KeepsOrAdds 2 c.args.records.now)) s.small_named (c.add.ensures.touches told) in
    let step = subst (λ (n : Name). Moves g.D.Disk n c.args.disk.now c.add.new.disk (Adds end records)) s.small_named (c.in_ok-add.ensures.ok told).step in
    record {
      kept_records = kept_in _ _ end records step;
      new_records = added_in _ _ end records step;
      held = small_held g.D.Disk t c.args.disk.now c.add.new.disk s.queue s.number records touches
          (step_part _ _ (Adds end records) (λ f k. content k.reads ≡ content f.reads ++ records) (λ f k x. x.content) step)
          (step_part _ _ (Adds end records) (λ f k. k ≡ settled k.reads) (λ f k x. x.all) step);
    }
