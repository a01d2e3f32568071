use Rattle.std.proofs.Common.{◌≡◌, ◌++◌, sym, subst}
use Rattle.cq_disk.specs.declared.name.Name.{Name}
use Rattle.cq_disk.specs.File.{settled}
use Rattle.cq_gate.specs.Calls.{Moves, Touches}
use Rattle.cq_gate.specs.Format.{content}
use Rattle.cq_gate.specs.Gated.{KeepsOrAdds}
use Rattle.cq_small.specs.Store.{small_name}
use Rattle.cq_index.specs.Calls.{TakesMore}
use Rattle.cq_index.specs.Places.{index_name, entries_bytes, Adds}
use Rattle.cq_index.specs.Segments.{count_of, IsSegment}
use Rattle.cq_index.proofs.Known.{filed, of_filed}
use Rattle.cq_folder.proofs.Images.{step_part}
use Rattle.cq_folder.specs.Queue.{IsSmallAt, IsIndexAt}
use Rattle.cq_queue.proofs.Files.{apart, all_settled, content_step, index_bare}
use Rattle.cq_queue.proofs.Runs.{Tells, index_on, index_held}
use Rattle.cq_queue.proofs.Stand.{new_entries}
use Rattle.cq_queue.proofs.segment.QueueSegment.extend_index.Goals as goal

pub add-requires-clause-segment : goal.add-requires-clause-segment
add-requires-clause-segment g c = λ told.
    let s = c.args.self.now in
    let at = (c.requires.knows told).index in
    subst (λ (n : Name). TakesMore s.index (g.D.Disk.files c.args.disk.now n)) (sym s.index_named) (record { is = of_filed s.index _ at.knows; bare = index_bare s.index _ at c.requires.made })

pub returns-in_err-add-clause-touches : goal.returns-in_err-add-clause-touches
returns-in_err-add-clause-touches g c = λ told.
    let t : Tells g.D.Disk = record { only = g.met.D.Disk.now_only told; each = g.met.D.Disk.now_each told; readable = g.met.D.Disk.reads_left told } in
    let s = c.args.self.now in
    let touches = subst (λ (n : Name). Touches g.D.Disk n c.args.disk.now c.add.new.disk (KeepsOrAdds 1 (entries_bytes c.args.entries.now))) s.index_named (c.add.ensures.touches told) in
    record { others = touches.others; any_moment = λ sharing ms will. index_on g.D.Disk t c.args.disk.now c.add.new.disk s.queue s.number c.args.entries.now touches sharing ms will }

pub returns-clause-touches : goal.returns-clause-touches
returns-clause-touches g c = λ told.
    let t : Tells g.D.Disk = record { only = g.met.D.Disk.now_only told; each = g.met.D.Disk.now_each told; readable = g.met.D.Disk.reads_left told } in
    let s = c.args.self.now in
    let touches = subst (λ (n : Name). Touches g.D.Disk n c.args.disk.now c.add.new.disk (KeepsOrAdds 1 (entries_bytes c.args.entries.now))) s.index_named (c.add.ensures.touches told) in
    record { others = touches.others; any_moment = λ sharing ms will. index_on g.D.Disk t c.args.disk.now c.add.new.disk s.queue s.number c.args.entries.now touches sharing ms will }

pub returns-clause-knows : goal.returns-clause-knows
returns-clause-knows g c = λ told.
    let s = c.args.self.now in
    let entries = c.args.entries.now in
    let touches = subst (λ (n : Name). Touches g.D.Disk n c.args.disk.now c.add.new.disk (KeepsOrAdds 1 (entries_bytes c.args.entries.now))) s.index_named (c.add.ensures.touches told) in
    let step = subst (λ (n : Name). Moves g.D.Disk n c.args.disk.now c.add.new.disk (Adds (count_of s.index) entries)) s.index_named (c.in_ok-add.ensures.ok told).step in
    record {
      small = subst (IsSmallAt s.small) (sym (touches.others (small_name s.queue s.number) (λ same. apart s.queue s.number s.queue s.number (sym same)))) (c.requires.knows told).small;
      index = record {
        knows = filed c.add.new.self _ (subst (λ (n : Name). IsSegment c.add.new.self (g.D.Disk.files c.add.new.disk n)) s.index_named (c.in_ok-add.ensures.ok told).is);
        all = all_settled _ _ (Adds (count_of s.index) entries) (λ f k x. x.all) step;
      };
    }

pub returns-clause-ok : goal.returns-clause-ok
returns-clause-ok g c = λ told.
    let t : Tells g.D.Disk = record { only = g.met.D.Disk.now_only told; each = g.met.D.Disk.now_each told; readable = g.met.D.Disk.reads_left told } in
    let s = c.args.self.now in
    let entries = c.args.entries.now in
    let touches = subst (λ (n : Name). Touches g.D.Disk n c.args.disk.now c.add.new.disk (KeepsOrAdds 1 (entries_bytes c.args.entries.now))) s.index_named (c.add.ensures.touches told) in
    let added = c.in_ok-add.ensures.ok told in
    let step = subst (λ (n : Name). Moves g.D.Disk n c.args.disk.now c.add.new.disk (Adds (count_of s.index) entries)) s.index_named added.step in
    let grown = subst (λ (n : Name). Moves g.D.Disk n c.args.disk.now c.add.new.disk (λ f k. content k.reads ≡ content f.reads ++ entries_bytes entries)) s.index_named added.grown in
    let at : IsIndexAt c.add.new.self (g.D.Disk.files c.add.new.disk (index_name s.queue s.number)) = record {
      knows = filed c.add.new.self _ (subst (λ (n : Name). IsSegment c.add.new.self (g.D.Disk.files c.add.new.disk n)) s.index_named added.is);
      all = all_settled _ _ (Adds (count_of s.index) entries) (λ f k x. x.all) step;
    } in
    record {
      content = content_step _ _ (entries_bytes entries) grown;
      new_entries = new_entries c.add.new.self _ _ (count_of s.index) entries at c.in_ok-add.ensures.shown.1.is_open c.in_ok-add.ensures.shown.1.count step;
      held = λ sharing ms will. index_held g.D.Disk t c.args.disk.now c.add.new.disk s.queue s.number entries touches sharing ms will grown
          (step_part _ _ (Adds (count_of s.index) entries) (λ f k. k ≡ settled k.reads) (λ f k x. x.all) step);
    }
