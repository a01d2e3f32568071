use Rattle.std.proofs.Common.{sym, subst}
use Rattle.cq_disk.specs.declared.name.Name.{Name}
use Rattle.cq_disk.specs.Moments.{on_ok}
use Rattle.cq_gate.specs.Calls.{Moves, Touches}
use Rattle.cq_small.specs.Store.{small_name}
use Rattle.cq_index.specs.Gone.{AreGone, StatusesOnly}
use Rattle.cq_index.specs.Places.{index_name}
use Rattle.cq_index.specs.Segments.{IsSegment}
use Rattle.cq_index.proofs.Known.{filed, of_filed}
use Rattle.cq_folder.specs.Queue.{IsSmallAt, IsIndexAt}
use Rattle.cq_queue.proofs.Files.{apart, all_settled}
use Rattle.cq_queue.proofs.Stand.{gone_entries}
use Rattle.cq_queue.proofs.Leave.{on_both, open_some, gone_on, gone_held}
use Rattle.cq_queue.proofs.Runs.{Tells}
use Rattle.cq_queue.proofs.segment.QueueSegment.gone.Goals as goal

pub gone-requires-clause-segment : goal.gone-requires-clause-segment
gone-requires-clause-segment g c = λ told. let s = c.args.self.now in subst (λ (n : Name). IsSegment s.index (g.D.Disk.files c.args.disk.now n)) (sym s.index_named) (of_filed s.index _ (c.requires.knows told).index.knows)

pub returns-clause-touches : goal.returns-clause-touches
returns-clause-touches g c = λ told.
    let t : Tells g.D.Disk = record { only = g.met.D.Disk.now_only told; each = g.met.D.Disk.now_each told; readable = g.met.D.Disk.reads_left told } in
    let s = c.args.self.now in
    let is_open = open_some s.index c.args.at.now c.requires.at.some c.requires.at.present in
    let touches = subst (λ (n : Name). Touches g.D.Disk n c.args.disk.now c.gone.new.disk (StatusesOnly 1 c.args.at.now)) s.index_named (c.gone.ensures.touches told is_open) in
    record { others = touches.others; any_moment = λ ids places. gone_on g.D.Disk t c.args.disk.now c.gone.new.disk s.queue s.number c.args.at.now ids places touches }

pub returns-clause-knows : goal.returns-clause-knows
returns-clause-knows g c = let s = c.args.self.now in
    let is_open = open_some s.index c.args.at.now c.requires.at.some c.requires.at.present in
    on_ok c.gone.result (λ lost told.
    let touches = subst (λ (n : Name). Touches g.D.Disk n c.args.disk.now c.gone.new.disk (StatusesOnly 1 c.args.at.now)) s.index_named (c.gone.ensures.touches told is_open) in
    let step = subst (λ (n : Name). Moves g.D.Disk n c.args.disk.now c.gone.new.disk (AreGone c.args.at.now)) s.index_named ((lost told).step is_open) in
    record {
      small = subst (IsSmallAt s.small) (sym (touches.others (small_name s.queue s.number) (λ same. apart s.queue s.number s.queue s.number (sym same)))) (c.requires.knows told).small;
      index = record {
        knows = filed c.gone.new.self _ (subst (λ (n : Name). IsSegment c.gone.new.self (g.D.Disk.files c.gone.new.disk n)) s.index_named (lost told).is);
        all = all_settled _ _ (AreGone c.args.at.now) (λ f k x. x.all) step;
      };
    }) c.gone.ensures.ok

pub returns-clause-ok : goal.returns-clause-ok
returns-clause-ok g c = let s = c.args.self.now in
    let is_open = open_some s.index c.args.at.now c.requires.at.some c.requires.at.present in
    on_both c.gone.result (λ loses lost told.
    let t : Tells g.D.Disk = record { only = g.met.D.Disk.now_only told; each = g.met.D.Disk.now_each told; readable = g.met.D.Disk.reads_left told } in
    let touches = subst (λ (n : Name). Touches g.D.Disk n c.args.disk.now c.gone.new.disk (StatusesOnly 1 c.args.at.now)) s.index_named (c.gone.ensures.touches told is_open) in
    let step = subst (λ (n : Name). Moves g.D.Disk n c.args.disk.now c.gone.new.disk (AreGone c.args.at.now)) s.index_named ((lost told).step is_open) in
    let at : IsIndexAt c.gone.new.self (g.D.Disk.files c.gone.new.disk (index_name s.queue s.number)) = record {
      knows = filed c.gone.new.self _ (subst (λ (n : Name). IsSegment c.gone.new.self (g.D.Disk.files c.gone.new.disk n)) s.index_named (lost told).is);
      all = all_settled _ _ (AreGone c.args.at.now) (λ f k x. x.all) step;
    } in
    record {
      entries = gone_entries c.args.at.now s.index c.gone.new.self _ _ (c.requires.knows told).index at loses.count is_open (loses.opened is_open) step;
      held = λ ids places. gone_held g.D.Disk t c.args.disk.now c.gone.new.disk s.queue s.number c.args.at.now ids places touches step;
    }) c.gone.ensures.shown c.gone.ensures.ok
