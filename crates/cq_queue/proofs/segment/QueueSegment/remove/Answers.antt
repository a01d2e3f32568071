use Rattle.std.proofs.Common.{◌≡◌, None, ◌∙◌, subst}
use Rattle.cq_disk.specs.declared.name.Name.{Name}
use Rattle.cq_disk.specs.Files.{BecomesOrNot, Removes}
use Rattle.cq_disk.specs.Run.{LeavesOnly}
use Rattle.cq_queue.proofs.Leave.{index_first, index_then, small_last, none_listed, index_off, index_gone, small_off, small_gone, over_after}
use Rattle.cq_queue.proofs.Runs.{Tells, stays_then}
use Rattle.cq_queue.proofs.segment.QueueSegment.remove.Goals as goal

pub returns-in_err-remove_file-clause-touches : goal.returns-in_err-remove_file-clause-touches
returns-in_err-remove_file-clause-touches g c = λ told.
    let t : Tells g.D.Disk = record { only = g.met.D.Disk.now_only told; each = g.met.D.Disk.now_each told; readable = g.met.D.Disk.reads_left told } in
    let s = c.args.self in
    let files = g.D.Disk.files in
    let old = c.args.disk.now in
    let mid = c.remove_file.new.disk in
    let over = none_listed s.index _ (c.requires.knows told).index c.requires.over in
    let becomes = subst (λ (n : Name). BecomesOrNot n None (files old) (files mid)) c.name-index.ensures (c.remove_file.ensures.either told) in
    let run = subst (λ (n : Name). LeavesOnly g.D.Disk old mid (Removes n (files old))) c.name-index.ensures (c.remove_file.ensures.any_moment told) in
    let off = index_off g.D.Disk t old mid s.queue s.number over run in
    let kept = index_gone g.D.Disk t old mid s.queue s.number over becomes in
    record { others = λ n not_small not_index. becomes.others n not_index; any_moment = off; held = kept; order = λ some. index_first g.D.Disk t old mid s.queue s.number some run }

pub returns-clause-touches : goal.returns-clause-touches
returns-clause-touches g c = λ told.
    let t : Tells g.D.Disk = record { only = g.met.D.Disk.now_only told; each = g.met.D.Disk.now_each told; readable = g.met.D.Disk.reads_left told } in
    let s = c.args.self in
    let files = g.D.Disk.files in
    let old = c.args.disk.now in
    let mid = c.remove_file.new.disk in
    let over = none_listed s.index _ (c.requires.knows told).index c.requires.over in
    let becomes = subst (λ (n : Name). BecomesOrNot n None (files old) (files mid)) c.name-index.ensures (c.remove_file.ensures.either told) in
    let run = subst (λ (n : Name). LeavesOnly g.D.Disk old mid (Removes n (files old))) c.name-index.ensures (c.remove_file.ensures.any_moment told) in
    let off = index_off g.D.Disk t old mid s.queue s.number over run in
    let kept = index_gone g.D.Disk t old mid s.queue s.number over becomes in
    let new = c.remove_file-2.new.disk in
    let none = subst (λ (n : Name). files mid n ≡ None) c.name-index.ensures (c.in_ok-remove_file.ensures.ok told) in
    let becomes_next = subst (λ (n : Name). BecomesOrNot n None (files mid) (files new)) c.name-small.ensures (c.remove_file-2.ensures.either told) in
    let run_next = subst (λ (n : Name). LeavesOnly g.D.Disk mid new (Removes n (files mid))) c.name-small.ensures (c.remove_file-2.ensures.any_moment told) in
    record {
      others = λ n not_small not_index. becomes_next.others n not_small ∙ becomes.others n not_index;
      any_moment = stays_then g.D.Disk t old mid new off kept (small_off g.D.Disk t mid new s.queue s.number (over_after _ none) run_next);
      held = λ sharing lines h. small_gone g.D.Disk t mid new s.queue s.number (over_after _ none) becomes_next sharing lines (kept sharing lines h);
      order = λ some. index_then g.D.Disk t old mid new s.queue s.number (index_first g.D.Disk t old mid s.queue s.number some run) (small_last g.D.Disk t mid new s.queue s.number none run_next);
    }
