use Rattle.std.proofs.Common.{rules, ◌≡◌, ◌∙◌, ◌<◌, ℕ, suc, ◌+◌, [], length, take, Option, Some, refl, sym, ap, subst, arith}
use Rattle.std.specs.Prelude.{slice_get}
use Rattle.std.specs.List.{AllByRecursion}
use Rattle.std.proofs.lemmas.Option.{slice_get_read}
use Rattle.cq_disk.specs.declared.name.Name.{Name}
use Rattle.cq_disk.specs.File.{File}
use Rattle.cq_disk.specs.RunLemmas.{ran_next}
use Rattle.cq_queue.specs.declared.segment.QueueSegment.{QueueSegment}
use Rattle.cq_queue.specs.Opening.{HasFound, HasRecords}
use Rattle.cq_queue.proofs.Changes.{all_at}
use Rattle.cq_queue.proofs.Finding.{any_of, found_on}
use Rattle.cq_queue.proofs.Reading.{none_undecided, opens_more}
use Rattle.cq_queue.proofs.queue.opening.find_all.Goals as goal

pub find-requires-clause-decided : goal.find-requires-clause-decided
find-requires-clause-decided g c = none_undecided c.loop-index.items.items c.loop-index.invariant.found.found

pub find-requires-clause-whole : goal.find-requires-clause-whole
find-requires-clause-whole g c = λ told. let d = g.D.Disk in
    let l = c.loop-index in
    let s = c.index.result.now in
    let is : slice_get c.args.list.now.items l.index ≡ Some s = slice_get_read c.args.list.now.items (length c.args.list.now.items) l.index s refl (omega (arith, c.loop-index-test.true, c.len-index-end.ensures)) c.index.ensures in
    let own : s.queue ≡ c.args.queue = all_at (λ (r : QueueSegment). r.queue ≡ c.args.queue) c.args.list.now.items l.index s is c.requires.rise.0 in
    let same : d.files l.disk ≡ d.files c.args.disk.now = (λ j n. (l.invariant.reads told).files n j) in
    subst (λ (fs : Name → Option File). HasRecords s.queue fs s.index) (sym same) (subst (λ (q : ℕ). HasRecords q (d.files c.args.disk.now) s.index) (sym own)
    (all_at (λ (r : QueueSegment). HasRecords c.args.queue (d.files c.args.disk.now) r.index) c.args.list.now.items l.index s is (c.requires.at told).whole))

pub returns-in-Err-clause-damaged : goal.returns-in-Err-clause-damaged
returns-in-Err-clause-damaged g c = let l = c.loop-index in
    let s = c.index.result.now in
    let is : slice_get c.args.list.now.items l.index ≡ Some s = slice_get_read c.args.list.now.items (length c.args.list.now.items) l.index s refl (omega (arith, c.loop-index-test.true, c.len-index-end.ensures)) c.index.ensures in
    any_of g.D.Disk.tells c.args.list.now.items l.index s is c.in-Err.error c.in-Err.ensures.damaged

pub loop-index-preserved : goal.loop-index-preserved
loop-index-preserved g c = let d = g.D.Disk in
    let l = c.loop-index in
    let s = c.index.result.now in
    let i = l.index in
    let list = c.args.list.now.items in
    let start = d.files c.args.disk.now in
    let is : slice_get list i ≡ Some s = slice_get_read list (length list) i s refl (omega (arith, c.loop-index-test.true, c.len-index-end.ensures)) c.index.ensures in
    let up : suc i ≡ i + 1 = omega arith in
    record {
      found = subst (λ (m : ℕ). HasFound d.tells c.args.queue start list (take m list) c.find.new.items) up
          (opens_more d.tells c.args.queue start list i s l.items c.find.new.items c.requires.rise is
          (λ told. all_at (λ (r : QueueSegment). HasRecords c.args.queue start r.index) list i s is (c.requires.at told).whole) l.invariant.found
          (found_on d.tells (d.files l.disk) start s l.items c.find.new.items (λ told. (λ j n. (l.invariant.reads told).files n j)) c.in-Ok.ensures.found));
      reads = search rules;
      ran = ran_next d c.args.disk.now l.disk c.find.new.disk _ _ ⊥ (λ no. absurd no) l.invariant.ran c.in-Ok.ensures.ran;
    }
