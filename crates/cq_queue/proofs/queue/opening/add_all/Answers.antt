use Rattle.std.proofs.Common.{◌≡◌, ◌∙◌, ◌<◌, [], List, ℕ, length, take, get_or, Some, refl, sym, ap, subst, arith}
use Rattle.std.specs.Prelude.{slice_get}
use Rattle.std.proofs.lemmas.List.Elements.{All-more}
use Rattle.cq_items.specs.Items.{undecided_items}
use Rattle.cq_items.specs.Queue.{Queue}
use Rattle.cq_queue.specs.QueueSegment.{present_of, small_len}
use Rattle.cq_queue.specs.Opening.{LiesIn}
use Rattle.cq_queue.proofs.Finding.{among, get_some, one_more}
use Rattle.cq_queue.proofs.Reading.{still_decided}
use Rattle.cq_queue.proofs.queue.opening.add_all.Goals as goal

pub add_one-requires-clause-decided : goal.add_one-requires-clause-decided
add_one-requires-clause-decided c = let l = c.loop-index in
    let s = c.args.segment.now in
    subst (λ (q : Queue). undecided_items q.items ≡ []) (sym l.invariant.0) (still_decided c.args.items.now.items s.number (take l.index (present_of s)) (take l.index c.args.entries.now) c.requires.decided)

pub returns-in-Err-clause-damaged : goal.returns-in-Err-clause-damaged
returns-in-Err-clause-damaged c = let i = c.loop-index.index in
    let s = c.args.segment.now in
    let es = c.args.entries.now in
    let lt : i < length es = omega (arith, c.loop-index-test.true, c.loop-index.auto.index-end) in
    let lower : i < length c.present.result.now = let same = ap length c.present.ensures.same in omega (arith, lt, same, c.requires.same) in
    let at : slice_get (present_of s) i ≡ Some (get_or c.present.result.now i 0) = subst (λ (ks : List ℕ). slice_get ks i ≡ Some (get_or c.present.result.now i 0)) c.present.ensures.same (get_some c.present.result.now i 0 lower) in
    among s es i (get_or c.present.result.now i 0) _ at (get_some es i _ lt) c.in-Err.error c.in-Err.ensures.damaged

pub loop-index-preserved : goal.loop-index-preserved
loop-index-preserved c = let l = c.loop-index in
    let i = l.index in
    let s = c.args.segment.now in
    let es = c.args.entries.now in
    let lt : i < length es = omega (arith, c.loop-index-test.true, l.auto.index-end) in
    let lower : i < length c.present.result.now = let same = ap length c.present.ensures.same in omega (arith, lt, same, c.requires.same) in
    let at : slice_get (present_of s) i ≡ Some (get_or c.present.result.now i 0) = subst (λ (ks : List ℕ). slice_get ks i ≡ Some (get_or c.present.result.now i 0)) c.present.ensures.same (get_some c.present.result.now i 0 lower) in (
      one_more s.number (present_of s) es i (get_or c.present.result.now i 0) _ c.args.items.now.items l.items c.add_one.new.items at (get_some es i _ lt) l.invariant.0 c.in-Ok.ensures.found,
      All-more (LiesIn (small_len s)) es i _ lt l.invariant.1 c.in-Ok.ensures.within,
    )
