use Rattle.std.proofs.Common.{◌≡◌, ◌+◌, ℕ, List, [], ◌∷◌, ◌++◌, get_or, map, take, sym, ◌∙◌, ap, subst}
use Rattle.std.specs.Prelude.{filter}
use Rattle.std.specs.List.{AllByRecursion}
use Rattle.cq_disk.specs.RunLemmas.{ran_next}
use Rattle.cq_small.specs.declared.store.SmallStore.{SmallStore}
use Rattle.cq_small.specs.Store.{small_name, name_of, IsOpen}
use Rattle.cq_folder.specs.Queue.{has_number, indexes_of, stores_of}
use Rattle.cq_folder.proofs.Below.{all_append}
use Rattle.cq_back_q.specs.Numbered.{HaveRead}
use Rattle.cq_back_q.proofs.Naming.{kept_more, kept_same, named_more}
use Rattle.cq_back_q.proofs.Rising.{taken_more}
use Rattle.cq_back_q.proofs.Opened.{damaged_on, left_read, more_read, reads_then, still_whole}
use Rattle.cq_back_q.proofs.named.stores_at.Goals.{then-has_segment, else-has_segment}
use Rattle.cq_back_q.proofs.named.stores_at.Goals as goal

pub open_small-requires-clause-there : goal.open_small-requires-clause-there
open_small-requires-clause-there g c = λ told. let files = g.D.Disk.files in
    (still_whole (small_name c.args.queue) (files c.args.disk.now) (files c.loop-number.disk) c.args.numbers.now c.loop-number.number-index (c.loop-number.invariant.reads told).files c.loop-number-test.true (c.requires.there told)).some

pub open_small-requires-clause-settled : goal.open_small-requires-clause-settled
open_small-requires-clause-settled g c = λ told. let files = g.D.Disk.files in
    (still_whole (small_name c.args.queue) (files c.args.disk.now) (files c.loop-number.disk) c.args.numbers.now c.loop-number.number-index (c.loop-number.invariant.reads told).files c.loop-number-test.true (c.requires.there told)).all

pub returns-in-Err-clause-damaged : goal.returns-in-Err-clause-damaged
returns-in-Err-clause-damaged g c = let d = g.D.Disk in
    damaged_on d.tells c.args.queue (d.files c.args.disk.now) (d.files c.loop-number.disk) c.in-Err.error (λ told. (c.loop-number.invariant.reads told).files) c.in-Err.ensures.damaged

pub returns-in-Err-clause-reads : goal.returns-in-Err-clause-reads
returns-in-Err-clause-reads g c = λ told.
    reads_then g.D.Disk (g.met.D.Disk.now_only told) c.args.disk.now c.loop-number.disk c.open_small.new.disk (c.loop-number.invariant.reads told) (c.in-Err.ensures.reads told)

pub loop-number-preserved : goal.loop-number-preserved
loop-number-preserved g c = let d = g.D.Disk in
    let l = c.loop-number in
    let start = d.files c.args.disk.now in
    let number = get_or c.args.numbers.now l.number-index 0 in
    let numbers = c.args.numbers.now in
    let queue = c.args.queue in
    let seen = take l.number-index numbers in
    let p = has_number (indexes_of c.args.segments.now) in
    let kept = l.stores.items in
    let s = c.in-Ok.store in
    let e = c.in-Ok.ensures in
    elim c.if-has_segment.branch [
      | then-has_segment w ↦
          let items = sym (ap (λ v. v.items) w.stores-is ∙ w.push_reserved.ensures.items ∙ ap (λ (l : List SmallStore). l ++ s ∷ []) c.reserve.ensures.items) in
          let own = sym c.has_segment.ensures ∙ w.if-has_segment.true in
          record {
            named = subst (λ (ss : List SmallStore). stores_of ss ≡ map (small_name queue) (filter p (take (l.number-index + 1) numbers))) items
                (taken_more (λ (ns : List ℕ). stores_of (kept ++ s ∷ []) ≡ map (small_name queue) (filter p ns)) numbers l.number-index 0 c.loop-number-test.true
                (named_more name_of (small_name queue) kept (filter p seen) s number l.invariant.named e.named.0 ∙ ap (map (small_name queue)) (sym (kept_more p seen number own))));
            are_open = subst (AllByRecursion IsOpen) items (all_append IsOpen kept (s ∷ []) l.invariant.are_open (e.named.1, tt));
            read = λ told. subst (HaveRead queue start (take (l.number-index + 1) numbers)) items
                (taken_more (λ (ns : List ℕ). HaveRead queue start ns (kept ++ s ∷ [])) numbers l.number-index 0 c.loop-number-test.true
                (more_read queue number start (d.files l.disk) seen kept (l.invariant.reads told).files (l.invariant.read told) (e.formed told) s e.named.0 (e.at told)));
            reads = λ told. reads_then d (g.met.D.Disk.now_only told) c.args.disk.now l.disk c.open_small.new.disk (l.invariant.reads told) (e.reads told);
            ran = ran_next d c.args.disk.now l.disk c.open_small.new.disk _ _ ⊥ (λ no. absurd no) l.invariant.ran e.ran;
          }
      | else-has_segment w ↦
          let items = sym (ap (λ v. v.items) w.stores-is ∙ c.reserve.ensures.items) in
          let other = sym c.has_segment.ensures ∙ w.if-has_segment.false in
          record {
            named = subst (λ (ss : List SmallStore). stores_of ss ≡ map (small_name queue) (filter p (take (l.number-index + 1) numbers))) items
                (taken_more (λ (ns : List ℕ). stores_of kept ≡ map (small_name queue) (filter p ns)) numbers l.number-index 0 c.loop-number-test.true
                (l.invariant.named ∙ ap (map (small_name queue)) (sym (kept_same p seen number other))));
            are_open = subst (AllByRecursion IsOpen) items l.invariant.are_open;
            read = λ told. subst (HaveRead queue start (take (l.number-index + 1) numbers)) items
                (taken_more (λ (ns : List ℕ). HaveRead queue start ns kept) numbers l.number-index 0 c.loop-number-test.true
                (left_read queue number start (d.files l.disk) seen kept (l.invariant.reads told).files (l.invariant.read told) (e.formed told)));
            reads = λ told. reads_then d (g.met.D.Disk.now_only told) c.args.disk.now l.disk c.open_small.new.disk (l.invariant.reads told) (e.reads told);
            ran = ran_next d c.args.disk.now l.disk c.open_small.new.disk _ _ ⊥ (λ no. absurd no) l.invariant.ran e.ran;
          }
    ]
