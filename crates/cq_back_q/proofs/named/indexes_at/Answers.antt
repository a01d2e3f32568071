use Rattle.std.proofs.Common.{◌≡◌, ◌+◌, ℕ, List, [], ◌∷◌, ◌++◌, get_or, map, take, sym, ◌∙◌, ap, subst}
use Rattle.std.specs.List.{AllByRecursion}
use Rattle.cq_disk.specs.RunLemmas.{ran_next}
use Rattle.cq_index.specs.declared.segment.Segment.{Segment}
use Rattle.cq_index.specs.Places.{index_name}
use Rattle.cq_index.specs.Segments.{IsOpen, name_of}
use Rattle.cq_folder.specs.Queue.{indexes_of}
use Rattle.cq_folder.proofs.Below.{all_append}
use Rattle.cq_back_q.specs.Numbered.{IsReadIndex}
use Rattle.cq_back_q.proofs.Naming.{named_more}
use Rattle.cq_back_q.proofs.Rising.{taken_more}
use Rattle.cq_back_q.proofs.Opened.{damaged_on, index_read, reads_then, still_whole}
use Rattle.cq_back_q.proofs.named.indexes_at.Goals as goal

pub open_index-requires-clause-there : goal.open_index-requires-clause-there
open_index-requires-clause-there g c = λ told. let files = g.D.Disk.files in
    (still_whole (index_name c.args.queue) (files c.args.disk.now) (files c.loop-number.disk) c.args.numbers.now c.loop-number.number-index (c.loop-number.invariant.reads told).files c.loop-number-test.true (c.requires.there told)).some

pub open_index-requires-clause-settled : goal.open_index-requires-clause-settled
open_index-requires-clause-settled g c = λ told. let files = g.D.Disk.files in
    (still_whole (index_name c.args.queue) (files c.args.disk.now) (files c.loop-number.disk) c.args.numbers.now c.loop-number.number-index (c.loop-number.invariant.reads told).files c.loop-number-test.true (c.requires.there told)).all

pub returns-in-Err-clause-damaged : goal.returns-in-Err-clause-damaged
returns-in-Err-clause-damaged g c = let d = g.D.Disk in
    damaged_on d.tells c.args.queue (d.files c.args.disk.now) (d.files c.loop-number.disk) c.in-Err.error (λ told. (c.loop-number.invariant.reads told).files) c.in-Err.ensures.damaged

pub returns-in-Err-clause-reads : goal.returns-in-Err-clause-reads
returns-in-Err-clause-reads g c = λ told.
    reads_then g.D.Disk (g.met.D.Disk.now_only told) c.args.disk.now c.loop-number.disk c.open_index.new.disk (c.loop-number.invariant.reads told) (c.in-Err.ensures.reads told)

pub loop-number-preserved : goal.loop-number-preserved
loop-number-preserved g c = let d = g.D.Disk in
    let l = c.loop-number in
    let start = d.files c.args.disk.now in
    let number = get_or c.args.numbers.now l.number-index 0 in
    let numbers = c.args.numbers.now in
    let opened = l.segments.items in
    let s = c.in-Ok.segment in
    let e = c.in-Ok.ensures in
    let items = sym (c.push_reserved.ensures.items ∙ ap (λ (l : List Segment). l ++ s ∷ []) c.reserve.ensures.items) in
    record {
      named = subst (λ (ss : List Segment). indexes_of ss ≡ map (index_name c.args.queue) (take (l.number-index + 1) numbers)) items
          (taken_more (λ (ns : List ℕ). indexes_of (opened ++ s ∷ []) ≡ map (index_name c.args.queue) ns) numbers l.number-index 0 c.loop-number-test.true
          (named_more name_of (index_name c.args.queue) opened (take l.number-index numbers) s number l.invariant.named e.named.0));
      are_open = subst (AllByRecursion IsOpen) items (all_append IsOpen opened (s ∷ []) l.invariant.are_open (e.named.1, tt));
      read = λ told. subst (AllByRecursion (IsReadIndex start)) items (all_append (IsReadIndex start) opened (s ∷ []) (l.invariant.read told)
          (index_read c.args.queue number start (d.files l.disk) s (l.invariant.reads told).files e.named.0 (e.at told) (e.known told), tt));
      reads = λ told. reads_then d (g.met.D.Disk.now_only told) c.args.disk.now l.disk c.open_index.new.disk (l.invariant.reads told) (e.reads told);
      ran = ran_next d c.args.disk.now l.disk c.open_index.new.disk _ _ ⊥ (λ no. absurd no) l.invariant.ran e.ran;
    }
