use Rattle.std.proofs.Common.{arith, ap}
use Rattle.cq_disk.specs.Moments.{weaken}
use Rattle.cq_index.specs.Segments.{count_of}
use Rattle.cq_folder.specs.Steady.{SoundBy}
use Rattle.cq_back.specs.Folder.{IsImageOrWithout}
use Rattle.cq_folder.specs.Held.{as_read, bytes_in, IsSettled}
use Rattle.cq_back.proofs.Opening.{at_each, at_error, of_ok, of_err, damaged_to}
use Rattle.cq_disk.specs.declared.name.Name.{Name}
use Rattle.cq_back.proofs.Ids.{lines_taken, lines_short}
use Rattle.cq_back.proofs.Refused.{not_sound}
use Rattle.cq_back.proofs.Stray.{now_holds, bare_segment, bare_store, left_sound}
use Rattle.cq_back.proofs.open.open_folder.Goals as goal

pub returns-clause-messages : goal.returns-clause-messages
returns-clause-messages g c =
    let r = c.open_queue.result in
    let e = c.open_queue.ensures in
    let holds = now_holds _ _ r (g.D.Disk.files c.open_queue.new.disk) e.now e.settled in
    at_each r _ (λ found is. record {
      ok = of_ok _ r found is e.ok;
      now = of_ok _ r found is holds;
      held = of_ok _ r found is e.held;
      held_now = of_ok _ r found is e.held_now;
    })

pub returns-clause-lines : goal.returns-clause-lines
returns-clause-lines g c =
    let r = c.open_queue.result in
    at_each r _ (λ found is.
    let taken = of_ok _ r found is c.open_queue.ensures.taken in
    let most = found.segment.few in
    record {
      lines = lines_taken (count_of found.segment) found.held.items found.lines taken;
      one_queue = taken.queues;
      matched = taken.matched;
      short = lines_short found.held.items found.lines taken.matched;
      within = of_ok _ r found is c.open_queue.ensures.within;
      few_held = omega (arith, taken.few, most);
      few = most;
    })

pub returns-clause-files : goal.returns-clause-files
returns-clause-files g c =
    let d = g.D.Disk in
    let r = c.open_queue.result in
    let e = c.open_queue.ensures in
    let files = d.files c.open_queue.new.disk in
    let index = bare_segment d.tells r files e.settled e.segment in
    let small = bare_store d.tells r files e.settled e.small in
    at_each r _ (λ found is. record {
      settled = of_ok (λ _. d.tells → (n : Name) → IsSettled (files n)) r found is e.settled;
      name = of_ok _ r found is e.name;
      small_name = of_ok _ r found is e.small_name;
      count = of_ok _ r found is e.count;
      segment = of_ok _ r found is e.segment;
      small = of_ok _ r found is e.small;
      bare_index = of_ok _ r found is index;
      bare_small = of_ok _ r found is small;
    })

pub returns-clause-refuses : goal.returns-clause-refuses
returns-clause-refuses g c =
    let d = g.D.Disk in
    let r = c.open_queue.result in
    let e = c.open_queue.ensures in
    at_error r _ (λ error is.
    let damaged = of_err _ r error is e.damaged in
    record {
      damaged = damaged;
      cause = of_err _ r error is e.cause;
      refuses = damaged_to error _ _ (λ name place found b told none lines. not_sound (as_read (d.files c.args.disk.now)) lines name place found (λ k. ap bytes_in (none k)) (b told)) damaged;
      reads = of_err _ r error is e.reads;
      only_reads = of_err _ r error is e.only_reads;
      unsound = of_err _ r error is e.unsound;
    })

pub returns-clause-keeps : goal.returns-clause-keeps
returns-clause-keeps g c =
    let d = g.D.Disk in
    let old = d.files c.args.disk.now in
    record {
      no_new = c.open_queue.ensures.no_new;
      any_moment = c.open_queue.ensures.any_moment;
      meanwhile = λ told lines holds. weaken d.moment d.left d.files (g.met.D.Disk.now_only told) c.args.disk.now c.open_queue.new.disk (IsImageOrWithout old) (λ image. SoundBy image lines) (left_sound old lines holds) (c.open_queue.ensures.any_moment told);
    }
