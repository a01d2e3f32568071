use Rattle.std.proofs.Common.{◌≡◌, ◌∙◌, ◌++◌, sym, ap, subst}
use Rattle.std.specs.Prelude.{All}
use Rattle.cq_bulk.specs.Entries.{AreRead}
use Rattle.cq_queue.specs.declared.error.QueueError.{QueueError}
use Rattle.cq_queue.specs.QueueSegment.{present_of, small_len}
use Rattle.cq_queue.specs.Opening.{CantFind, FindsMore, IfDamaged, IsOutsideAmong, LiesIn, error_of, found_of}
use Rattle.cq_queue.proofs.Finding.{err_only, misread_cant, on_both, outside_cant, read_stand}
use Rattle.cq_queue.proofs.queue.opening.find.Goals as goal

pub returns-in-Ok-clause-found : goal.returns-in-Ok-clause-found
returns-in-Ok-clause-found g c = let d = g.D.Disk in
    let s = c.args.segment.now in
    let es = c.deref.result.now in
    let r : AreRead d s.index c.args.disk.now es = subst (AreRead d s.index c.args.disk.now) (sym c.deref.ensures.value) c.in-Ok.ensures.entries in
    on_both c.add_all.result (c.add_all.new.items ≡ record { items = c.args.items.now.items ++ found_of s.number (present_of s) es; reserved = 0 }) (All (LiesIn (small_len s)) es) (FindsMore d.tells (d.files c.args.disk.now) s c.args.items.now c.add_all.new.items) c.add_all.ensures.found c.add_all.ensures.within (λ found within. record {
      entries = es;
      len = r.len;
      queue = found;
      within = within;
      stand = λ told. read_stand s (d.files c.args.disk.now) es (c.requires.knows told) (r.stand told);
    })

pub returns-in-Ok-clause-damaged : goal.returns-in-Ok-clause-damaged
returns-in-Ok-clause-damaged g c = let d = g.D.Disk in
    let s = c.args.segment.now in
    let es = c.deref.result.now in
    let r : AreRead d s.index c.args.disk.now es = subst (AreRead d s.index c.args.disk.now) (sym c.deref.ensures.value) c.in-Ok.ensures.entries in
    err_only c.add_all.result (λ error. IfDamaged error (IsOutsideAmong s es)) (λ error. IfDamaged error (CantFind d.tells s)) c.add_all.ensures.damaged
    (outside_cant d.tells s (d.files c.args.disk.now) es c.requires.knows c.requires.whole (λ told. read_stand s (d.files c.args.disk.now) es (c.requires.knows told) (r.stand told)))

pub returns-in-Err-clause-damaged : goal.returns-in-Err-clause-damaged
returns-in-Err-clause-damaged g c = let d = g.D.Disk in
    let s = c.args.segment.now in
    subst (λ (error : QueueError). IfDamaged error (CantFind d.tells s)) (sym (c.in_index.ensures ∙ ap (λ name. error_of name c.in-Err.error) c.name.ensures)) (misread_cant d.tells s c.in-Err.error c.in-Err.ensures.damaged)
