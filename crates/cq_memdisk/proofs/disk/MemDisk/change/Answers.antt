use Rattle.std.proofs.Common.{◌≡◌, [], ◌∷◌, ◌++◌, Vec, ◌∙◌, ap, arith}
use Rattle.std.specs.declared.alloc.Global.{Global}
use Rattle.cq_memdisk.specs.declared.change.Note.{Note}
use Rattle.cq_memdisk.specs.Folder.{bytes_of}
use Rattle.cq_memdisk.specs.Change.{CanChange, files_of}
use Rattle.cq_memdisk.specs.Record.{elapses_same, elapses_noted, stays_kept, IsKept, one_more}
use Rattle.cq_memdisk.proofs.disk.MemDisk.change.Goals as goal

pub invariant_of-self : goal.invariant_of-self
invariant_of-self c =
    let d = c.count_call.new.self in
    let e = c.perform.ensures in
    let can : CanChange c.args.change (files_of d.notes.items c.args.name) = rw c.in_ok-count_call.ensures.files.notes c.requires.can in
    let was : IsKept d.notes.items (bytes_of d.files) d.moment = record { kept = d.kept; past = d.past; history = d.history } in
    let is = stays_kept c.perform.result d.notes.items c.perform.new.notes.items (bytes_of d.files) (bytes_of c.perform.new.files)
    (record { from = d.moment; name = c.args.name; change = c.args.change }) d.moment was (omega arith) can c.requires.bytes e.ok e.fits e.in_range e.noted e.err e.not_noted in
    record { kept = is.kept; past = is.past; begun = d.begun; history = is.history; strikes = d.strikes; counts = d.counts }

pub returns-in-Ok-clause-ok : goal.returns-in-Ok-clause-ok
returns-in-Ok-clause-ok c =
    let e = c.in_ok-count_call.ensures in
    let x : Note = record { from = c.count_call.new.self.moment; name = c.args.name; change = c.args.change } in
    let noted : c.perform.new.notes.items ≡ c.args.self.now.notes.items ++ x ∷ [] = c.in-Ok.ensures.noted ∙ ap (λ (v : Vec Note Global). v.items ++ x ∷ []) e.files.notes in
    rw noted (one_more c.args.self.now.notes.items x)

pub returns-in-Ok-clause-time : goal.returns-in-Ok-clause-time
returns-in-Ok-clause-time c =
    let e = c.in_ok-count_call.ensures in
    let x : Note = record { from = c.count_call.new.self.moment; name = c.args.name; change = c.args.change } in
    let noted : c.perform.new.notes.items ≡ c.count_call.new.self.notes.items ++ x ∷ [] = c.in-Ok.ensures.noted in
    elapses_noted _ _ x _ _ _ _ (omega (arith, e.time.next, e.called.in_time)) e.time.later e.time.next e.files.since (noted ∙ ap (λ (v : Vec Note Global). v.items ++ x ∷ []) e.files.notes)

pub returns-in-Err-clause-time : goal.returns-in-Err-clause-time
returns-in-Err-clause-time c =
    let e = c.in_ok-count_call.ensures in
    let r = c.refuse.ensures in
    let same : c.perform.new.notes.items ≡ c.count_call.new.self.notes.items = c.in-Err.ensures.not_noted in
    elapses_same _ _ _ _ _ _ (omega (arith, e.time.later, r.counts.moment)) (r.counts.moment ∙ e.time.next) (r.files.since ∙ e.files.since) (ap (λ (v : Vec Note Global). v.items) r.files.notes ∙ same ∙ ap (λ (v : Vec Note Global). v.items) e.files.notes)
