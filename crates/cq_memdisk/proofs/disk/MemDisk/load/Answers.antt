use Rattle.std.proofs.Common.{◌≡◌, List, Some, refl, sym, subst, arith, rules}
use Rattle.cq_disk.specs.File.{settled}
use Rattle.cq_disk.specs.Files.{Becomes}
use Rattle.cq_disk.specs.Moments.{on_ok}
use Rattle.cq_memdisk.specs.declared.change.Change.TheVariants.{Load}
use Rattle.cq_memdisk.specs.declared.change.Note.{Note}
use Rattle.cq_memdisk.specs.Folder.{bytes_of}
use Rattle.cq_memdisk.specs.Change.{HasBytes, files_of}
use Rattle.cq_memdisk.specs.Record.{stays_kept, one_more, left_before, IsKept}
use Rattle.cq_memdisk.proofs.disk.MemDisk.load.Goals as goal

pub invariant_of-self : goal.invariant_of-self
invariant_of-self c =
    let d = c.args.self.now in
    let e = c.perform.ensures in
    let v = c.in_ok-to_vec.field-0 in
    let x : Note = record { from = d.moment; name = c.args.name; change = Load v } in
    let small : HasBytes (Load v) = search rules in
    let was : IsKept d.notes.items (bytes_of d.files) d.moment = record { kept = d.kept; past = d.past; history = d.history } in
    let is = stays_kept c.perform.result d.notes.items c.perform.new.notes.items (bytes_of d.files) (bytes_of c.perform.new.files) x d.moment was (omega arith) tt small e.ok e.fits e.in_range e.noted e.err e.not_noted in
    record { kept = is.kept; past = is.past; begun = d.begun; history = is.history; strikes = d.strikes; counts = d.counts }

pub returns-clause-left : goal.returns-clause-left
returns-clause-left c =
    let d = c.args.self.now in
    let v = c.in_ok-to_vec.field-0 in
    let x : Note = record { from = d.moment; name = c.args.name; change = Load v } in
    left_before c.perform.result d.notes.items c.perform.new.notes.items x d.since d.moment refl c.perform.ensures.noted c.perform.ensures.not_noted

pub returns-clause-ok : goal.returns-clause-ok
returns-clause-ok c =
    let d = c.args.self.now in
    let v = c.in_ok-to_vec.field-0 in
    let x : Note = record { from = d.moment; name = c.args.name; change = Load v } in
    let same : v.items ≡ c.args.bytes.now = search rules in
    on_ok c.perform.result (λ noted. subst (λ (l : List Note). Becomes c.args.name (Some (settled c.args.bytes.now)) (files_of d.notes.items) (files_of l)) (sym noted)
    (rw (← same) (one_more d.notes.items x))) c.perform.ensures.noted
