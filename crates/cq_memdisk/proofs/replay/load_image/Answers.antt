use Rattle.std.proofs.Common.{◌≡◌, List, [], ◌∷◌, ◌++◌, Some, refl, sym, subst, arith, rules}
use Rattle.cq_disk.specs.File.{settled}
use Rattle.cq_disk.specs.Files.{Among}
use Rattle.cq_disk.specs.Moments.{among, on_ok}
use Rattle.cq_memdisk.specs.declared.change.Change.TheVariants.{Load}
use Rattle.cq_memdisk.specs.declared.change.Note.{Note}
use Rattle.cq_memdisk.specs.Folder.{bytes_of}
use Rattle.cq_memdisk.specs.Change.{files_of}
use Rattle.cq_memdisk.specs.Crash.{BecameImage, IsNumbered}
use Rattle.cq_memdisk.specs.Stored.{file_of, stored_of}
use Rattle.cq_memdisk.specs.Record.{stays_kept, one_more, on_ok_too}
use Rattle.cq_memdisk.proofs.Images.{numbered_image}
use Rattle.cq_memdisk.proofs.replay.load_image.Goals as goal

pub image-requires : goal.image-requires
image-requires c =
    let f = file_of c.in-Some.state.now in
    let is : stored_of c.args.states.now c.args.name ≡ Some f = search rules in
    c.requires.sound f is

pub returns-in_ok-image-in-Some-clause-kept : goal.returns-in_ok-image-in-Some-clause-kept
returns-in_ok-image-in-Some-clause-kept c =
    let f = file_of c.in-Some.state.now in
    let is : stored_of c.args.states.now c.args.name ≡ Some f = search rules in
    let v = c.in_ok-image-in-Some.field-0 in
    let numbered : IsNumbered c.args.n c.args.place f v.items = c.in_ok-image-in-Some.ensures in
    let x : Note = record { from = c.args.now; name = c.args.name; change = Load v } in
    let e = c.perform.ensures in
    on_ok_too c.perform.result (stays_kept c.perform.result c.args.notes.now.items c.perform.new.notes.items (bytes_of c.args.files.now) (bytes_of c.perform.new.files) x c.args.now c.requires.kept (omega arith) tt (numbered_image c.args.n c.args.place f v.items (c.requires.sound f is) numbered).bytes e.ok e.fits e.in_range e.noted e.err e.not_noted)

pub returns-in_ok-image-in-Some-clause-image : goal.returns-in_ok-image-in-Some-clause-image
returns-in_ok-image-in-Some-clause-image c =
    let f = file_of c.in-Some.state.now in
    let is : stored_of c.args.states.now c.args.name ≡ Some f = search rules in
    let v = c.in_ok-image-in-Some.field-0 in
    let numbered : IsNumbered c.args.n c.args.place f v.items = c.in_ok-image-in-Some.ensures in
    let x : Note = record { from = c.args.now; name = c.args.name; change = Load v } in
    let old = c.args.notes.now.items in
    let step = one_more old x in
    on_ok c.perform.result (λ noted. subst (λ (l : List Note). BecameImage c.args.n c.args.place c.args.name (stored_of c.args.states.now) (files_of old) (files_of l)) (sym noted) (record {
      this = among (stored_of c.args.states.now c.args.name) (λ h. Among (files_of (old ++ x ∷ []) c.args.name) (λ k. (k ≡ settled k.reads) × IsNumbered c.args.n c.args.place h k.reads)) f is
          (among (files_of (old ++ x ∷ []) c.args.name) (λ k. (k ≡ settled k.reads) × IsNumbered c.args.n c.args.place f k.reads) (settled v.items) step.this (refl, numbered));
      others = step.others;
    })) c.perform.ensures.noted
