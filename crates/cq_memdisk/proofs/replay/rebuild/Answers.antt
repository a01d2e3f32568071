use Rattle.std.proofs.Common.{◌≡◌, ◌<◌, ℕ, length, sym, subst, arith, rules, None}
use Rattle.cq_disk.specs.declared.name.Name.{Name}
use Rattle.cq_memdisk.specs.Change.{files_of}
use Rattle.cq_memdisk.specs.Crash.{CrashedFirst}
use Rattle.cq_memdisk.specs.Folder.{bytes_of}
use Rattle.cq_memdisk.specs.Stored.{stored_of}
use Rattle.cq_memdisk.specs.Record.{empty_kept}
use Rattle.cq_memdisk.proofs.Images.{crashed_next, crashed_none}
use Rattle.cq_memdisk.proofs.replay.rebuild.Goals as goal

pub loop-place-init : goal.loop-place-init
loop-place-init c =
    let none : (m : Name) → bytes_of c.new-files.result m ≡ None = search rules in (
      empty_kept c.new-notes.result.items (bytes_of c.new-files.result) c.args.now c.new-notes.ensures.items none,
      crashed_none c.args.n c.args.names.items (stored_of c.args.states.now) c.new-notes.result.items c.new-notes.ensures.items,
    )

pub index-name-requires : goal.index-name-requires
index-name-requires c = omega arith

pub load_image-requires-clause-there : goal.load_image-requires-clause-there
load_image-requires-clause-there c =
    let name = c.index-name.result.now in
    let lt : c.loop-place.place < length c.args.names.items = omega arith in
    (c.requires.names.each name).0 (c.loop-place.place, lt, sym c.index-name.ensures)

pub load_image-requires-clause-sound : goal.load_image-requires-clause-sound
load_image-requires-clause-sound c = c.requires.sound c.index-name.result.now

pub load_image-requires-clause-kept : goal.load_image-requires-clause-kept
load_image-requires-clause-kept c = c.loop-place.invariant.0

pub loop-place-preserved : goal.loop-place-preserved
loop-place-preserved c =
    let name = c.index-name.result.now in
    let lt : c.loop-place.place < length c.args.names.items = omega arith in
    (c.in_ok-load_image.ensures.kept, crashed_next c.args.n c.loop-place.place c.args.names.items (stored_of c.args.states.now) (files_of c.loop-place.notes.items) (files_of c.load_image.new.notes.items) name c.requires.names.order lt (sym c.index-name.ensures) c.loop-place.invariant.1 c.in_ok-load_image.ensures.image)

pub returns-in_err-load_image-clause-kept : goal.returns-in_err-load_image-clause-kept
returns-in_err-load_image-clause-kept c = search rules

pub returns-in_err-load_image-clause-crashed : goal.returns-in_err-load_image-clause-crashed
returns-in_err-load_image-clause-crashed c = search rules

pub returns-clause-kept : goal.returns-clause-kept
returns-clause-kept c = c.loop-place.invariant.0

pub returns-clause-crashed : goal.returns-clause-crashed
returns-clause-crashed c =
    let all : c.loop-place.place ≡ length c.args.names.items = omega arith in
    subst (λ (k : ℕ). CrashedFirst c.args.n k c.args.names.items (stored_of c.args.states.now) (files_of c.loop-place.notes.items)) all c.loop-place.invariant.1
