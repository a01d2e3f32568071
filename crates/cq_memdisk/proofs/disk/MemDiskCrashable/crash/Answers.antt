use Rattle.std.proofs.Common.{◌≡◌, List, sym, ◌∙◌, ap, arith}
use Rattle.cq_disk.specs.declared.name.Name.{Name}
use Rattle.cq_disk.specs.Files.{NamesAre}
use Rattle.cq_memdisk.specs.declared.change.Note.{Note}
use Rattle.cq_memdisk.specs.Change.{files_of}
use Rattle.cq_memdisk.specs.Crash.{Crashed, image_of}
use Rattle.cq_memdisk.specs.Stored.{stored_of}
use Rattle.cq_memdisk.specs.Record.{names_are, sound_now, each_now, reads_of}
use Rattle.cq_memdisk.proofs.Images.{crashed_all, crashed_same, crashed_image}
use Rattle.cq_memdisk.proofs.disk.MemDiskCrashable.crash.Goals as goal

pub rebuild-requires-clause-names : goal.rebuild-requires-clause-names
rebuild-requires-clause-names c =
    let d = c.args.self.now in
    let states = c.in_ok-states.states in
    let same : (n : Name) → stored_of states n ≡ files_of d.notes.items n = λ n. c.in_ok-states.ensures n ∙ ap (λ (l : List Note). files_of l n) c.deref.ensures.value in
    names_are d.files (stored_of states) c.in_ok-names.names.items (λ n. ap reads_of (same n) ∙ d.kept n) c.in_ok-names.ensures.ordered c.in_ok-names.ensures.names

pub rebuild-requires-clause-sound : goal.rebuild-requires-clause-sound
rebuild-requires-clause-sound c = λ m f is.
    let d = c.args.self.now in
    sound_now d.notes.items d.history m f (sym (c.in_ok-states.ensures m ∙ ap (λ (l : List Note). files_of l m) c.deref.ensures.value) ∙ is)

pub returns-clause-image : goal.returns-clause-image
returns-clause-image c =
    let d = c.args.self.now in
    let states = c.in_ok-states.states in
    let names = c.in_ok-names.names.items in
    let made = c.in_ok-files.notes.items in
    let same : (n : Name) → stored_of states n ≡ files_of d.notes.items n = λ n. c.in_ok-states.ensures n ∙ ap (λ (l : List Note). files_of l n) c.deref.ensures.value in
    let are : NamesAre (stored_of states) names = names_are d.files (stored_of states) names (λ n. ap reads_of (same n) ∙ d.kept n) c.in_ok-names.ensures.ordered c.in_ok-names.ensures.names in
    let are_now : NamesAre (files_of d.notes.items) names = names_are d.files (files_of d.notes.items) names d.kept c.in_ok-names.ensures.ordered c.in_ok-names.ensures.names in
    let crashed : Crashed c.args.n names (files_of d.notes.items) (files_of made) = crashed_same c.args.n names (stored_of states) (files_of d.notes.items) (files_of made) same (crashed_all c.args.n names (stored_of states) (files_of made) are c.in_ok-files.ensures.crashed) in
    (names, are_now, crashed)

pub returns-clause-left : goal.returns-clause-left
returns-clause-left c =
    let d = c.args.self.now in
    let states = c.in_ok-states.states in
    let names = c.in_ok-names.names.items in
    let made = c.in_ok-files.notes.items in
    let same : (n : Name) → stored_of states n ≡ files_of d.notes.items n = λ n. c.in_ok-states.ensures n ∙ ap (λ (l : List Note). files_of l n) c.deref.ensures.value in
    let are : NamesAre (stored_of states) names = names_are d.files (stored_of states) names (λ n. ap reads_of (same n) ∙ d.kept n) c.in_ok-names.ensures.ordered c.in_ok-names.ensures.names in
    let are_now : NamesAre (files_of d.notes.items) names = names_are d.files (files_of d.notes.items) names d.kept c.in_ok-names.ensures.ordered c.in_ok-names.ensures.names in
    let crashed : Crashed c.args.n names (files_of d.notes.items) (files_of made) = crashed_same c.args.n names (stored_of states) (files_of d.notes.items) (files_of made) same (crashed_all c.args.n names (stored_of states) (files_of made) are c.in_ok-files.ensures.crashed) in
    each_now d.notes.items d.since d.moment d.moment (image_of (files_of made)) d.past d.begun (omega arith) (crashed_image c.args.n names (files_of d.notes.items) (files_of made) are_now (sound_now d.notes.items d.history) crashed)
