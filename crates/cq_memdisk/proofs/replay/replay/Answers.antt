use Rattle.std.proofs.Common.{◌≡◌, ◌+◌, List, [], ◌∷◌, ◌++◌, take, get_or, sym, ◌∙◌, ap}
use Rattle.std.proofs.lemmas.List.{take_more}
use Rattle.cq_memdisk.specs.declared.change.Note.{Note}
use Rattle.cq_memdisk.specs.Change.{files_of}
use Rattle.cq_memdisk.specs.Stored.{stored_of}
use Rattle.cq_memdisk.specs.Record.{one_more, same_next}
use Rattle.cq_memdisk.proofs.replay.replay.Goals as goal

pub apply-requires-clause-sound : goal.apply-requires-clause-sound
apply-requires-clause-sound c = λ f is sync. c.requires.sound c.loop-note.note-index c.note-item.result.name f (sym (c.loop-note.invariant c.note-item.result.name) ∙ is)

pub loop-note-preserved : goal.loop-note-preserved
loop-note-preserved c =
    let notes = c.args.notes.now in
    let k = c.loop-note.note-index in
    let x : Note = c.note-item.result in
    let at : get_or notes k x ≡ x = sym c.note-item.is in
    let more : take (k + 1) notes ≡ take k notes ++ x ∷ [] = take_more notes k x c.loop-note-test.true ∙ ap (λ (y : Note). take k notes ++ y ∷ []) at in
    let next = same_next (stored_of c.loop-note.states) (files_of (take k notes)) (stored_of c.apply.new.states) (files_of (take k notes ++ x ∷ [])) x c.loop-note.invariant c.in_ok-apply.ensures (one_more (take k notes) x) in
    λ n. next n ∙ ap (λ (l : List Note). files_of l n) (sym more)
