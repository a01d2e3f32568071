use Rattle.std.specs.List.{AllZip}
use Rattle.std.proofs.Common.{◌≡◌, ℕ, List, [], ◌∷◌, drop, map, sym, ap, ◌∙◌, subst}
use Rattle.cq_small.specs.Store.{small_name, len_of as small_len}
use Rattle.cq_index.proofs.Known.{filed}
use Rattle.cq_index.specs.Places.{index_name}
use Rattle.cq_journal.specs.declared.event.Entry.{Entry}
use Rattle.cq_journal.specs.History.{opened_in}
use Rattle.cq_journal.specs.Legal.{delivered}
use Rattle.cq_folder.specs.Held.{as_read}
use Rattle.cq_folder.specs.Steady.{IsUnsound, SoundBy}
use Rattle.cq_folder.specs.Laws.{opening}
use Rattle.cq_back.specs.declared.found.HeldEntry.{HeldEntry}
use Rattle.cq_disk.specs.Files.{IsImage}
use Rattle.cq_disk.specs.Run.{LeavesOnly}
use Rattle.cq_rdq.specs.Records.{shared_name}
use Rattle.cq_back.specs.Folder.{ReadsSame}
use Rattle.cq_back.specs.Cause.{HasCause}
use Rattle.cq_back.specs.Found.{BreaksFolder}
use Rattle.cq_core.specs.declared.queue.RecordPlace.{RecordPlace}
use Rattle.cq_core.specs.Stored.{AreAt, IsPlaceOf, content_in, stored}
use Rattle.cq_node.specs.Opening.{AreWithin, IfBroken, spot_of}
use Rattle.cq_node.proofs.Opening.{none_shared, spots_found, ids_found, spots_stand, spots_within, one_queue, broken_to, broken_unless, few_found, line_opened, found_stands, found_steady}
use Rattle.cq_node.proofs.node.open_queue.Goals as goal

pub returns-in-Err-clause-reads : goal.returns-in-Err-clause-reads
returns-in-Err-clause-reads g c =
    let d = g.D.Disk in
    let same = ReadsSame (d.files c.args.disk.now) (d.files c.open_folder.new.disk) in
    subst (λ e. IfBroken e (λ name place found. d.tells → same)) (sym c.as_open_error.ensures) (broken_unless c.in-Err.error d.tells same c.in-Err.ensures.refuses.reads)

pub returns-in-Err-clause-only_reads : goal.returns-in-Err-clause-only_reads
returns-in-Err-clause-only_reads g c =
    let d = g.D.Disk in
    let left = LeavesOnly d c.args.disk.now c.open_folder.new.disk (IsImage (d.files c.args.disk.now)) in
    subst (λ e. IfBroken e (λ name place found. d.tells → left)) (sym c.as_open_error.ensures) (broken_unless c.in-Err.error d.tells left c.in-Err.ensures.refuses.only_reads)

pub returns-in-Err-clause-cause : goal.returns-in-Err-clause-cause
returns-in-Err-clause-cause g c =
    subst (λ e. IfBroken e HasCause) (sym c.as_open_error.ensures) (broken_to c.in-Err.error HasCause HasCause (λ name place found read. read) c.in-Err.ensures.refuses.cause)

pub returns-in-Err-clause-refuses : goal.returns-in-Err-clause-refuses
returns-in-Err-clause-refuses g c =
    subst (λ e. IfBroken e (λ name place found. g.D.Disk.tells → IsUnsound (as_read (g.D.Disk.files c.args.disk.now)))) (sym c.as_open_error.ensures)
    (broken_to c.in-Err.error _ _ (λ name place found refused told. refused told (none_shared (g.D.Disk.files c.args.disk.now) (c.requires.one_queue told))) c.in-Err.ensures.refuses.refuses)

pub open-requires-clause-places : goal.open-requires-clause-places
open-requires-clause-places g c =
    let found = c.in-Ok.found in
    let places : c.in-Ok-Ok.places.items ≡ map spot_of found.held.items = c.in-Ok-Ok.ensures ∙ ap (map spot_of) c.deref.ensures.value in
    subst (λ (spots : List RecordPlace). AllZip IsPlaceOf spots (opened_in 0 found.lines)) (sym places) (spots_found found.held.items found.lines c.in-Ok.ensures.lines.one_queue c.in-Ok.ensures.lines.matched)

pub open-requires-clause-taken : goal.open-requires-clause-taken
open-requires-clause-taken g c =
    let found = c.in-Ok.found in
    let ids : c.in-Ok-Ok.taken.items ≡ map (λ h. h.entry.id) found.held.items = c.in-Ok-Ok.ensures' ∙ ap (λ (held : List HeldEntry). map (λ h. h.entry.id) held) c.deref-2.ensures.value in
    ids ∙ ids_found found.held.items found.lines c.in-Ok.ensures.lines.one_queue c.in-Ok.ensures.lines.matched

pub returns-in-Ok-open-clause-held : goal.returns-in-Ok-open-clause-held
returns-in-Ok-open-clause-held g c = λ told.
    let files = g.D.Disk.files c.args.disk.now in
    let found = c.in-Ok.found in
    subst (SoundBy (as_read files)) (sym (line_opened c.in-Ok-open.core.entries c.moment-stamp.result found.lines c.in-Ok-open.ensures.opened)) (c.in-Ok.ensures.messages.ok told (one_queue files (c.requires.one_queue told)))

pub returns-in-Ok-open-clause-standing : goal.returns-in-Ok-open-clause-standing
returns-in-Ok-open-clause-standing g c = λ told.
    let d = g.D.Disk in
    let found = c.in-Ok.found in
    ∣ found_stands (d.files c.open_folder.new.disk) c.in-Ok-open.core.entries c.moment-stamp.result found.lines c.in-Ok-open.ensures.opened c.in-Ok-open.ensures.stored c.in-Ok.ensures.lines.one_queue c.in-Ok.ensures.lines.lines
    (λ k. c.open_folder.ensures.keeps.no_new told (shared_name k) (none_shared (d.files c.args.disk.now) (c.requires.one_queue told) k)) (c.in-Ok.ensures.messages.now told (one_queue (d.files c.args.disk.now) (c.requires.one_queue told))) ∣₁

pub returns-in-Ok-open-clause-steady : goal.returns-in-Ok-open-clause-steady
returns-in-Ok-open-clause-steady g c = λ told.
    let d = g.D.Disk in
    let m = g.met.D.Disk in
    let found = c.in-Ok.found in
    found_steady d.moment d.left d.files (m.now_only told) (m.now_each told) (m.reads_left told) c.open_folder.new.disk c.in-Ok-open.core.entries c.moment-stamp.result found.lines c.in-Ok-open.ensures.opened c.moment-stamp.ensures c.in-Ok.ensures.lines.lines
    (λ k. c.open_folder.ensures.keeps.no_new told (shared_name k) (none_shared (d.files c.args.disk.now) (c.requires.one_queue told) k)) (c.in-Ok.ensures.messages.now told (one_queue (d.files c.args.disk.now) (c.requires.one_queue told)))

pub returns-in-Ok-open-clause-placed : goal.returns-in-Ok-open-clause-placed
returns-in-Ok-open-clause-placed g c = λ told.
    let files = g.D.Disk.files c.open_folder.new.disk in
    let found = c.in-Ok.found in
    let spots : c.in-Ok-open.core.places ≡ map spot_of found.held.items = c.in-Ok-open.ensures.places ∙ c.in-Ok-Ok.ensures ∙ ap (map spot_of) c.deref.ensures.value in
    let journal : c.in-Ok-open.core.entries ≡ opening c.moment-stamp.result found.lines ∷ [] = c.in-Ok-open.ensures.opened in
    let none : delivered c.in-Ok-open.core.entries 0 ≡ 0 = ap (λ (past : List Entry). delivered past 0) journal in
    let ms : drop (delivered c.in-Ok-open.core.entries 0) (stored c.in-Ok-open.core.entries) ≡ opened_in 0 found.lines = ap (λ (n : ℕ). drop n (stored c.in-Ok-open.core.entries)) none ∙ c.in-Ok-open.ensures.stored in
    subst (λ (ps : List RecordPlace). AreAt (content_in (files (small_name 0 0))) ps (drop (delivered c.in-Ok-open.core.entries 0) (stored c.in-Ok-open.core.entries))) (sym spots)
    (subst (AreAt (content_in (files (small_name 0 0))) (map spot_of found.held.items)) (sym ms)
    (spots_stand files found.held.items found.lines c.in-Ok.ensures.lines.one_queue (c.in-Ok.ensures.messages.held_now told)))

pub returns-in-Ok-open-clause-within : goal.returns-in-Ok-open-clause-within
returns-in-Ok-open-clause-within g c =
    let found = c.in-Ok.found in
    let spots : c.in-Ok-open.core.places ≡ map spot_of found.held.items = c.in-Ok-open.ensures.places ∙ c.in-Ok-Ok.ensures ∙ ap (map spot_of) c.deref.ensures.value in
    subst (AreWithin (small_len found.small)) (sym spots) (spots_within (small_len found.small) found.held.items c.in-Ok.ensures.lines.within)

pub returns-in-Ok-open-clause-index : goal.returns-in-Ok-open-clause-index
returns-in-Ok-open-clause-index g c =
    let e = c.in-Ok.ensures.files in
    record {
      named = e.name;
      knows = λ told. filed c.in-Ok.found.segment (g.D.Disk.files c.open_folder.new.disk (index_name 0 0)) (e.segment told);
      bare = e.bare_index;
    }

pub returns-in-Ok-open-clause-small : goal.returns-in-Ok-open-clause-small
returns-in-Ok-open-clause-small g c =
    let e = c.in-Ok.ensures.files in
    record { named = e.small_name; knows = e.small; bare = e.bare_small }

pub returns-in-Ok-open-clause-few : goal.returns-in-Ok-open-clause-few
returns-in-Ok-open-clause-few g c = λ told. few_found c.in-Ok.found.segment (g.D.Disk.files c.open_folder.new.disk (index_name 0 0)) (c.in-Ok.ensures.files.settled told (index_name 0 0)) (c.in-Ok.ensures.files.segment told)

pub returns-in-Err-clause-unsound : goal.returns-in-Err-clause-unsound
returns-in-Err-clause-unsound g c = λ told unsound. c.in-Err.ensures.refuses.unsound told (one_queue (g.D.Disk.files c.args.disk.now) (c.requires.one_queue told)) unsound

-- a folder that could be opened is sound
pub returns-in_default-clause-unsound : goal.returns-in_default-clause-unsound
returns-in_default-clause-unsound g c = λ told unsound. absurd (unsound (λ q. opened_in q c.in-Ok.found.lines) (c.in-Ok.ensures.messages.ok told (one_queue (g.D.Disk.files c.args.disk.now) (c.requires.one_queue told))))

pub returns-in-Err-open-clause-unsound : goal.returns-in-Err-open-clause-unsound
returns-in-Err-open-clause-unsound g c = λ told unsound. absurd (unsound (λ q. opened_in q c.in-Ok.found.lines) (c.in-Ok.ensures.messages.ok told (one_queue (g.D.Disk.files c.args.disk.now) (c.requires.one_queue told))))

pub returns-in-Err-clause-damaged : goal.returns-in-Err-clause-damaged
returns-in-Err-clause-damaged g c =
    subst (λ e. IfBroken e (λ name place found. g.D.Disk.tells → BreaksFolder (as_read (g.D.Disk.files c.args.disk.now)) name place found)) (sym c.as_open_error.ensures)
    (broken_to c.in-Err.error _ _ (λ name place found broken. broken) c.in-Err.ensures.refuses.damaged)
