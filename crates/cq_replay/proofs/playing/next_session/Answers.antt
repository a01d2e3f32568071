use Rattle.std.proofs.Common.{◌≡◌, ◌+◌, ◌≤◌, ◌++◌, ◌∷◌, List, length, true, arith, Ok, Some, None, sym, ap, ◌∙◌, subst, append-nil}
use Rattle.std.proofs.lemmas.List.{length_push}
use Rattle.std.proofs.lemmas.Result.{IfOk-at_ok}
use Rattle.cq_disk.specs.Files.{IsImage, SameFiles}
use Rattle.cq_folder.specs.Held.{as_read}
use Rattle.cq_folder.proofs.One.{agrees_is_sound}
use Rattle.cq_journal.specs.History.{line}
use Rattle.cq_script.specs.declared.script.StepWord.{StepWord}
use Rattle.cq_script.specs.Scripts.{is_crash, crashes}
use Rattle.cq_replay.specs.declared.playing.Ending.TheVariants.{Served, Memory}
use Rattle.cq_replay.specs.Sessions.{IsEnded, opening_stamp}
use Rattle.cq_inbox.specs.Requests.{publishes}
use Rattle.cq_journal.specs.Asks.{asks}
use Rattle.cq_node.specs.View.{opened_of}
use Rattle.cq_replay.specs.Played.{InSession}
use Rattle.cq_replay.specs.Between.{from_end, IsUpTo, HasPlayed, TakesTexts}
use Rattle.cq_replay.proofs.Endings.{at_ok, at_some, at_err, on_ok, on_err, memory_ends, ends_served, served_then}
use Rattle.cq_replay.proofs.WordLaws.{by_later}
use Rattle.cq_replay.proofs.Splits.{fewer_crashes}
use Rattle.cq_replay.proofs.UpTo.{IsNext, next_one, ended_one, all_one, none_more, one_more, last_one, same_image, text_more}
use Rattle.cq_replay.proofs.playing.next_session.Goals as goal

pub returns-in-Err-clause-takes_to_end : goal.returns-in-Err-clause-takes_to_end
returns-in-Err-clause-takes_to_end g c = λ requests words up.
    let d = g.C.Disk in
    let over = c.in-Err.over in
    none_more requests words c.args.sessions.now.items c.args.pause.rest.items c.args.pause.words.now (d.files c.args.pause.scratch) (d.moment c.args.pause.scratch) up over.ending (d.files over.scratch) (d.left over.scratch) (d.moment over.scratch) c.in-Err.ensures.ends.ran.later c.in-Err.ensures.between c.in-Err.ensures.agrees

pub restart-requires-clause-can : goal.restart-requires-clause-can
restart-requires-clause-can g c =
    let session = c.serve_session-session.result.session in
    let serve = c.serve_session-session.ensures in
    record {
      servable = serve.leaves.servable;
      few = (opened_of c.in-Ok.player.node + publishes (asks session.journal.entries 0), serve.keeps.short, serve.leaves.few);
      alone = serve.keeps.alone;
      sound = λ image is. agrees_is_sound image session.journal.entries (serve.keeps.agrees image is);
    }

pub returns-in-Some-clause-ready : goal.returns-in-Some-clause-ready
returns-in-Some-clause-ready g c = on_ok c.restart.result _ (λ pause is. (IfOk-at_ok _ is c.restart.ensures.restarts).ready)

pub returns-in-Some-clause-takes_on : goal.returns-in-Some-clause-takes_on
returns-in-Some-clause-takes_on g c = on_ok c.restart.result _ (λ pause is requests words up.
    let d = g.C.Disk in
    let left = c.args.pause.rest.items in
    let later = c.args.pause.words.now in
    let ss = c.args.sessions.now.items in
    let files = d.files c.args.pause.scratch in
    let player = c.in-Ok.player in
    let part = c.split-part.result in
    let session = c.serve_session-session.result in
    let serve = c.serve_session-session.ensures in
    let before = d.moment c.args.pause.scratch in
    let since : before ≤ opening_stamp session.session.journal.entries = omega (arith, c.in-Ok.ensures.ran.later, serve.makes.since) in
    let next : IsNext ss left later session.session = next_one files before ss left player.rest.items later part.plain.now session.session (line player.node.core.entries) up.left_by c.in-Ok.ensures.found serve.makes.opened since serve.makes.allowed c.in-Ok.ensures.rest c.split-part.ensures.plain_is serve.makes.serves in
    let crash = c.in-Some.crash in
    let some : part.end ≡ Some crash = c.in-Some.is in
    let ok : session.served ≡ Ok tt = c.put_text-ending.ensures.served c.in-Served.is in
    let words_are : later ≡ part.plain.now ++ crash ∷ part.later.now = c.split-part.ensures.words_are ∙ ap (λ e. part.plain.now ++ from_end e part.later.now) some in
    let waited = session.waiting.requests ++ session.rest.items in
    let ended = at_some (λ w. (more : List StepWord) → IsEnded player.rest.items (part.plain.now ++ w ∷ more) waited more session.session) crash part.end some (at_ok session.served ok serve.ended) in
    let left_is : pause.rest.items ≡ waited = IfOk-at_ok _ is c.restart.ensures.rest in
    let later_is : pause.words.now ≡ part.later.now = IfOk-at_ok _ is c.restart.ensures.words in
    let image : IsImage (d.files session.disk) (as_read (d.files pause.scratch)) = (IfOk-at_ok _ is c.restart.ensures.restarts).image in
    subst (λ l. IsUpTo requests words l pause.rest.items pause.words.now (d.files pause.scratch) (d.moment pause.scratch)) (sym c.push_reserved.ensures.items)
    (one_more requests words ss left later files before up session.session next pause.rest.items pause.words.now (d.files pause.scratch) (d.moment pause.scratch)
    (ended_one left player.rest.items pause.rest.items waited later part.plain.now pause.words.now part.later.now crash session.session c.in-Ok.ensures.rest words_are left_is later_is (ended part.later.now))
    (serve.keeps.agrees (as_read (d.files pause.scratch)) image)
    (by_later (d.moment session.disk) (d.moment pause.scratch) session.session.after.items (IfOk-at_ok _ is c.restart.ensures.restarts).ran.later serve.keeps.by)))

pub returns-in-Some-clause-takes_to_end : goal.returns-in-Some-clause-takes_to_end
returns-in-Some-clause-takes_to_end g c = on_err c.restart.result _ (λ over is requests words up.
    let d = g.C.Disk in
    let left = c.args.pause.rest.items in
    let later = c.args.pause.words.now in
    let ss = c.args.sessions.now.items in
    let files = d.files c.args.pause.scratch in
    let player = c.in-Ok.player in
    let part = c.split-part.result in
    let session = c.serve_session-session.result in
    let serve = c.serve_session-session.ensures in
    let before = d.moment c.args.pause.scratch in
    let since : before ≤ opening_stamp session.session.journal.entries = omega (arith, c.in-Ok.ensures.ran.later, serve.makes.since) in
    let next : IsNext ss left later session.session = next_one files before ss left player.rest.items later part.plain.now session.session (line player.node.core.entries) up.left_by c.in-Ok.ensures.found serve.makes.opened since serve.makes.allowed c.in-Ok.ensures.rest c.split-part.ensures.plain_is serve.makes.serves in
    let memory : over.ending ≡ Memory = (at_err _ c.restart.result over is c.restart.ensures.fails).memory in
    let same : SameFiles (d.files session.disk) (d.files over.scratch) = (at_err _ c.restart.result over is c.restart.ensures.fails).files in
    subst (λ l. HasPlayed requests words over.ending l (d.files over.scratch) (d.left over.scratch) (d.moment over.scratch)) (sym c.push_reserved.ensures.items)
    (last_one requests words ss left later files before up session.session next over.ending (d.files over.scratch) (d.left over.scratch) (d.moment over.scratch)
    (λ served. (let clash : Memory ≡ Served = sym memory ∙ served in cc)) (λ served. (let clash : Memory ≡ Served = sym memory ∙ served in cc)) (λ in_one. absurd (subst InSession memory in_one))
    (λ image now. serve.keeps.agrees image (same_image (d.files session.disk) (d.files over.scratch) image same now))
    (by_later (d.moment session.disk) (d.moment over.scratch) session.session.after.items (at_err _ c.restart.result over is c.restart.ensures.fails).ran.later serve.keeps.by)))

pub returns-in-Some-clause-one_more : goal.returns-in-Some-clause-one_more
returns-in-Some-clause-one_more g c = on_ok c.restart.result _ (λ pause is.
    let part = c.split-part.result in
    let words_are : c.args.pause.words.now ≡ part.plain.now ++ c.in-Some.crash ∷ part.later.now = c.split-part.ensures.words_are ∙ ap (λ e. part.plain.now ++ from_end e part.later.now) c.in-Some.is in
    let later_is : pause.words.now ≡ part.later.now = IfOk-at_ok _ is c.restart.ensures.words in
    (ap length c.push_reserved.ensures.items ∙ length_push c.args.sessions.now.items c.serve_session-session.result.session, subst (λ l. crashes l + 1 ≤ crashes c.args.pause.words.now) (sym later_is) (fewer_crashes c.args.pause.words.now part.plain.now part.later.now c.in-Some.crash words_are (at_some (λ w. is_crash w ≡ true) c.in-Some.crash part.end c.in-Some.is c.split-part.ensures.end_is))))

pub returns-in-Some-clause-texts : goal.returns-in-Some-clause-texts
returns-in-Some-clause-texts g c = on_ok c.restart.result _ (λ pause is.
    subst (λ l. TakesTexts (g.W.Sink.pieces c.args.sink.now) c.args.sessions.now.items (g.W.Sink.pieces c.put_text-ending.new.sink) l) (sym c.push_reserved.ensures.items)
    (text_more (g.W.Sink.pieces c.args.sink.now) (g.W.Sink.pieces c.put_text-ending.new.sink) c.args.sessions.now.items c.serve_session-session.result.session c.from.result (omega (arith, c.from.ensures, c.len-number.ensures, c.args.sessions.now.ok.0)) (c.put_text-ending.ensures.text c.in-Served.is)))

pub returns-in-None-clause-takes_to_end : goal.returns-in-None-clause-takes_to_end
returns-in-None-clause-takes_to_end g c = λ requests words up.
    let d = g.C.Disk in
    let left = c.args.pause.rest.items in
    let later = c.args.pause.words.now in
    let ss = c.args.sessions.now.items in
    let files = d.files c.args.pause.scratch in
    let player = c.in-Ok.player in
    let part = c.split-part.result in
    let session = c.serve_session-session.result in
    let serve = c.serve_session-session.ensures in
    let before = d.moment c.args.pause.scratch in
    let since : before ≤ opening_stamp session.session.journal.entries = omega (arith, c.in-Ok.ensures.ran.later, serve.makes.since) in
    let next : IsNext ss left later session.session = next_one files before ss left player.rest.items later part.plain.now session.session (line player.node.core.entries) up.left_by c.in-Ok.ensures.found serve.makes.opened since serve.makes.allowed c.in-Ok.ensures.rest c.split-part.ensures.plain_is serve.makes.serves in
    let none : part.end ≡ None = c.in-None.is in
    let ok : session.served ≡ Ok tt = c.put_text-ending.ensures.served c.in-Served.is in
    let words_are : later ≡ part.plain.now = c.split-part.ensures.words_are ∙ ap (λ e. part.plain.now ++ from_end e part.later.now) none ∙ append-nil part.plain.now in
    subst (λ l. HasPlayed requests words c.put_text-ending.result l (d.files session.disk) (d.left session.disk) (d.moment session.disk)) (sym c.push_reserved.ensures.items)
    (last_one requests words ss left later files before up session.session next c.put_text-ending.result (d.files session.disk) (d.left session.disk) (d.moment session.disk)
    (λ is. all_one left player.rest.items later part.plain.now session.session c.in-Ok.ensures.rest words_are (at_ok session.served ok (serve.all none)).all)
    (λ is. (at_ok session.served ok (serve.all none)).held) (λ in_one. serve.keeps.steady) serve.keeps.agrees serve.keeps.by)

pub returns-in-None-clause-last_text : goal.returns-in-None-clause-last_text
returns-in-None-clause-last_text g c = λ served.
    subst (λ l. TakesTexts (g.W.Sink.pieces c.args.sink.now) c.args.sessions.now.items (g.W.Sink.pieces c.put_text-ending.new.sink) l) (sym c.push_reserved.ensures.items)
    (text_more (g.W.Sink.pieces c.args.sink.now) (g.W.Sink.pieces c.put_text-ending.new.sink) c.args.sessions.now.items c.serve_session-session.result.session c.from.result (omega (arith, c.from.ensures, c.len-number.ensures, c.args.sessions.now.ok.0)) (c.put_text-ending.ensures.text served))

pub returns-in_default-clause-takes_to_end : goal.returns-in_default-clause-takes_to_end
returns-in_default-clause-takes_to_end g c = λ requests words up.
    let d = g.C.Disk in
    let left = c.args.pause.rest.items in
    let later = c.args.pause.words.now in
    let ss = c.args.sessions.now.items in
    let files = d.files c.args.pause.scratch in
    let player = c.in-Ok.player in
    let part = c.split-part.result in
    let session = c.serve_session-session.result in
    let serve = c.serve_session-session.ensures in
    let before = d.moment c.args.pause.scratch in
    let since : before ≤ opening_stamp session.session.journal.entries = omega (arith, c.in-Ok.ensures.ran.later, serve.makes.since) in
    let next : IsNext ss left later session.session = next_one files before ss left player.rest.items later part.plain.now session.session (line player.node.core.entries) up.left_by c.in-Ok.ensures.found serve.makes.opened since serve.makes.allowed c.in-Ok.ensures.rest c.split-part.ensures.plain_is serve.makes.serves in
    subst (λ l. HasPlayed requests words c.put_text-ending.result l (d.files session.disk) (d.left session.disk) (d.moment session.disk)) (sym c.push_reserved.ensures.items)
    (last_one requests words ss left later files before up session.session next c.put_text-ending.result (d.files session.disk) (d.left session.disk) (d.moment session.disk)
    (λ served. absurd (c.in_default.not-Served served)) (λ served. absurd (c.in_default.not-Served served)) (λ in_one. serve.keeps.steady) serve.keeps.agrees serve.keeps.by)

pub returns-in_default-clause-ends : goal.returns-in_default-clause-ends
returns-in_default-clause-ends g c =
    let session = c.serve_session-session in
    ends_served g.C.Disk c.args.pause.scratch c.in-Ok.player.node.store.disk session.result.disk c.put_text-ending.result session.result.served c.put_text-ending.ensures.failed c.put_text-ending.ensures.opened c.in-Ok.ensures.ran session.ensures.fails

pub returns-in-None-clause-ends : goal.returns-in-None-clause-ends
returns-in-None-clause-ends g c =
    let session = c.serve_session-session in
    ends_served g.C.Disk c.args.pause.scratch c.in-Ok.player.node.store.disk session.result.disk c.put_text-ending.result session.result.served c.put_text-ending.ensures.failed c.put_text-ending.ensures.opened c.in-Ok.ensures.ran session.ensures.fails

pub returns-in-Some-clause-ran : goal.returns-in-Some-clause-ran
returns-in-Some-clause-ran g c = on_ok c.restart.result _ (λ pause is.
    let session = c.serve_session-session in
    served_then g.C.Disk c.args.pause.scratch c.in-Ok.player.node.store.disk session.result.disk pause.scratch session.result.served c.in-Ok.ensures.ran session.ensures.fails (IfOk-at_ok _ is c.restart.ensures.restarts).ran)

pub returns-in-Some-clause-ends : goal.returns-in-Some-clause-ends
returns-in-Some-clause-ends g c = on_err c.restart.result _ (λ over is.
    let session = c.serve_session-session in
    memory_ends g.C.Disk c.args.pause.scratch over.scratch over.ending ((at_err _ c.restart.result over is c.restart.ensures.fails).memory)
    (served_then g.C.Disk c.args.pause.scratch c.in-Ok.player.node.store.disk session.result.disk over.scratch session.result.served c.in-Ok.ensures.ran session.ensures.fails (at_err _ c.restart.result over is c.restart.ensures.fails).ran))
