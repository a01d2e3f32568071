use Rattle.std.proofs.Common.{◌≡◌, ◌<◌, ◌+◌, ◌++◌, ℕ, length, sym, ap, ◌∙◌, subst}
use Rattle.cq_folder.specs.Held.{as_read, Held}
use Rattle.cq_folder.proofs.Kept.{keeps_steady}
use Rattle.cq_inbox.specs.Requests.{publishes}
use Rattle.cq_index.specs.Places.{index_name}
use Rattle.cq_journal.specs.Asks.{asks}
use Rattle.cq_journal.specs.Confirms.{AreConfirmed}
use Rattle.cq_journal.specs.History.{line}
use Rattle.cq_node.specs.Files.{HasFew}
use Rattle.cq_replay.specs.Done.{DoesWords, AreBy}
use Rattle.cq_replay.proofs.Endings.{at_ok}
use Rattle.cq_replay.proofs.Moves.{begun, opening_since}
use Rattle.cq_replay.proofs.Served.{asked_first, asked_all, agrees_now, opened_same, if_ok}
use Rattle.cq_replay.proofs.session.serve_session.Goals as goal

pub returns-clause-makes : goal.returns-clause-makes
returns-clause-makes g c =
    let a = c.args.player in
    let b = c.serve-served.new.self in
    let served = c.serve-served.ensures in
    let moves = served.moves.moves in
    let same : c.release-disk.result.journal.entries ≡ b.node.core.entries = c.release-disk.ensures.journal in
    record {
      allowed = record {
        legal = c.release-disk.ensures.legal;
        begun = begun (g.C.Disk.moment a.node.store.disk) a.node.core.entries c.release-disk.result.journal.entries moves.added c.requires.begun.fresh.opened (same ∙ moves.is);
        ids = c.release-disk.ensures.ids;
        uncut = c.new.ensures.items;
      };
      opened = opened_same (g.C.Disk.moment a.node.store.disk) a.node.core.entries c.release-disk.result.journal.entries moves.added c.requires.begun.fresh.opened (same ∙ moves.is) c.release-disk.ensures.legal;
      since = opening_since (g.C.Disk.moment a.node.store.disk) a.node.core.entries c.release-disk.result.journal.entries moves.added c.requires.begun.fresh.opened (same ∙ moves.is);
      serves = record {
        left = b.node.waiting.requests ++ b.rest.items;
        asked = asked_first (g.C.Disk.moment a.node.store.disk) a.node.core.entries b.node.core.entries a.node.waiting b.node.waiting a.after.items a.rest.items b.rest.items c.requires.begun.fresh moves ∙ ap (λ l. asks l 0 ++ (b.node.waiting.requests ++ b.rest.items)) (sym same);
        done = subst (λ l. DoesWords (length a.rest.items) l c.args.words.now b.after.items) (sym same) served.done.done;
      };
    }

pub returns-clause-all : goal.returns-clause-all
returns-clause-all g c = λ none.
    let a = c.args.player in
    let b = c.serve-served.new.self in
    let served = c.serve-served.ensures in
    let same : c.release-disk.result.journal.entries ≡ b.node.core.entries = c.release-disk.ensures.journal in
    if_ok c.serve-served.result (λ v ok.
    let finished = at_ok c.serve-served.result ok (served.finished none) in
    record {
      all = record {
        asked = ap (λ l. asks l 0) same ∙ asked_all (g.C.Disk.moment a.node.store.disk) a.node.core.entries b.node.core.entries a.node.waiting b.node.waiting a.after.items a.rest.items b.rest.items c.requires.begun.fresh served.moves.moves finished.none_waits finished.none_left;
        all_words = at_ok c.serve-served.result ok served.done.all_words;
        done = subst (λ l. DoesWords (length a.rest.items) l c.args.words.now b.after.items) (sym same) served.done.done;
        confirmed = subst AreConfirmed (sym same) finished.written.confirmed;
        uncut = c.new.ensures.items;
      };
      held = subst (λ l. ∥ Held (as_read (g.C.Disk.files c.release-disk.result.disk)) (line l) ∥₁) (sym same)
          (subst (λ disk. ∥ Held (as_read (g.C.Disk.files disk)) (line b.node.core.entries) ∥₁) (sym c.release-disk.ensures.disk) (finished.written.held g.met.C.Crashable.told));
    })

pub returns-clause-keeps : goal.returns-clause-keeps
returns-clause-keeps g c =
    let d = g.C.Disk in
    let told = g.met.C.Crashable.told in
    let a = c.args.player in
    let moves = c.serve-served.ensures.moves.moves in
    let some : 0 < length c.release-disk.result.journal.entries = begun (d.moment a.node.store.disk) a.node.core.entries c.release-disk.result.journal.entries moves.added c.requires.begun.fresh.opened (c.release-disk.ensures.journal ∙ moves.is) in
    record {
      steady = c.release-disk.ensures.steady told;
      agrees = λ image is. agrees_now d.moment d.left d.files (keeps_steady d.moment d.left d.files (g.met.C.Disk.now_only told) (g.met.C.Disk.now_each told) (g.met.C.Disk.reads_left told)) c.release-disk.result.disk c.release-disk.result.journal.entries some
          (c.release-disk.ensures.steady told) image is;
      by = subst (λ disk. AreBy (d.moment disk) c.serve-served.new.self.after.items) (sym c.release-disk.ensures.disk) c.serve-served.ensures.by;
      short = subst (λ (n : ℕ). HasFew (d.files c.release-disk.result.disk (index_name 0 0)) (n + publishes (asks c.release-disk.result.journal.entries 0))) c.serve-served.ensures.moves.opened (c.release-disk.ensures.few told);
      alone = c.release-disk.ensures.alone told;
    }
