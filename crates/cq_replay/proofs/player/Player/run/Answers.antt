use Rattle.std.proofs.Common.{◌≡◌, ℕ, [], get_or, length, refl, sym, ap, ◌∙◌, subst, arith}
use Rattle.std.specs.Prelude.{take, reverse}
use Rattle.std.proofs.lemmas.List.{get_or_default, take_all}
use Rattle.cq_node.specs.Waiting.{Handed}
use Rattle.cq_script.specs.declared.script.StepWord.TheVariants.{Client}
use Rattle.cq_replay.specs.Done.{reached}
use Rattle.cq_replay.specs.Running.{WordDid}
use Rattle.cq_node.proofs.Writes.{no_error}
use Rattle.cq_replay.proofs.Moves.{then, goes_none, goes_more, demand_fresh, begun}
use Rattle.cq_replay.proofs.WordLaws.{does, by_same, one_more, none_done, plain_at}
use Rattle.cq_replay.proofs.player.Player.run.Goals as goal

pub loop-word-init : goal.loop-word-init
loop-word-init g c =
    let d = g.D.Disk in
    let a = c.args.self.now in (
      goes_none a.node c.requires.open,
      record { added = []; is = refl; since = tt; same = refl },
      ap (λ (v : Handed). v.kept) c.requires.fresh.none_waits,
      omega (arith, no_error c.reserve.result (sym c.is_err.ensures.value ∙ c.if-is_err.false) c.reserve.ensures.ok),
      none_done (length a.rest.items) (d.moment a.node.store.disk) c.args.words.now a.node.core.entries a.node.waiting a.after.items c.reserve.new.self.items c.requires.fresh c.reserve.ensures.items,
    )

pub step-requires-clause-plain : goal.step-requires-clause-plain
step-requires-clause-plain g c = plain_at c.args.words.now (Client 0) c.loop-word.word-index c.requires.plain c.loop-word-test.true

pub step-requires-clause-none_kept : goal.step-requires-clause-none_kept
step-requires-clause-none_kept g c = c.loop-word.invariant.2

pub step-requires-clause-room : goal.step-requires-clause-room
step-requires-clause-room g c = omega (arith, c.loop-word.invariant.3, c.loop-word.invariant.4.count_is, c.loop-word-test.true)

pub loop-word-preserved : goal.loop-word-preserved
loop-word-preserved g c =
    let d = g.D.Disk in
    let a = c.args.self.now in
    let b = c.loop-word.self in
    let e = c.step.new.self in
    let so_far = c.loop-word.invariant in (
      goes_more a.node b.node e.node c.in_ok-step.field-0 so_far.0 c.in_ok-step.ensures.goes,
      then (g.D.Disk.moment a.node.store.disk) (g.D.Disk.moment b.node.store.disk) c.loop-word.invariant.0.ran.later a.node.core.entries b.node.core.entries e.node.core.entries a.node.waiting b.node.waiting e.node.waiting a.rest.items b.rest.items e.rest.items so_far.1 (c.step.ensures.moves),
      c.in_ok-step.ensures.none_kept,
      omega (arith, so_far.3, c.step.ensures.capacity),
      one_more (length a.rest.items) c.loop-word.word-index c.args.words.now b.node.core.entries e.node.core.entries b.node.waiting e.node.waiting (d.moment b.node.store.disk) (d.moment e.node.store.disk) b.after.items e.after.items
          (get_or c.args.words.now c.loop-word.word-index (Client 0)) c.step.ensures.moves.added c.step.ensures.moves.since (begun (d.moment a.node.store.disk) a.node.core.entries b.node.core.entries so_far.1.added c.requires.fresh.opened so_far.1.is) c.loop-word-test.true
          (get_or_default c.args.words.now c.loop-word.word-index (Client 0) (get_or c.args.words.now c.loop-word.word-index (Client 0)) c.loop-word-test.true) c.step.ensures.moves.is so_far.4
          (subst (λ (n : ℕ). WordDid n (get_or c.args.words.now c.loop-word.word-index (Client 0)) b.node.core.entries e.node.core.entries b.node.waiting e.node.waiting (d.moment b.node.store.disk) (d.moment e.node.store.disk))
          (ap length (so_far.1.same ∙ demand_fresh (d.moment a.node.store.disk) a.node.core.entries a.node.waiting a.after.items a.rest.items c.requires.fresh)) c.in_ok-step.ensures.did)
          c.in_ok-step.ensures.pushed,
    )

pub returns-in_err-step-clause-moves : goal.returns-in_err-step-clause-moves
returns-in_err-step-clause-moves g c =
    let a = c.args.self.now in
    let b = c.loop-word.self in
    let e = c.step.new.self in
    then (g.D.Disk.moment a.node.store.disk) (g.D.Disk.moment b.node.store.disk) c.loop-word.invariant.0.ran.later a.node.core.entries b.node.core.entries e.node.core.entries a.node.waiting b.node.waiting e.node.waiting a.rest.items b.rest.items e.rest.items c.loop-word.invariant.1 (c.step.ensures.moves)

pub returns-in_err-step-clause-done : goal.returns-in_err-step-clause-done
returns-in_err-step-clause-done g c =
    let d = g.D.Disk in
    let a = c.args.self.now in
    let b = c.loop-word.self in
    let e = c.step.new.self in
    let so_far = c.loop-word.invariant in
    does (length a.rest.items) c.loop-word.word-index c.args.words.now b.node.core.entries e.node.core.entries c.step.ensures.moves.added b.node.waiting (d.moment b.node.store.disk) b.after.items e.after.items
    c.step.ensures.moves.since
    (begun (d.moment a.node.store.disk) a.node.core.entries b.node.core.entries so_far.1.added c.requires.fresh.opened so_far.1.is) c.step.ensures.moves.is so_far.4 c.loop-word.auto.word-index-end c.in_err-step.ensures.after

pub returns-clause-moves : goal.returns-clause-moves
returns-clause-moves g c = c.loop-word.invariant.1

pub returns-clause-none_kept : goal.returns-clause-none_kept
returns-clause-none_kept g c = c.loop-word.invariant.2

pub returns-clause-done : goal.returns-clause-done
returns-clause-done g c =
    let d = g.D.Disk in
    let a = c.args.self.now in
    let b = c.loop-word.self in
    let so_far = c.loop-word.invariant in
    does (length a.rest.items) c.loop-word.word-index c.args.words.now b.node.core.entries b.node.core.entries [] b.node.waiting (d.moment b.node.store.disk) b.after.items b.after.items tt
    (begun (d.moment a.node.store.disk) a.node.core.entries b.node.core.entries so_far.1.added c.requires.fresh.opened so_far.1.is) refl so_far.4 c.loop-word.auto.word-index-end refl

pub returns-clause-all_words : goal.returns-clause-all_words
returns-clause-all_words g c = omega (arith, c.loop-word.invariant.4.count_is, c.loop-word-test.false, c.loop-word.auto.word-index-end)

pub returns-clause-stands : goal.returns-clause-stands
returns-clause-stands g c =
    let b = c.loop-word.self in
    let all : take c.loop-word.word-index c.args.words.now ≡ c.args.words.now = take_all c.loop-word.word-index c.args.words.now (omega (arith, c.loop-word-test.false)) in
    ap (λ l. reached (length c.args.self.now.rest.items) b.node.core.entries (reverse l) (reverse b.after.items)) (sym all) ∙ c.loop-word.invariant.4.now

pub returns-in_err-step-clause-by : goal.returns-in_err-step-clause-by
returns-in_err-step-clause-by g c =
    let moment = g.D.Disk.moment in
    let b = c.loop-word.self in
    let e = c.step.new.self in
    by_same (moment b.node.store.disk) (moment e.node.store.disk) b.after.items e.after.items c.step.ensures.goes.ran.later c.in_err-step.ensures.after c.loop-word.invariant.4.by

pub returns-clause-by : goal.returns-clause-by
returns-clause-by g c = c.loop-word.invariant.4.by
