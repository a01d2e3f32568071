use Rattle.std.proofs.Common.{length, ap, le_refl, rules}
use Rattle.cq_replay.proofs.Moves.{then, begun}
use Rattle.cq_replay.proofs.WordLaws.{does, served_all, by_same}
use Rattle.cq_replay.proofs.Stops.{entries_before, stop_ends}
use Rattle.cq_replay.proofs.player.Player.serve.Goals as goal

pub returns-in-None-clause-moves : goal.returns-in-None-clause-moves
returns-in-None-clause-moves g c =
    let moment = g.D.Disk.moment in
    let a = c.args.self.now in
    let b = c.run.new.self in
    let e = c.finish.new.self in
    record { moves = then (moment a.node.store.disk) (moment b.node.store.disk) c.run.ensures.goes.ran.later a.node.core.entries b.node.core.entries e.node.core.entries a.node.waiting b.node.waiting e.node.waiting a.rest.items b.rest.items e.rest.items c.run.ensures.moves c.finish.ensures.moves; opened = search rules }

pub returns-in-None-clause-done : goal.returns-in-None-clause-done
returns-in-None-clause-done g c =
    let moment = g.D.Disk.moment in
    let a = c.args.self.now in
    let b = c.run.new.self in
    let e = c.finish.new.self in
    record {
      done =
          does (length a.rest.items) (length c.args.words.now) c.args.words.now b.node.core.entries e.node.core.entries c.finish.ensures.moves.added b.node.waiting (moment b.node.store.disk) b.after.items e.after.items c.finish.ensures.moves.since
          (begun (moment a.node.store.disk) a.node.core.entries b.node.core.entries c.run.ensures.moves.added c.requires.begun.fresh.opened c.run.ensures.moves.is) c.finish.ensures.moves.is
          (served_all (length a.rest.items) c.args.words.now b.node.core.entries b.node.waiting (moment b.node.store.disk) b.after.items c.run.ensures.done c.in_ok-run.ensures.all_words c.in_ok-run.ensures.stands c.run.ensures.by) (le_refl (length c.args.words.now)) (ap (λ v. v.items) c.finish.ensures.after);
      all_words = search rules;
    }

pub returns-in-Stop-clause-moves : goal.returns-in-Stop-clause-moves
returns-in-Stop-clause-moves g c =
    let moment = g.D.Disk.moment in
    let a = c.args.self.now in
    let b = c.run.new.self in
    let e = c.stop.new.self in
    record { moves = then (moment a.node.store.disk) (moment b.node.store.disk) c.run.ensures.goes.ran.later a.node.core.entries b.node.core.entries e.node.core.entries a.node.waiting b.node.waiting e.node.waiting a.rest.items b.rest.items e.rest.items c.run.ensures.moves c.stop.ensures.moves; opened = search rules }

pub returns-in-Stop-clause-done : goal.returns-in-Stop-clause-done
returns-in-Stop-clause-done g c =
    let moment = g.D.Disk.moment in
    let a = c.args.self.now in
    let b = c.run.new.self in
    let e = c.stop.new.self in
    record {
      done =
          does (length a.rest.items) (length c.args.words.now) c.args.words.now b.node.core.entries e.node.core.entries c.stop.ensures.moves.added b.node.waiting (moment b.node.store.disk) b.after.items e.after.items c.stop.ensures.moves.since
          (begun (moment a.node.store.disk) a.node.core.entries b.node.core.entries c.run.ensures.moves.added c.requires.begun.fresh.opened c.run.ensures.moves.is) c.stop.ensures.moves.is
          (served_all (length a.rest.items) c.args.words.now b.node.core.entries b.node.waiting (moment b.node.store.disk) b.after.items c.run.ensures.done c.in_ok-run.ensures.all_words c.in_ok-run.ensures.stands c.run.ensures.by) (le_refl (length c.args.words.now)) (ap (λ v. v.items) c.stop.ensures.same.1);
      all_words = search rules;
    }

pub returns-in-Stop-clause-ends : goal.returns-in-Stop-clause-ends
returns-in-Stop-clause-ends g c =
    let moment = g.D.Disk.moment in
    let a = c.args.self.now in
    let b = c.run.new.self in
    let e = c.stop.new.self in
    stop_ends c.stop.result c.args.end c.in-Some.word c.in-Stop.image c.in-Stop.calls c.in-Stop.step _ (length b.node.core.entries) e.node.core.entries c.in-Some.is c.in-Stop.is
    (entries_before (length a.rest.items) (moment b.node.store.disk) b.node.core.entries e.node.core.entries b.node.waiting c.args.words.now b.after.items e.after.items c.in_ok-run.ensures.stands (ap (λ v. v.items) c.stop.ensures.same.1))
    c.stop.ensures.ends

pub returns-in-None-clause-by : goal.returns-in-None-clause-by
returns-in-None-clause-by g c =
    let moment = g.D.Disk.moment in
    let b = c.run.new.self in
    let e = c.finish.new.self in
    by_same (moment b.node.store.disk) (moment e.node.store.disk) b.after.items e.after.items c.finish.ensures.goes.ran.later (ap (λ v. v.items) c.finish.ensures.after) c.run.ensures.by

pub returns-in-Stop-clause-by : goal.returns-in-Stop-clause-by
returns-in-Stop-clause-by g c =
    let moment = g.D.Disk.moment in
    let b = c.run.new.self in
    let e = c.stop.new.self in
    by_same (moment b.node.store.disk) (moment e.node.store.disk) b.after.items e.after.items c.stop.ensures.ran.later (ap (λ v. v.items) c.stop.ensures.same.1) c.run.ensures.by
