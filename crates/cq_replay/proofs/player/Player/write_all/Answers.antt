use Rattle.std.proofs.Common.{Ok, sym, ap, ◌∙◌, subst}
use Rattle.cq_node.specs.Turned.{IsIdle}
use Rattle.cq_replay.proofs.Moves.{wrote, then, goes_more}
use Rattle.cq_replay.proofs.player.Player.write_all.Goals as goal

pub loop-preserved : goal.loop-preserved
loop-preserved g c =
    let d = g.D.Disk in
    let a = c.args.self.now in
    let b = c.loop.self in
    let e = c.write.new.self in
    let so_far = c.loop.invariant in (
      goes_more a.node b.node e.node c.in_ok-write.field-0 so_far.0 c.in_ok-write.ensures.goes,
      then (g.D.Disk.moment a.node.store.disk) (g.D.Disk.moment b.node.store.disk) c.loop.invariant.0.ran.later a.node.core.entries b.node.core.entries e.node.core.entries a.node.waiting b.node.waiting e.node.waiting a.rest.items b.rest.items e.rest.items so_far.1
          (wrote c.write.result (d.moment b.node.store.disk) b.node.core.entries e.node.core.entries b.node.waiting e.node.waiting b.rest.items e.rest.items c.write.ensures.wrote c.write.ensures.same.0 (ap (λ q. q.items) c.write.ensures.same.1)),
      c.write.ensures.same.0 ∙ so_far.2,
      c.write.ensures.same.1 ∙ so_far.3,
      c.write.ensures.after ∙ so_far.4,
    )

pub returns-in-Idle-clause-written : goal.returns-in-Idle-clause-written
returns-in-Idle-clause-written g c = c.write.ensures.idle (subst IsIdle (sym (c.in_ok-write.was ∙ ap Ok c.in-Idle.is)) tt)
