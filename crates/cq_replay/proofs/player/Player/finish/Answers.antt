use Rattle.std.proofs.Common.{◌≡◌, ◌+◌, [], length, refl, ap, ◌∙◌, arith}
use Rattle.std.proofs.lemmas.List.{nil_from_length}
use Rattle.cq_journal.specs.Asks.{asks}
use Rattle.cq_node.specs.Waiting.{Handed}
use Rattle.cq_replay.proofs.Moves.{then, goes_none, goes_more, length-demand, length-told, on_map}
use Rattle.cq_replay.specs.Going.{IsWritten}
use Rattle.cq_replay.proofs.player.Player.finish.Goals as goal

pub loop-round-init : goal.loop-round-init
loop-round-init g c = (
  goes_none c.args.self.now.node c.requires.open,
  record { added = []; is = refl; since = tt; same = refl },
  c.requires.none_kept,
  refl,
  omega arith,
)

pub round-requires-clause-none_kept : goal.round-requires-clause-none_kept
round-requires-clause-none_kept g c = c.loop-round.invariant.2

pub round-requires-clause-left : goal.round-requires-clause-left
round-requires-clause-left g c =
    let a = c.args.self.now in
    let answered : length c.replies-answered.result.now ≡ length (asks a.node.core.entries 0) = length-told c.replies-answered.result.now a.node.core.entries 0 c.replies-answered.ensures.same in
    omega (arith, c.loop-round.invariant.4, c.loop-round-test.true, c.saturating_sub-round-end.ensures, answered, c.requires.total, length-demand a.node.core.entries a.node.waiting a.rest.items)

pub loop-round-preserved : goal.loop-round-preserved
loop-round-preserved g c =
    let a = c.args.self.now in
    let b = c.loop-round.self in
    let e = c.round.new.self in
    let so_far = c.loop-round.invariant in (
      goes_more a.node b.node e.node c.in_ok-round.field-0 so_far.0 c.in_ok-round.ensures.goes,
      then (g.D.Disk.moment a.node.store.disk) (g.D.Disk.moment b.node.store.disk) c.loop-round.invariant.0.ran.later a.node.core.entries b.node.core.entries e.node.core.entries a.node.waiting b.node.waiting e.node.waiting a.rest.items b.rest.items e.rest.items so_far.1 (c.round.ensures.moves),
      c.in_ok-round.ensures.none_kept,
      c.round.ensures.after ∙ so_far.3,
      omega (arith, so_far.4, c.in_ok-round.ensures.fewer),
    )

pub returns-in_err-round-clause-moves : goal.returns-in_err-round-clause-moves
returns-in_err-round-clause-moves g c =
    let a = c.args.self.now in
    let b = c.loop-round.self in
    let e = c.round.new.self in
    then (g.D.Disk.moment a.node.store.disk) (g.D.Disk.moment b.node.store.disk) c.loop-round.invariant.0.ran.later a.node.core.entries b.node.core.entries e.node.core.entries a.node.waiting b.node.waiting e.node.waiting a.rest.items b.rest.items e.rest.items c.loop-round.invariant.1 (c.round.ensures.moves)

pub returns-in_err-round-clause-after : goal.returns-in_err-round-clause-after
returns-in_err-round-clause-after g c = c.round.ensures.after ∙ c.loop-round.invariant.3

pub write_all-requires-clause-none_kept : goal.write_all-requires-clause-none_kept
write_all-requires-clause-none_kept g c = c.loop-round.invariant.2

pub returns-clause-moves : goal.returns-clause-moves
returns-clause-moves g c =
    let a = c.args.self.now in
    let b = c.loop-round.self in
    let e = c.write_all.new.self in
    then (g.D.Disk.moment a.node.store.disk) (g.D.Disk.moment b.node.store.disk) c.loop-round.invariant.0.ran.later a.node.core.entries b.node.core.entries e.node.core.entries a.node.waiting b.node.waiting e.node.waiting a.rest.items b.rest.items e.rest.items c.loop-round.invariant.1 (c.write_all.ensures.moves)

pub returns-clause-after : goal.returns-clause-after
returns-clause-after g c = c.write_all.ensures.after ∙ c.loop-round.invariant.3

pub returns-clause-finished : goal.returns-clause-finished
returns-clause-finished g c =
    let a = c.args.self.now in
    let b = c.loop-round.self in
    let answered : length c.replies-answered.result.now ≡ length (asks a.node.core.entries 0) = length-told c.replies-answered.result.now a.node.core.entries 0 c.replies-answered.ensures.same in
    let none : length b.node.waiting.requests + length b.rest.items ≡ 0 = omega (arith, c.loop-round.invariant.4, c.loop-round-test.false, c.saturating_sub-round-end.ensures, answered, c.requires.total, length-demand a.node.core.entries a.node.waiting a.rest.items) in
    on_map c.write_all.result (λ (written : IsWritten c.write_all.new.self.node). record {
      none_waits = ap (λ (v : Handed). v.requests) c.write_all.ensures.same.0 ∙ nil_from_length b.node.waiting.requests (omega (arith, none));
      none_left = ap (λ q. q.items) c.write_all.ensures.same.1 ∙ nil_from_length b.rest.items (omega (arith, none));
      written = written;
    }) c.write_all.ensures.written
