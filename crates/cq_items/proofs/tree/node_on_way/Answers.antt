use Rattle.std.proofs.Common.{◌≡◌, ◌+◌, sym, ap, ◌∙◌, arith}
use Rattle.std.specs.Prelude.{Some}
use Rattle.cq_items.specs.Tree.{node_at, link, way}
use Rattle.cq_items.proofs.Ways.{on-way, way-next, some-of}
use Rattle.cq_items.proofs.tree.node_on_way.Goals as goal

pub loop-passed-preserved : goal.loop-passed-preserved
loop-passed-preserved c =
    let there = some-of (way c.args.nodes.now c.args.held c.args.level) c.requires.there in
    let next : way c.args.nodes.now c.args.held (c.loop-passed.passed + 1) ≡ Some c.below-at.result =
    way-next c.args.nodes.now c.args.held c.args.level c.loop-passed.passed c.loop-passed.at c.below-at.result there.0 (c.loop-passed.passed + 1) there.1 (omega arith) c.loop-passed.invariant.on_way
    (ap (λ b. link b (node_at c.args.nodes.now c.loop-passed.at)) (sym (c.turns_right-right.ensures 0)) ∙ sym c.below-at.ensures) (omega arith) in
    record {
      within = (on-way c.args.nodes.now c.requires.tree c.requires.some c.args.held (c.loop-passed.passed + 1) c.below-at.result next).within;
      on_way = next;
    }
