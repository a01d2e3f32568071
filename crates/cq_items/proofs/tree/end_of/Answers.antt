use Rattle.std.proofs.Common.{◌<◌, ◌+◌, sym, ap, ◌∙◌, arith}
use Rattle.std.proofs.lemmas.Bool.{both_ways}
use Rattle.cq_items.specs.Tree.{node_at, link}
use Rattle.cq_items.proofs.Ways.{shallow, passed-next, is-end}
use Rattle.cq_items.proofs.tree.end_of.Goals as goal

pub returns-then-is_wanted : goal.returns-then-is_wanted
returns-then-is_wanted c =
    is-end c.args.nodes.now c.requires.tree c.requires.some c.args.any c.args.client c.args.delivery c.loop-level.level c.loop-level.at c.loop-level.invariant
    (λ n. absurd (both_ways _ n (sym c.is_wanted.ensures ∙ c.if-is_wanted.true)))

pub returns-then-next-eq0 : goal.returns-then-next-eq0
returns-then-next-eq0 c =
    is-end c.args.nodes.now c.requires.tree c.requires.some c.args.any c.args.client c.args.delivery c.loop-level.level c.loop-level.at c.loop-level.invariant
    (λ n. (c.loop-level-test.true, ap (λ b. link b (node_at c.args.nodes.now c.loop-level.at)) (sym (c.turns_right.ensures 0)) ∙ sym c.below-next.ensures ∙ c.if-next-eq0.true))

pub loop-level-preserved : goal.loop-level-preserved
loop-level-preserved c =
    let below : 0 < c.below-next.result = omega (arith, c.if-next-eq0.false) in
    passed-next c.args.nodes.now c.requires.tree c.requires.some c.args.any c.args.client c.args.delivery c.loop-level.level c.loop-level.at c.below-next.result (c.loop-level.level + 1)
    c.ranges.client.fits c.ranges.delivery.fits c.loop-level.invariant (sym c.is_wanted.ensures ∙ c.if-is_wanted.false)
    (ap (λ b. link b (node_at c.args.nodes.now c.loop-level.at)) (sym (c.turns_right.ensures 0)) ∙ sym c.below-next.ensures) below (omega arith)

pub returns : goal.returns
returns c =
    is-end c.args.nodes.now c.requires.tree c.requires.some c.args.any c.args.client c.args.delivery c.loop-level.level c.loop-level.at c.loop-level.invariant
    (λ n. absurd (omega (arith, c.loop-level-test.false, shallow c.args.nodes.now c.requires.tree c.requires.some c.args.any c.args.client c.args.delivery c.loop-level.level c.loop-level.at c.ranges.client.fits c.ranges.delivery.fits c.loop-level.invariant.on_way n)))
