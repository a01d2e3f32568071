use Rattle.std.proofs.Common.{◌+◌, sym, ◌∙◌, arith}
use Rattle.cq_items.proofs.Ways.{deeper, leaf-here, leaf-last}
use Rattle.cq_items.proofs.tree.leaf_below.Goals as goal

pub returns-then-next-eq0 : goal.returns-then-next-eq0
returns-then-next-eq0 c = leaf-here c.args.nodes.now c.args.at c.loop-passed.passed c.loop-passed.leaf c.loop-passed.invariant (sym c.if-next-eq0.true ∙ c.max-next.ensures)

pub loop-passed-preserved : goal.loop-passed-preserved
loop-passed-preserved c =
    deeper c.args.nodes.now c.requires.tree c.args.at c.loop-passed.passed c.loop-passed.leaf c.max-next.result (c.loop-passed.passed + 1) c.loop-passed.invariant c.max-next.ensures
    (omega (arith, c.if-next-eq0.false)) (omega arith)

pub returns : goal.returns
returns c = leaf-last c.args.nodes.now c.requires.tree c.args.at c.loop-passed.passed c.loop-passed.leaf c.loop-passed.invariant (omega (arith, c.loop-passed-test.false))
