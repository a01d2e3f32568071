use Rattle.std.proofs.Common.{◌≡◌, ◌<◌, length}
use Rattle.std.specs.Prelude.{Some}
use Rattle.cq_items.specs.Tree.{way}
use Rattle.cq_items.proofs.tree.node_on_way.Given as goal

abbrev pub invariant-loop-passed : goal.invariant-loop-passed
invariant-loop-passed l = record {
  within : l.at < length l.nodes;
  on_way : way l.nodes l.held l.passed ≡ Some l.at;
}
