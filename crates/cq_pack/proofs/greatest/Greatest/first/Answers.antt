use Rattle.std.proofs.Common.{◌≡◌, ℕ, ◌+◌, ◌*◌, ◌^◌, ◌<◌, ◌≤◌, List, length, vec_len, get_or, sym, ap, subst, ◌∙◌, arith, rules}
use Rattle.std.proofs.lemmas.List.{get_or_default}
use Rattle.cq_pack.specs.Tree.{IsTree, NoneReaches}
use Rattle.cq_pack.proofs.Trees.{IsOnWay, none_reaches, way_within, root_within, way_left, way_right}
use Rattle.cq_pack.proofs.greatest.Greatest.first.Goals as goal
use Rattle.cq_pack.proofs.greatest.Greatest.first.Goals.{then-index-least-2, else-index-least-2}

pub returns-then-index-least : goal.returns-then-index-least
returns-then-index-least c =
    let within = root_within c.self.inside.levels c.self.inside.nodes.items c.self.invariant in
    let is = c.index.ensures ∙ get_or_default c.self.inside.nodes.items 1 c.index.result.now 0 within in
    subst (NoneReaches c.args.least) c.self.view_is (none_reaches c.self.inside.levels c.args.least c.self.inside.nodes.items c.self.invariant (subst (λ n. n < c.args.least) is c.if-index-least.true))

pub overflow_mul-node : goal.overflow_mul-node
overflow_mul-node c =
    let within : 2 * c.loop-level.node + 1 < length c.self.inside.nodes.items = way_within c.self.inside.levels c.loop-level._level c.args.least c.self.inside.nodes.items c.loop-level.node c.self.invariant c.loop-level.invariant c.loop-level-test.true in
    let size : vec_len c.self.inside.nodes ≡ length c.self.inside.nodes.items = search rules in
    let fits : c.len-leaves.result < 2 ^ 64 = search rules in
    omega (arith, within, size, fits, c.len-leaves.ensures)

pub index-requires-in-loop-level : goal.index-requires-in-loop-level
index-requires-in-loop-level c =
    let within : 2 * c.loop-level.node + 1 < length c.self.inside.nodes.items = way_within c.self.inside.levels c.loop-level._level c.args.least c.self.inside.nodes.items c.loop-level.node c.self.invariant c.loop-level.invariant c.loop-level-test.true in
    let size : vec_len c.self.inside.nodes ≡ length c.self.inside.nodes.items = search rules in
    omega (arith, within, size)

-- on from a node to one of its children
child : (levels level least : ℕ) (nodes : List ℕ) (n x : ℕ) → IsTree levels nodes → IsOnWay level least nodes n → level < levels → x ≡ get_or nodes (n * 2) x → (x < least → IsOnWay (level + 1) least nodes (n * 2 + 1)) × (least ≤ x → IsOnWay (level + 1) least nodes (n * 2))
child levels level least nodes n x tree way below is =
    let within = way_within levels level least nodes n tree way below in
    let same : n * 2 ≡ 2 * n = omega arith in
    let at : x ≡ get_or nodes (2 * n) 0 = is ∙ ap (λ k. get_or nodes k x) same ∙ get_or_default nodes (2 * n) x 0 (omega (arith, within)) in (
      (λ small. subst (λ k. IsOnWay (level + 1) least nodes (k + 1)) (sym same) (way_right levels level least nodes n tree way below (subst (λ y. y < least) at small))),
      (λ reaches. subst (IsOnWay (level + 1) least nodes) (sym same) (way_left levels level least nodes n tree way below (subst (λ y. least ≤ y) at reaches))),
    )

pub loop-level-preserved : goal.loop-level-preserved
loop-level-preserved c =
    let both = child c.self.inside.levels c.loop-level._level c.args.least c.self.inside.nodes.items c.loop-level.node c.index-in-loop-level.result.now c.self.invariant c.loop-level.invariant c.loop-level-test.true c.index-in-loop-level.ensures in
    elim c.if-index-least-2.branch [
      | then-index-least-2 w ↦ subst (IsOnWay (c.loop-level._level + 1) c.args.least c.self.inside.nodes.items) (sym w.node-is) (both.0 w.if-index-least-2.true)
      | else-index-least-2 w ↦ subst (IsOnWay (c.loop-level._level + 1) c.args.least c.self.inside.nodes.items) (sym w.node-is) (both.1 w.if-index-least-2.false)
    ]
