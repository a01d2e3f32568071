-- Trees of greatest values.
use Rattle.std.proofs.Common.{◌≡◌, ◌≢◌, ℕ, zero, suc, ◌+◌, ◌-◌, ◌*◌, ◌/◌, ◌%◌, ◌^◌, ◌≤◌, ◌<◌, Bool, true, false, List, length, get_or, set, drop, max, nat_lt, ◌==◌, ◌⊎◌, inl, inr, refl, sym, ap, subst, ◌∙◌, arith, length-drop, add-one}
use Rattle.std.proofs.lemmas.List.{length-set, get_or-drop, get_or-set_same, get_or-set_other}
use Rattle.std.proofs.lemmas.Bool.Decides.{nat_tests}
use Rattle.std.proofs.Math.Pow.{pow_mono}
use Rattle.std.proofs.Math.Nat.{pow-succ'}
use Rattle.std.proofs.lemmas.Bool.{cases_eq}
use Rattle.cq_pack.specs.Tree.{IsAbove, IsTree, IsFirst, NoneReaches}

-- which child a node is
child_of : (n : ℕ) → (n ≡ 2 * (n / 2)) ⊎ (n ≡ 2 * (n / 2) + 1)
child_of n = by (n % 2 == 0) refl
  where
    by : (b : Bool) → (n % 2 == 0) ≡ b → (n ≡ 2 * (n / 2)) ⊎ (n ≡ 2 * (n / 2) + 1)
    by true e = let even : n % 2 ≡ 0 = grind (arith, nat_tests) in inl (omega arith)
    by false e = let odd : n % 2 ≢ 0 = grind (arith, nat_tests) in inr (omega arith)

before_or_at : (k n : ℕ) → k < n + 1 → (k < n) ⊎ (k ≡ n)
before_or_at k n h = by (nat_lt k n) refl
  where
    by : (b : Bool) → nat_lt k n ≡ b → (k < n) ⊎ (k ≡ n)
    by true e = inl (grind (arith, nat_tests))
    by false e = inr (grind (arith, nat_tests))

max_same : (a b x y : ℕ) → a ≡ x → b ≡ y → max a b ≡ max x y
max_same a b x y p q = ap (λ n. max n b) p ∙ ap (max x) q

double : (levels : ℕ) → 2 ^ (levels + 1) ≡ 2 * 2 ^ levels
double levels = ap (λ n. 2 ^ n) (add-one levels) ∙ pow-succ' 2 levels

some_leaves : (levels : ℕ) → 0 < 2 ^ levels
some_leaves levels = let least : 2 ^ 0 ≤ 2 ^ levels = pow_mono {i = 0} {j = levels} (omega arith) in omega arith

-- the root has the greatest value
below_root : (levels : ℕ) (nodes : List ℕ) → IsTree levels nodes → (fuel n : ℕ) → n ≤ fuel → 0 < n → n < 2 * 2 ^ levels → get_or nodes n 0 ≤ get_or nodes 1 0
below_root levels nodes tree zero n few some within = absurd (omega arith)
below_root levels nodes tree (suc fuel) zero few some within = absurd (omega arith)
below_root levels nodes tree (suc fuel) (suc zero) few some within = omega arith
below_root levels nodes tree (suc fuel) (suc (suc m)) few some within =
    let half = suc (suc m) / 2 in
    let above : IsAbove nodes half = tree.above half (omega arith) (omega arith) in
    let rest : get_or nodes half 0 ≤ get_or nodes 1 0 = below_root levels nodes tree fuel half (omega arith) (omega arith) (omega arith) in
    child nodes half (suc (suc m)) above (child_of (suc (suc m))) rest
  where
    child : (nodes : List ℕ) (half n : ℕ) → IsAbove nodes half → (n ≡ 2 * half) ⊎ (n ≡ 2 * half + 1) → get_or nodes half 0 ≤ get_or nodes 1 0 → get_or nodes n 0 ≤ get_or nodes 1 0
    child nodes half n above (inl e) rest = let same : get_or nodes n 0 ≡ get_or nodes (2 * half) 0 = ap (λ k. get_or nodes k 0) e in omega arith
    child nodes half n above (inr e) rest = let same : get_or nodes n 0 ≡ get_or nodes (2 * half + 1) 0 = ap (λ k. get_or nodes k 0) e in omega arith

-- where the root is too small, each value is
pub none_reaches : (levels least : ℕ) (nodes : List ℕ) → IsTree levels nodes → get_or nodes 1 0 < least → NoneReaches least (drop (2 ^ levels) nodes)
none_reaches levels least nodes tree small k within =
    let at = get_or-drop (2 ^ levels) nodes k 0 in
    let some = some_leaves levels in
    let below = below_root levels nodes tree (2 ^ levels + k) (2 ^ levels + k) (omega arith) (omega arith) (omega (arith, within, length-drop (2 ^ levels) nodes, tree.size)) in
    omega (arith, at, below, small)

-- on its level, a node is the first one that has so large a value
pub record IsOnWay (level least : ℕ) (nodes : List ℕ) (n : ℕ) : Type 0 where
  pub from : 2 ^ level ≤ n
  pub to : n < 2 * 2 ^ level
  pub reaches : least ≤ get_or nodes n 0
  pub lower : (k : ℕ) → 2 ^ level ≤ k → k < n → get_or nodes k 0 < least

pub at_root : (least : ℕ) (nodes : List ℕ) → least ≤ get_or nodes 1 0 → IsOnWay 0 least nodes 1
at_root least nodes reaches = record { from = omega arith; to = omega arith; reaches = reaches; lower = λ k from below. absurd (omega (arith, from, below)) }

node_above : (levels level least : ℕ) (nodes : List ℕ) (n : ℕ) → IsTree levels nodes → IsOnWay level least nodes n → level < levels → IsAbove nodes n
node_above levels level least nodes n tree way below =
    let deep : 2 ^ (level + 1) ≤ 2 ^ levels = pow_mono {i = level + 1} {j = levels} (omega arith) in
    tree.above n (omega (arith, way.from)) (omega (arith, way.to, deep, double level))

-- the children of the nodes before it are too small
lower_children : (levels level least : ℕ) (nodes : List ℕ) (n : ℕ) → IsTree levels nodes → IsOnWay level least nodes n → level < levels → (k : ℕ) → 2 ^ (level + 1) ≤ k → k < 2 * n → get_or nodes k 0 < least
lower_children levels level least nodes n tree way below k from before =
    let deep : 2 ^ (level + 1) ≤ 2 ^ levels = pow_mono {i = level + 1} {j = levels} (omega arith) in
    let half = k / 2 in
    let low : get_or nodes half 0 < least = way.lower half (omega (arith, double level, from)) (omega arith) in
    let above : IsAbove nodes half = tree.above half (omega (arith, double level, from)) (omega (arith, way.to, deep, double level)) in
    child half above low (child_of k)
  where
    child : (half : ℕ) → IsAbove nodes half → get_or nodes half 0 < least → (k ≡ 2 * half) ⊎ (k ≡ 2 * half + 1) → get_or nodes k 0 < least
    child half above low (inl e) = let same : get_or nodes k 0 ≡ get_or nodes (2 * half) 0 = ap (λ i. get_or nodes i 0) e in omega arith
    child half above low (inr e) = let same : get_or nodes k 0 ≡ get_or nodes (2 * half + 1) 0 = ap (λ i. get_or nodes i 0) e in omega arith

-- on to the first child
pub way_left : (levels level least : ℕ) (nodes : List ℕ) (n : ℕ) → IsTree levels nodes → IsOnWay level least nodes n → level < levels → least ≤ get_or nodes (2 * n) 0 → IsOnWay (level + 1) least nodes (2 * n)
way_left levels level least nodes n tree way below reaches = record {
  from = omega (arith, way.from, double level);
  to = omega (arith, way.to, double level);
  reaches = reaches;
  lower = lower_children levels level least nodes n tree way below;
}

-- on to the second child, where the first one is too small
pub way_right : (levels level least : ℕ) (nodes : List ℕ) (n : ℕ) → IsTree levels nodes → IsOnWay level least nodes n → level < levels → get_or nodes (2 * n) 0 < least → IsOnWay (level + 1) least nodes (2 * n + 1)
way_right levels level least nodes n tree way below small = record {
  from = omega (arith, way.from, double level);
  to = omega (arith, way.to, double level);
  reaches = let above = node_above levels level least nodes n tree way below in omega (arith, above, way.reaches, small);
  lower = λ k from before. by k from before (before_or_at k (2 * n) before);
}
  where
    by : (k : ℕ) → 2 ^ (level + 1) ≤ k → k < 2 * n + 1 → (k < 2 * n) ⊎ (k ≡ 2 * n) → get_or nodes k 0 < least
    by k from before (inl less) = lower_children levels level least nodes n tree way below k from less
    by k from before (inr e) = let same : get_or nodes k 0 ≡ get_or nodes (2 * n) 0 = ap (λ i. get_or nodes i 0) e in omega (arith, same, small)

-- on the last level stand the values
pub way_ends : (levels least : ℕ) (nodes : List ℕ) (n : ℕ) → IsTree levels nodes → IsOnWay levels least nodes n → IsFirst least (drop (2 ^ levels) nodes) (n - 2 ^ levels)
way_ends levels least nodes n tree way =
    let place : 2 ^ levels + (n - 2 ^ levels) ≡ n = omega (arith, way.from) in
    let at = get_or-drop (2 ^ levels) nodes (n - 2 ^ levels) 0 ∙ ap (λ i. get_or nodes i 0) place in
    record {
      within = omega (arith, way.to, way.from, length-drop (2 ^ levels) nodes, tree.size);
      reaches = omega (arith, at, way.reaches);
      lower = λ k before. let low = way.lower (2 ^ levels + k) (omega arith) (omega (arith, before, way.from)) in omega (arith, low, get_or-drop (2 ^ levels) nodes k 0);
    }

-- every node but one, or none, is right
pub record IsMended (levels : ℕ) (nodes : List ℕ) (left : ℕ) : Type 0 where
  pub size : length nodes ≡ 2 * 2 ^ levels
  pub inside : left < 2 ^ levels
  pub above : (n : ℕ) → 0 < n → n < 2 ^ levels → n ≢ left → IsAbove nodes n

-- where a node's value was written, a node elsewhere is as before
elsewhere : (nodes : List ℕ) (at value n : ℕ) → IsAbove nodes n → n ≢ at → 2 * n ≢ at → 2 * n + 1 ≢ at → IsAbove (set nodes at value) n
elsewhere nodes at value n above here left right =
    get_or-set_other nodes at n value 0 here ∙ above
    ∙ max_same (get_or nodes (2 * n) 0) (get_or nodes (2 * n + 1) 0) (get_or (set nodes at value) (2 * n) 0) (get_or (set nodes at value) (2 * n + 1) 0)
    (sym (get_or-set_other nodes at (2 * n) value 0 left)) (sym (get_or-set_other nodes at (2 * n + 1) value 0 right))

-- a value was written: only the node above it may be wrong
pub value_written : (levels : ℕ) (nodes : List ℕ) (place value : ℕ) → IsTree levels nodes → place < 2 ^ levels → IsMended levels (set nodes (2 ^ levels + place) value) ((2 ^ levels + place) / 2)
value_written levels nodes place value tree within = record {
  size = length-set nodes (2 ^ levels + place) value ∙ tree.size;
  inside = omega arith;
  above = λ n some inside apart. elsewhere nodes (2 ^ levels + place) value n (tree.above n some inside) (omega arith) (omega (arith, apart)) (omega (arith, apart));
}

-- a node was mended: only the node above it may be wrong
pub node_mended : (levels : ℕ) (nodes : List ℕ) (left : ℕ) → IsMended levels nodes left → 0 < left → IsMended levels (set nodes left (max (get_or nodes (2 * left) 0) (get_or nodes (2 * left + 1) 0))) (left / 2)
node_mended levels nodes left is there = record {
  size = length-set nodes left value ∙ is.size;
  inside = omega (arith, is.inside);
  above = λ n some inside apart. by n some inside apart (cases_eq n left);
}
  where
    value : ℕ
    value = max (get_or nodes (2 * left) 0) (get_or nodes (2 * left + 1) 0)

    mended : IsAbove (set nodes left value) left
    mended =
        get_or-set_same nodes left value 0 (omega (arith, is.inside, is.size))
        ∙ max_same (get_or nodes (2 * left) 0) (get_or nodes (2 * left + 1) 0) (get_or (set nodes left value) (2 * left) 0) (get_or (set nodes left value) (2 * left + 1) 0)
        (sym (get_or-set_other nodes left (2 * left) value 0 (omega arith))) (sym (get_or-set_other nodes left (2 * left + 1) value 0 (omega arith)))

    by : (n : ℕ) → 0 < n → n < 2 ^ levels → n ≢ left / 2 → (n ≡ left) ⊎ (n ≢ left) → IsAbove (set nodes left value) n
    by n some inside apart (inl e) = subst (IsAbove (set nodes left value)) (sym e) mended
    by n some inside apart (inr other) = elsewhere nodes left value n (is.above n some inside other) other (omega (arith, apart)) (omega (arith, apart))

-- where all are mended, the nodes are a tree
pub all_mended : (levels : ℕ) (nodes : List ℕ) (left : ℕ) → IsMended levels nodes left → left ≡ 0 → IsTree levels nodes
all_mended levels nodes left is none = record { size = is.size; above = λ n some inside. is.above n some inside (omega (arith, some, none)) }

-- a node that isn't on the last level has children
pub way_within : (levels level least : ℕ) (nodes : List ℕ) (n : ℕ) → IsTree levels nodes → IsOnWay level least nodes n → level < levels → 2 * n + 1 < length nodes
way_within levels level least nodes n tree way below =
    let deep : 2 ^ (level + 1) ≤ 2 ^ levels = pow_mono {i = level + 1} {j = levels} (omega arith) in
    omega (arith, way.to, deep, double level, tree.size)

pub root_within : (levels : ℕ) (nodes : List ℕ) → IsTree levels nodes → 1 < length nodes
root_within levels nodes tree = omega (arith, some_leaves levels, tree.size)
