-- What is left of a tree when a leaf is taken out and the last node gets its index.
use Prim.Native.Nat.{zero, suc}
use Rattle.std.proofs.Common.{◌≡◌, ℕ, ◌+◌, ◌-◌, ◌^◌, ◌<◌, ◌≤◌, Bool, true, false, cond, List, length, set, get_or, refl, sym, ap, ◌∙◌, subst, arith, inl, inr, length-set, length-take, get_or-set_same, get_or-set_other}
use Rattle.std.proofs.lemmas.List.{get_or_past, get_or_default, get_or-take}
use Rattle.std.proofs.lemmas.Option.{same_Some}
use Rattle.std.specs.List.{swap_remove}
use Rattle.std.specs.Prelude.{◌==◌, Option, None, Some}
use Rattle.std.proofs.lemmas.Bool.{cond-true, cond-false, cases_eq, cases_lt, eq-eqb, ne_eqb}
use Rattle.cq_items.specs.declared.outs.Held.{Held}
use Rattle.cq_items.specs.declared.tree.Node.{Node}
use Rattle.cq_items.specs.Tree.{turn, node_at, no_node, link, some_index, step, way, relinked, IsBelow, IsTree, IsUnlinked}
use Rattle.cq_items.proofs.Ways.{step-from, index-of, prefix, on-way, one-above}
use Rattle.cq_items.proofs.Trees.{below-same}

at-eq : {X : Type 0} (a b : ℕ) (x y : X) → a ≡ b → cond (a == b) x y ≡ x
at-eq a b x y e = cond-true (a == b) x y (eq-eqb a b e)

at-ne : {X : Type 0} (a b : ℕ) (x y : X) → (a ≡ b → ⊥) → cond (a == b) x y ≡ y
at-ne a b x y n = cond-false (a == b) x y (ne_eqb a b n)

-- ---- links that lead elsewhere

abbrev pub relinks : ℕ → ℕ → Node → Node
relinks from to n = record n { left = relinked from to n.left; right = relinked from to n.right }

link-relinks : (from to : ℕ) (r : Bool) (n : Node) → link r (relinks from to n) ≡ relinked from to (link r n)
link-relinks from to true n = refl
link-relinks from to false n = refl

record IsRelinked (ns new : List Node) (from to : ℕ) : Type 0 where
  pub len : length new ≡ length ns
  pub held : (i : ℕ) → (node_at new i).held ≡ (node_at ns i).held
  pub level : (i : ℕ) → (node_at new i).level ≡ (node_at ns i).level
  pub links : (i : ℕ) (r : Bool) → link r (node_at new i) ≡ relinked from to (link r (node_at ns i))

relinked-set : (ns : List Node) (p from to : ℕ) → p < length ns → ((i : ℕ) (r : Bool) → (i ≡ p → ⊥) → link r (node_at ns i) ≡ from → ⊥) → IsRelinked ns (set ns p (relinks from to (node_at ns p))) from to
relinked-set ns p from to l only =
    let m = relinks from to (node_at ns p) in
    let here : node_at (set ns p m) p ≡ m = get_or-set_same ns p m no_node l in
    record {
      len = length-set ns p m;
      held = λ i. elim (cases_eq i p) [
        | inl e ↦ subst (λ k. (node_at (set ns p m) k).held ≡ (node_at ns k).held) (sym e) (ap (λ (n : Node). n.held) here)
        | inr n ↦ ap (λ (n : Node). n.held) (get_or-set_other ns p i m no_node n)
      ];
      level = λ i. elim (cases_eq i p) [
        | inl e ↦ subst (λ k. (node_at (set ns p m) k).level ≡ (node_at ns k).level) (sym e) (ap (λ (n : Node). n.level) here)
        | inr n ↦ ap (λ (n : Node). n.level) (get_or-set_other ns p i m no_node n)
      ];
      links = λ i r. elim (cases_eq i p) [
        | inl e ↦ subst (λ k. link r (node_at (set ns p m) k) ≡ relinked from to (link r (node_at ns k))) (sym e) (ap (link r) here ∙ link-relinks from to r (node_at ns p))
        | inr n ↦ ap (link r) (get_or-set_other ns p i m no_node n) ∙ sym (at-ne (link r (node_at ns i)) from to (link r (node_at ns i)) (only i r n))
      ];
    }

no-links : (r : Bool) → link r no_node ≡ 0
no-links true = refl
no-links false = refl

-- only the node above one has a link that leads to it
only-above : (ns : List Node) → IsTree ns → (j p : ℕ) → 0 < j → way ns (node_at ns j).held ((node_at ns j).level - 1) ≡ Some p → (i : ℕ) (r : Bool) → (i ≡ p → ⊥) → link r (node_at ns i) ≡ j → ⊥
only-above ns t j p l e i r n f = elim (cases_lt i (length ns)) [
  | inr past ↦ omega (arith, l, sym f ∙ ap (link r) (get_or_past ns i no_node past) ∙ no-links r)
  | inl m ↦ (
      let w = one-above ns t i j r m f l in
      let same : (node_at ns j).level - 1 ≡ (node_at ns i).level = omega (arith, w.1) in
      let s : Some i ≡ Some p = sym w.0 ∙ ap (way ns (node_at ns j).held) (sym same) ∙ e in
      let here : i ≡ p = cc in
      n here)
]

first-step : (ns : List Node) (h : Held) (i : ℕ) → way ns h 1 ≡ Some i → (link (turn 0 h) (node_at ns 0) ≡ i) × (0 < i)
first-step ns h i e =
    let s = step-from ns (turn 0 h) (Some 0) i e in
    let t : Some 0 ≡ Some s.0 = s.1 in
    let here : s.0 ≡ 0 = cc in
    (ap (λ k. link (turn 0 h) (node_at ns k)) (sym here) ∙ s.2, s.3)

-- the first of several nodes is no leaf
pub leaf-positive : (ns : List Node) → IsTree ns → 1 < length ns → (leaf : ℕ) → ((r : Bool) → link r (node_at ns leaf) ≡ 0) → 0 < leaf
leaf-positive ns t l (suc leaf) ends = omega arith
leaf-positive ns t l zero ends = elim (cases_eq (node_at ns 1).level 0) [
  | inl e ↦ (
      let f : 0 ≡ 1 = same_Some 0 1 (sym (ap (way ns (node_at ns 1).held) e) ∙ t.on_way 1 l) in
      absurd (omega (arith, f)))
  | inr n ↦ (
      let there = prefix ns (node_at ns 1).held (node_at ns 1).level 1 1 (t.on_way 1 l) (omega arith) in
      let s = first-step ns (node_at ns 1).held there.0 there.1 in
      omega (arith, s.0, s.1, ends (turn 0 (node_at ns 1).held)))
]

pub unlinked : (ns one two : List Node) → IsTree ns → (leaf p q : ℕ) → 1 < length ns → ((r : Bool) → link r (node_at ns leaf) ≡ 0) → p < length ns → q < length ns
    → way ns (node_at ns leaf).held ((node_at ns leaf).level - 1) ≡ Some p → way ns (node_at ns (length ns - 1)).held ((node_at ns (length ns - 1)).level - 1) ≡ Some q
    → one ≡ set ns p (relinks leaf 0 (node_at ns p)) → two ≡ set one q (relinks (length ns - 1) leaf (node_at one q)) → IsUnlinked ns two leaf
unlinked ns one two t leaf p q some ends pl ql pe qe a b =
    let last : ℕ = length ns - 1 in
    let positive = leaf-positive ns t some leaf ends in
    let first : IsRelinked ns one leaf 0 = subst (λ (js : List Node). IsRelinked ns js leaf 0) (sym a) (relinked-set ns p leaf 0 pl (only-above ns t leaf p positive pe)) in
    let second : IsRelinked one two last leaf = subst (λ (js : List Node). IsRelinked one js last leaf) (sym b)
    (relinked-set one q last leaf (omega (arith, first.len)) (λ i r n f. (
    let g : relinked leaf 0 (link r (node_at ns i)) ≡ last = sym (first.links i r) ∙ f in
    elim (cases_eq (link r (node_at ns i)) leaf) [
      | inl e ↦ (let h : 0 ≡ last = sym (at-eq (link r (node_at ns i)) leaf 0 (link r (node_at ns i)) e) ∙ g in omega (arith, h))
      | inr e ↦ only-above ns t last q (omega arith) qe i r n (sym (at-ne (link r (node_at ns i)) leaf 0 (link r (node_at ns i)) e) ∙ g)
    ]))) in
    record {
      len = second.len ∙ first.len;
      held = λ i. second.held i ∙ first.held i;
      level = λ i. second.level i ∙ first.level i;
      links = λ i r. second.links i r ∙ ap (relinked last leaf) (first.links i r);
    }

-- ---- the last node gets the leaf's index

pub record IsCut (un new : List Node) (leaf : ℕ) : Type 0 where
  pub len : length new + 1 ≡ length un
  pub moved : leaf + 1 < length un → node_at new leaf ≡ node_at un (length un - 1)
  pub kept : (k : ℕ) → (k ≡ leaf → ⊥) → k + 1 < length un → node_at new k ≡ node_at un k

pub cut-of : (un new : List Node) (leaf : ℕ) (x : Node) → leaf < length un → new ≡ swap_remove un leaf x → IsCut un new leaf
cut-of un new leaf x l e =
    let last : ℕ = length un - 1 in
    let y = get_or un last x in
    record {
      len = omega (arith, ap length e, length-take last (set un leaf y), length-set un leaf y, l);
      moved = λ m. ap (λ (js : List Node). node_at js leaf) e ∙ get_or-take last (set un leaf y) leaf no_node (omega arith) ∙ get_or-set_same un leaf y no_node l ∙ get_or_default un last x no_node (omega arith);
      kept = λ k n m. ap (λ (js : List Node). node_at js k) e ∙ get_or-take last (set un leaf y) k no_node (omega arith) ∙ get_or-set_other un leaf k y no_node n;
    }

abbrev seat : ℕ → ℕ → ℕ → ℕ
seat last leaf j = cond (j == last) leaf j

seat-within : (last leaf j : ℕ) → leaf ≤ last → j ≤ last → (j ≡ leaf → ⊥) → seat last leaf j < last
seat-within last leaf j l m n = elim (cases_eq j last) [
  | inl e ↦ (let f = at-eq j last leaf j e in let g : leaf < last = elim (cases_eq leaf last) [ inl h ↦ absurd (n (e ∙ sym h)) | inr h ↦ omega arith ] in omega (arith, f, g))
  | inr e ↦ (let f = at-ne j last leaf j e in omega (arith, f))
]

node-cut : (un new : List Node) (leaf last : ℕ) → IsCut un new leaf → suc last ≡ length un → leaf ≤ last → (j : ℕ) → j ≤ last → (j ≡ leaf → ⊥) → node_at new (seat last leaf j) ≡ node_at un j
node-cut un new leaf last c s l j m n = elim (cases_eq j last) [
  | inl e ↦ (
      let below : leaf + 1 < length un = elim (cases_eq leaf last) [ inl h ↦ absurd (n (e ∙ sym h)) | inr h ↦ omega arith ] in
      let end : length un - 1 ≡ j = omega arith in
      ap (node_at new) (at-eq j last leaf j e) ∙ c.moved below ∙ ap (node_at un) end)
  | inr e ↦ ap (node_at new) (at-ne j last leaf j e) ∙ c.kept j n (omega arith)
]

unseat : (last leaf k : ℕ) → k < last → leaf ≤ last → (j : ℕ) × (j ≤ last) × (j ≡ leaf → ⊥) × (seat last leaf j ≡ k)
unseat last leaf k l m = elim (cases_eq k leaf) [
  | inl e ↦ (last, omega arith, (λ f. omega arith), at-eq last last leaf last refl ∙ sym e)
  | inr e ↦ (k, omega arith, e, at-ne k last leaf k (λ f. omega arith))
]

abbrev shift : ℕ → ℕ → Option ℕ → Option ℕ
shift last leaf None = None
shift last leaf (Some j) = cond (j == leaf) None (Some (seat last leaf j))

shift-other : (last leaf j : ℕ) → (j ≡ leaf → ⊥) → shift last leaf (Some j) ≡ Some (seat last leaf j)
shift-other last leaf j n = at-ne j leaf None (Some (seat last leaf j)) n

relinked-leaf : (last leaf x : ℕ) → 0 < last → x ≡ leaf → relinked last leaf (relinked leaf 0 x) ≡ 0
relinked-leaf last leaf x l e = ap (relinked last leaf) (at-eq x leaf 0 x e) ∙ at-ne 0 last leaf 0 (λ f. omega arith)

relinked-other : (last leaf x : ℕ) → (x ≡ leaf → ⊥) → relinked last leaf (relinked leaf 0 x) ≡ seat last leaf x
relinked-other last leaf x n = ap (relinked last leaf) (at-ne x leaf 0 x n)

seat-positive : (last leaf x : ℕ) → 0 < leaf → 0 < x → 0 < seat last leaf x
seat-positive last leaf x l m = elim (cases_eq x last) [
  | inl e ↦ (let f = at-eq x last leaf x e in omega (arith, f, l))
  | inr e ↦ (let f = at-ne x last leaf x e in omega (arith, f, m))
]

index-shift : (last leaf x : ℕ) → 0 < leaf → 0 < last → some_index (relinked last leaf (relinked leaf 0 x)) ≡ shift last leaf (some_index x)
index-shift last leaf zero l m =
    ap some_index (relinked-other last leaf 0 (λ f. omega arith) ∙ at-ne 0 last leaf 0 (λ f. omega arith))
index-shift last leaf (suc x) l m = elim (cases_eq (suc x) leaf) [
  | inl e ↦ ap some_index (relinked-leaf last leaf (suc x) m e) ∙ sym (at-eq (suc x) leaf None (Some (seat last leaf (suc x))) e)
  | inr e ↦ ap some_index (relinked-other last leaf (suc x) e) ∙ index-of (seat last leaf (suc x)) (seat-positive last leaf (suc x) l (omega arith)) ∙ sym (shift-other last leaf (suc x) e)
]

-- what a cut is of
pub record IsCutTree (ns un new : List Node) (leaf last : ℕ) : Type 0 where
  pub some : 0 < last
  pub len : suc last ≡ length ns
  pub within : leaf ≤ last
  pub positive : 0 < leaf
  pub ends : (r : Bool) → link r (node_at ns leaf) ≡ 0
  pub unlinked : IsUnlinked ns un leaf
  pub cut : IsCut un new leaf

cut-node : (ns un new : List Node) (leaf last : ℕ) → IsCutTree ns un new leaf last → (j : ℕ) → j ≤ last → (j ≡ leaf → ⊥) → node_at new (seat last leaf j) ≡ node_at un j
cut-node ns un new leaf last c j l n = node-cut un new leaf last c.cut (c.len ∙ sym c.unlinked.len) c.within j l n

cut-link : (ns un new : List Node) (leaf last : ℕ) → IsCutTree ns un new leaf last → (j : ℕ) (r : Bool) → j ≤ last → (j ≡ leaf → ⊥)
    → link r (node_at new (seat last leaf j)) ≡ relinked last leaf (relinked leaf 0 (link r (node_at ns j)))
cut-link ns un new leaf last c j r l n =
    let e : length ns - 1 ≡ last = omega (arith, c.len) in
    ap (link r) (cut-node ns un new leaf last c j l n) ∙ c.unlinked.links j r ∙ ap (λ k. relinked k leaf (relinked leaf 0 (link r (node_at ns j)))) e

step-cut : (ns un new : List Node) (leaf last : ℕ) → IsCutTree ns un new leaf last → (b : Bool) (o : Option ℕ) → ((j : ℕ) → o ≡ Some j → j < length ns) → step new b (shift last leaf o) ≡ shift last leaf (step ns b o)
step-cut ns un new leaf last c b None w = refl
step-cut ns un new leaf last c b (Some j) w = elim (cases_eq j leaf) [
  | inl e ↦ ap (step new b) (at-eq j leaf None (Some (seat last leaf j)) e) ∙ sym (ap (λ x. shift last leaf (some_index x)) (ap (λ k. link b (node_at ns k)) e ∙ c.ends b))
  | inr e ↦ (
      let l : j ≤ last = omega (arith, w j refl, c.len) in
      ap (step new b) (shift-other last leaf j e) ∙ ap some_index (cut-link ns un new leaf last c j b l e) ∙ index-shift last leaf (link b (node_at ns j)) c.positive c.some)
]

way-cut : (ns un new : List Node) (leaf last : ℕ) → IsTree ns → IsCutTree ns un new leaf last → (h : Held) (m : ℕ) → way new h m ≡ shift last leaf (way ns h m)
way-cut ns un new leaf last t c h zero =
    sym (shift-other last leaf 0 (λ f. omega (arith, c.positive)) ∙ ap Some (at-ne 0 last leaf 0 (λ f. omega (arith, c.some))))
way-cut ns un new leaf last t c h (suc m) =
    ap (step new (turn m h)) (way-cut ns un new leaf last t c h m)
    ∙ step-cut ns un new leaf last c (turn m h) (way ns h m) (λ j e. (on-way ns t (omega (arith, c.len)) h m j e).within)

-- a link of the new tree, and the one it was
cut-from : (last leaf y x : ℕ) → 0 < last → relinked last leaf (relinked leaf 0 y) ≡ suc x → (y ≡ leaf → ⊥) × (seat last leaf y ≡ suc x) × (0 < y)
cut-from last leaf y x l e = elim (cases_eq y leaf) [
  | inl f ↦ absurd (omega (arith, relinked-leaf last leaf y l f, e))
  | inr n ↦ (
      let s : seat last leaf y ≡ suc x = sym (relinked-other last leaf y n) ∙ e in (
        n,
        s,
        elim (cases_eq y 0) [
          | inr z ↦ omega arith
          | inl z ↦ (let q : seat last leaf y ≡ y = at-ne y last leaf y (λ f. omega arith) in absurd (omega (arith, q, s, z)))
        ],
      ))
]

cut-below : (ns un new : List Node) (leaf last : ℕ) → IsTree ns → IsCutTree ns un new leaf last → (j y : ℕ) (r : Bool) → j ≤ last → (j ≡ leaf → ⊥) → link r (node_at ns j) ≡ y → (y ≡ leaf → ⊥) → 0 < y
    → IsBelow new r (seat last leaf j) (seat last leaf y)
cut-below ns un new leaf last t c j zero r l n e m p = absurd (omega (arith, p))
cut-below ns un new leaf last t c j (suc y) r l n e m p =
    let w = t.links j y r (omega (arith, c.len)) e in
    let yl : suc y ≤ last = omega (arith, w.within, c.len) in
    let a = cut-node ns un new leaf last c j l n in
    let b = cut-node ns un new leaf last c (suc y) yl m in
    below-same ns new r j (suc y) (seat last leaf j) (seat last leaf (suc y))
    (omega (arith, seat-within last leaf (suc y) c.within yl m, c.cut.len, c.unlinked.len, c.len))
    (ap (λ (k : Node). k.held) a ∙ c.unlinked.held j) (ap (λ (k : Node). k.level) a ∙ c.unlinked.level j)
    (ap (λ (k : Node). k.held) b ∙ c.unlinked.held (suc y)) (ap (λ (k : Node). k.level) b ∙ c.unlinked.level (suc y)) w

pub tree-cut : (ns un new : List Node) (leaf last : ℕ) → IsTree ns → IsCutTree ns un new leaf last → IsTree new
tree-cut ns un new leaf last t c =
    let shorter : length new ≡ last = omega (arith, c.cut.len, c.unlinked.len, c.len) in
    record {
      root = (
          let n : 0 ≡ leaf → ⊥ = λ f. omega (arith, c.positive, f) in
          let a : node_at new 0 ≡ node_at un 0 = ap (node_at new) (sym (at-ne 0 last leaf 0 (λ f. omega (arith, c.some, f)))) ∙ cut-node ns un new leaf last c 0 (omega arith) n in
          ap (λ (k : Node). k.level) a ∙ c.unlinked.level 0 ∙ t.root);
      depth = λ i. elim (cases_lt i last) [
        | inl l ↦ (
            let u = unseat last leaf i l c.within in
            let a = ap (λ (k : Node). k.level) (ap (node_at new) (sym u.3) ∙ cut-node ns un new leaf last c u.0 u.1 u.2) ∙ c.unlinked.level u.0 in
            omega (arith, a, t.depth u.0))
        | inr g ↦ omega (arith, ap (λ (k : Node). k.level) (get_or_past new i no_node (omega (arith, shorter, g))))
      ];
      fits = λ i. elim (cases_lt i last) [
        | inl l ↦ (
            let u = unseat last leaf i l c.within in
            let a = ap (λ (k : Node). k.held) (ap (node_at new) (sym u.3) ∙ cut-node ns un new leaf last c u.0 u.1 u.2) ∙ c.unlinked.held u.0 in
            subst (λ (k : Held). (k.client < 2 ^ 32) × (k.delivery < 2 ^ 32)) (sym a) (t.fits u.0))
        | inr g ↦ subst (λ (k : Node). (k.held.client < 2 ^ 32) × (k.held.delivery < 2 ^ 32)) (sym (get_or_past new i no_node (omega (arith, shorter, g)))) (omega arith, omega arith)
      ];
      on_way = λ i l. (
          let u = unseat last leaf i (omega (arith, shorter, l)) c.within in
          let a = cut-node ns un new leaf last c u.0 u.1 u.2 in
          subst (λ k. way new (node_at new k).held (node_at new k).level ≡ Some k) u.3
          (ap (λ (k : Node). way new k.held k.level) a ∙ ap (λ (k : Held). way new k (node_at un u.0).level) (c.unlinked.held u.0) ∙ ap (way new (node_at ns u.0).held) (c.unlinked.level u.0)
          ∙ way-cut ns un new leaf last t c (node_at ns u.0).held (node_at ns u.0).level ∙ ap (shift last leaf) (t.on_way u.0 (omega (arith, u.1, c.len))) ∙ shift-other last leaf u.0 u.2));
      links = λ i x r l e. (
          let u = unseat last leaf i (omega (arith, shorter, l)) c.within in
          let f : relinked last leaf (relinked leaf 0 (link r (node_at ns u.0))) ≡ suc x =
          sym (cut-link ns un new leaf last c u.0 r u.1 u.2) ∙ ap (λ k. link r (node_at new k)) u.3 ∙ e in
          let g = cut-from last leaf (link r (node_at ns u.0)) x c.some f in
          subst (λ k. IsBelow new r k (suc x)) u.3 (subst (λ k. IsBelow new r (seat last leaf u.0) k) g.1
          (cut-below ns un new leaf last t c u.0 (link r (node_at ns u.0)) r u.1 u.2 refl g.0 g.2)));
    }
