use Rattle.std.proofs.Common.{◌≡◌, ℕ, ◌-◌, ◌<◌, false, cond, List, [], ◌∷◌, ◌++◌, length, nat_eq, get_or, set, take, vec_len, sym, ap, subst, ◌∙◌, arith, rules}
use Rattle.std.specs.Ordering.{nat_cmp}
use Rattle.std.specs.Cmp.{unsigned_tied}
use Rattle.std.specs.BTreeSet.{BTreeSet, contains}
use Rattle.std.proofs.lemmas.List.{get_or_default}
use Rattle.cq_pack.specs.Holes.{AreIndexed, hole_key}
use Rattle.cq_pack.proofs.Keys.{dropped_indexed}
use Rattle.cq_pack.proofs.Moves.{last_split, front_len}
use Rattle.cq_pack.proofs.sizes.Sizes.drop_last.Goals as goal

dropped : (sizes values : List ℕ) (keys keys' : BTreeSet ℕ) (size n k : ℕ) → AreIndexed sizes values keys → 0 < length sizes → n ≡ length sizes → size ≡ get_or sizes (n - 1) 0 → k ≡ hole_key size (n - 1)
    → ((q : ℕ) → contains nat_cmp keys' q ≡ cond (nat_eq k q) false (contains nat_cmp keys q)) → AreIndexed (take (length sizes - 1) sizes) (set values (n - 1) 0) keys'
dropped sizes values keys keys' size n k are some count was key changed =
    let front = take (length sizes - 1) sizes in
    let last : n - 1 ≡ length front = omega (arith, some, count, front_len sizes 0 some) in
    subst (λ i. AreIndexed front (set values i 0) keys') (sym last)
    (dropped_indexed sizes values keys keys' front size are
    (last_split sizes 0 some ∙ ap (λ x. front ++ x ∷ []) (ap (λ i. get_or sizes (i - 1) 0) (sym count) ∙ sym was))
    (λ q. changed q ∙ ap (λ i. cond (nat_eq i q) false (contains nat_cmp keys q)) (key ∙ ap (hole_key size) last)))

pub invariant_of-self : goal.invariant_of-self
invariant_of-self c =
    let list = c.self.inside.sizes.items in
    let size : vec_len c.self.inside.sizes ≡ length list = search rules in
    let some : 0 < length list = subst (λ (l : List ℕ). 0 < length l) (sym c.self.view_is) c.requires in
    let n : c.len-last.result ≡ length list = c.len-last.ensures ∙ size in
    let rest : c.pop.new.self.items ≡ take (length list - 1) list = c.pop.ensures.rest ∙ ap (λ n. take (n - 1) list) size in
    let was = c.index.ensures ∙ get_or_default list (c.len-last.result - 1) c.index.result.now 0 (omega (arith, n, some)) in
    subst (λ (l : List ℕ). AreIndexed l c.set.new.self c.remove.new.self) (sym rest)
    (subst (λ (l : List ℕ). AreIndexed (take (length list - 1) list) l c.remove.new.self) (sym c.set.ensures)
    (dropped list c.self.inside.greatest c.self.inside.keys c.remove.new.self c.index.result.now c.len-last.result c.key.result c.self.invariant some n was c.key.ensures
    (λ q. c.remove.ensures.updates.0 q ∙ ap (λ t. cond t false (contains nat_cmp c.self.inside.keys q)) (unsigned_tied c.key.result q))))
