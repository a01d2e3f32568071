use Rattle.std.proofs.Common.{◌≡◌, ℕ, ◌+◌, ◌≤◌, ◌<◌, ◌^◌, true, cond, List, [], ◌∷◌, ◌++◌, length, nat_eq, get_or, set, take, sym, ap, subst, ◌∙◌, arith, rules, length-take}
use Rattle.std.specs.Ordering.{nat_cmp}
use Rattle.std.specs.Cmp.{unsigned_tied}
use Rattle.std.specs.BTreeSet.{BTreeSet, contains}
use Rattle.std.proofs.lemmas.List.{take_more, length-set}
use Rattle.cq_pack.specs.Holes.{AreIndexed, hole_key}
use Rattle.cq_pack.proofs.Keys.{pushed_indexed}
use Rattle.cq_pack.proofs.sizes.Sizes.of.Goals as goal

pushed : (sizes values : List ℕ) (hole k : ℕ) (keys keys' : BTreeSet ℕ) → hole < length sizes → length sizes ≤ length values → length sizes < 2 ^ 64 → AreIndexed (take hole sizes) values keys → k ≡ hole_key (get_or sizes hole 0) hole
    → ((q : ℕ) → contains nat_cmp keys' q ≡ cond (nat_eq k q) true (contains nat_cmp keys q)) → AreIndexed (take (hole + 1) sizes) (set values hole (get_or sizes hole 0)) keys'
pushed sizes values hole k keys keys' within room few are key changed =
    let n : length (take hole sizes) ≡ hole = omega (arith, length-take hole sizes, within) in
    let size = get_or sizes hole 0 in
    subst (λ l. AreIndexed l (set values hole size) keys') (sym (take_more sizes hole 0 within))
    (subst (λ i. AreIndexed (take hole sizes ++ size ∷ []) (set values i size) keys') n
    (pushed_indexed (take hole sizes) values keys keys' size are (omega (arith, n, within, room)) (omega (arith, n, within, few))
    (λ q. changed q ∙ ap (λ i. cond (nat_eq i q) true (contains nat_cmp keys q)) (key ∙ ap (hole_key size) (sym n)))))

pub loop-hole-preserved : goal.loop-hole-preserved
loop-hole-preserved c =
    let list = c.deref-size-items.result.now in
    let within : c.loop-hole.hole < length list = omega (arith, c.loop-hole-test.true, c.deref-size-items.ensures.len) in
    let few : length list < 2 ^ 64 = search rules in
    let here = pushed list c.loop-hole.greatest c.loop-hole.hole c.key.result c.loop-hole.keys c.insert.new.self within c.loop-hole.invariant.1 few c.loop-hole.invariant.0 c.key.ensures
    (λ q. c.in_ok-insert.ensures.updates.0 q ∙ ap (λ t. cond t true (contains nat_cmp c.loop-hole.keys q)) (unsigned_tied c.key.result q)) in (
      subst (λ (l : List ℕ). AreIndexed (take (c.loop-hole.hole + 1) list) l c.insert.new.self) (sym c.set.ensures) here,
      omega (arith, c.loop-hole.invariant.1, ap length c.set.ensures, length-set c.loop-hole.greatest c.loop-hole.hole (get_or list c.loop-hole.hole 0)),
    )
