use Rattle.std.proofs.Common.{◌≡◌, ◌≢◌, ℕ, ◌-◌, ◌≤◌, ◌<◌, true, false, cond, List, length, nat_eq, get_or, set, sym, ap, subst, ◌∙◌, arith}
use Rattle.std.specs.Ordering.{nat_cmp}
use Rattle.std.specs.Cmp.{unsigned_tied}
use Rattle.std.specs.BTreeSet.{BTreeSet, contains}
use Rattle.std.proofs.lemmas.List.{get_or_default}
use Rattle.cq_pack.specs.Holes.{AreIndexed, hole_key}
use Rattle.cq_pack.proofs.Keys.{changed_indexed}
use Rattle.cq_pack.proofs.sizes.Sizes.shrink.Goals as goal

changed : (sizes values : List ℕ) (keys middle keys' : BTreeSet ℕ) (hole old new k k' : ℕ) → AreIndexed sizes values keys → hole < length sizes → old ≡ get_or sizes hole 0 → new ≢ old → k ≡ hole_key new hole → k' ≡ hole_key old hole
    → ((q : ℕ) → contains nat_cmp middle q ≡ cond (nat_eq k q) true (contains nat_cmp keys q)) → ((q : ℕ) → contains nat_cmp keys' q ≡ cond (nat_eq k' q) false (contains nat_cmp middle q)) → AreIndexed (set sizes hole new) (set values hole new) keys'
changed sizes values keys middle keys' hole old new k k' are within was other put away more less =
    changed_indexed sizes values keys keys' hole new are within (λ e. other (e ∙ sym was))
    (λ q. less q ∙ (λ i. cond (nat_eq ((away ∙ ap (λ n. hole_key n hole) was) i) q) false (more q i)) ∙ ap (λ n. cond (nat_eq (hole_key (get_or sizes hole 0) hole) q) false (cond (nat_eq n q) true (contains nat_cmp keys q))) put)

pub invariant_of-self-2 : goal.invariant_of-self-2
invariant_of-self-2 c =
    let list = c.self.inside.sizes.items in
    let within : c.args.hole < length list = subst (λ (l : List ℕ). c.args.hole < length l) (sym c.self.view_is) c.requires.within in
    let room : c.args.len ≤ get_or list c.args.hole 0 = subst (λ (l : List ℕ). c.args.len ≤ get_or l c.args.hole 0) (sym c.self.view_is) c.requires.room in
    let old : c.index-old.result.now ≡ get_or list c.args.hole 0 = c.index-old.ensures ∙ get_or_default list c.args.hole c.index-old.result.now 0 within in
    let new = c.index-old.result.now - c.args.len in
    let other : new ≢ c.index-old.result.now = omega (arith, old, room, c.requires.some) in
    subst (λ (l : List ℕ). AreIndexed (set list c.args.hole new) l c.remove.new.self) (sym c.set.ensures)
    (changed list c.self.inside.greatest c.self.inside.keys c.insert.new.self c.remove.new.self c.args.hole c.index-old.result.now new c.key.result c.key-2.result c.self.invariant within old other c.key.ensures c.key-2.ensures
    (λ q. c.in_ok-insert.ensures.updates.0 q ∙ ap (λ t. cond t true (contains nat_cmp c.self.inside.keys q)) (unsigned_tied c.key.result q))
    (λ q. c.remove.ensures.updates.0 q ∙ ap (λ t. cond t false (contains nat_cmp c.insert.new.self q)) (unsigned_tied c.key-2.result q)))
