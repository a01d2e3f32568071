-- A set of ids, id by id.
use Rattle.std.proofs.Common.{◌≡◌, ℕ, ◌+◌, ◌<◌, Bool, true, false, ◌||◌, cond, nat_eq, List, [], ◌∷◌, ◌++◌, length, get_or, take, refl, sym, ap, subst, ◌∙◌}
use Rattle.std.specs.Prelude.{◌==◌}
use Rattle.std.specs.Ordering.{nat_cmp}
use Rattle.std.specs.Cmp.{unsigned_tied}
use Rattle.std.specs.BTreeSet.{BTreeSet, Updates, contains as has_id}
use Rattle.std.proofs.lemmas.List.{take_more}
use Rattle.std.proofs.lemmas.List.Folds.{list_any-append}
use Rattle.cq_bytes.specs.Numbers.{contains}
use Rattle.cq_queue.specs.Planning.{HasIds}

either_way : (here was : Bool) → cond here true was ≡ (was || (here || false))
either_way true true = refl
either_way true false = refl
either_way false true = refl
either_way false false = refl

-- one more
pub has_more : (ids : List ℕ) (k x : ℕ) (old new : BTreeSet ℕ) → k < length ids → x ≡ get_or ids k 0 → HasIds (take k ids) old → Updates nat_cmp old new x true → HasIds (take (k + 1) ids) new
has_more ids k x old new within is has updates = subst (λ (l : List ℕ). HasIds l new) (sym (take_more ids k 0 within)) (subst (λ (y : ℕ). HasIds (take k ids ++ y ∷ []) new) is
    (λ id. updates.0 id
    ∙ ap (λ (t : Bool). cond t true (has_id nat_cmp old id)) (unsigned_tied x id)
    ∙ ap (λ (t : Bool). cond (x == id) true t) (has id)
    ∙ either_way (x == id) (contains (take k ids) id)
    ∙ sym (list_any-append (λ y. y == id) (take k ids) (x ∷ []))))
