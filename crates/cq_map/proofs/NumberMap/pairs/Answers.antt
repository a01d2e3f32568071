use Rattle.std.proofs.Common.{◌≡◌, ℕ, ◌+◌, ◌<◌, List, [], ◌∷◌, ◌++◌, Some, slice_get, take, length, sym, ap, subst, ◌∙◌, arith}
use Rattle.std.specs.FinMap as map
use Rattle.std.specs.List.Sorted.{IsPermutation}
use Rattle.std.proofs.Math.Seq.{take-length}
use Rattle.std.proofs.lemmas.List.{take_more}
use Rattle.std.proofs.lemmas.Option.{get_or_from_slice_get}
use Rattle.cq_map.proofs.Totals.{entries_permuted, unique}
use Rattle.cq_map.proofs.NumberMap.pairs.Goals as goal

longer : {X : Type 0} (xs list : List X) (i : ℕ) (x : X) → i < length xs → list ≡ take i xs → Some x ≡ slice_get xs i → list ++ x ∷ [] ≡ take (i + 1) xs
longer xs list i x within is at = ap (λ l. l ++ x ∷ []) is ∙ ap (λ y. take i xs ++ y ∷ []) (sym (get_or_from_slice_get xs i x x (sym at))) ∙ sym (take_more xs i x within)

pub loop-i-preserved : goal.loop-i-preserved
loop-i-preserved g c =
    let within : c.loop-i.i < length c.self.inside.entries.entries = omega (arith, c.loop-i-test.true, c.len-i-end.ensures.len) in
    c.in_ok-push.ensures.items ∙ longer c.self.inside.entries.entries c.loop-i.list.items c.loop-i.i _ within c.loop-i.invariant c.in-Some.ensures.entry

pub returns : goal.returns
returns g c =
    let es = c.self.inside.entries.entries in
    let end : c.loop-i.i ≡ length es = omega (arith, c.loop-i-test.false, c.loop-i.auto.i-end, c.len-i-end.ensures.len) in
    let list : c.loop-i.list.items ≡ es = c.loop-i.invariant ∙ ap (λ n. take n es) end ∙ take-length es in
    subst (λ m. IsPermutation (map.entries m) c.loop-i.list.items) c.self.view_is (subst (IsPermutation (map.entries (map.from_entries es))) (sym list) (entries_permuted es (unique es c.len-i-end.ensures.unique)))
