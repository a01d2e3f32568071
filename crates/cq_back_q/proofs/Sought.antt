-- Whether a name is among names in order, by a binary search.
use Rattle.std.proofs.Common.{◌≡◌, ◌≢◌, ⊎_elim, ℕ, zero, suc, ◌+◌, ◌<◌, ◌≤◌, Bool, true, false, List, [], ◌∷◌, length, get_or, Result, Ok, Err, refl, sym, ap, ◌∙◌, arith}
use Rattle.std.specs.Prelude.{◌↔◌, Contains}
use Rattle.std.specs.Result.{is_err}
use Rattle.std.specs.List.{HoldsAt}
use Rattle.std.specs.List.Sorted.{IsBinarySearchResult, IsNonDecreasingBy, IsPartitionPoint, IsSearchInRange, IsSortedBy, IsStrictlySortedBy}
use Rattle.std.specs.Ordering.{is_lt, ordering_index, ordering_reverse}
use Rattle.std.specs.declared.cmp.Ordering.{Ordering}
use Rattle.std.specs.declared.cmp.Ordering.TheVariants.{Less, Equal, Greater}
use Rattle.std.proofs.lemmas.Bool.{cases_lt, false≢true}
use Rattle.std.proofs.lemmas.List.Sorted.{searchable_from_sorted}
use Rattle.std.proofs.lemmas.Map.Keys.{Less-from_sorted}
use Rattle.cq_disk.specs.declared.name.Name.{Name}
use Rattle.cq_disk.specs.Names.{name_cmp}
use Rattle.cq_disk.specs.NamesLemmas.{exact_names, names_total}

-- names in order, as a search wants them
rises : (names : List Name) (name : Name) → IsStrictlySortedBy name_cmp names → IsNonDecreasingBy (λ y. ordering_index (name_cmp y name)) names
rises names name sorted = searchable_from_sorted names_total (λ n. n) names name (λ k d low lt.
    let less : name_cmp (get_or names k d) (get_or names (k + 1) d) ≡ Less = Less-from_sorted name_cmp names k (k + 1) d sorted (omega arith) lt in
    ap is_lt (names_total.antisymm (get_or names (k + 1) d) (get_or names k d) ∙ ap ordering_reverse less))

-- the search finds no place exactly where the name isn't among them
module _ (names : List Name) (name : Name) (sorted : IsStrictlySortedBy name_cmp names) where
  pub equal_self : name_cmp name name ≡ Equal
  equal_self = own (name_cmp name name) (names_total.antisymm name name)
    where
      own : (o : Ordering) → o ≡ ordering_reverse o → o ≡ Equal
      own Less e = cc
      own Equal e = refl
      own Greater e = cc

  found : (i : ℕ) → i < length names → HoldsAt (λ y. name_cmp y name ≡ Equal) names i → Contains names name
  found i inside at = (i, inside, exact_names (get_or names i name) name (at name))

  absent : (i : ℕ) → IsPartitionPoint (λ y. name_cmp y name ≡ Less) (λ y. name_cmp y name ≡ Greater) names i → Contains names name → ⊥
  absent i parts has = ⊎_elim
      (λ (lt : has.0 < i). less_equal (sym (parts.0 has.0 name (omega arith) lt) ∙ ap (λ (y : Name). name_cmp y name) has.2 ∙ equal_self))
      (λ ge. greater_equal (sym (parts.1 has.0 name ge has.1) ∙ ap (λ (y : Name). name_cmp y name) has.2 ∙ equal_self))
      (cases_lt has.0 i)
    where
      less_equal : Less ≡ Equal → ⊥
      less_equal e = cc

      greater_equal : Greater ≡ Equal → ⊥
      greater_equal e = cc

  pub is_absent : (r : Result ℕ ℕ) → IsSearchInRange r (length names) → IsBinarySearchResult (λ y. name_cmp y name) names r → (is_err r ≡ true) ↔ (Contains names name → ⊥)
  is_absent (Ok i) inside is = (λ e. absurd (false≢true e), λ none. absurd (none (found i inside is)))
  is_absent (Err i) inside is = (λ e. absent i (is (rises names name sorted)), λ none. refl)
