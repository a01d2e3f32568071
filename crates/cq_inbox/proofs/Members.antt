-- What a list of different numbers contains after a push and after a removal.
use Rattle.std.proofs.Common.{◌≡◌, ◌≢◌, ◌⊎◌, inl, inr, ℕ, ◌+◌, ◌-◌, ◌<◌, ◌≤◌, List, [], ◌∷◌, ◌++◌, length, get_or, remove, replicate, Contains, AllPairs, sym, ap, ◌∙◌, subst, ⊎_elim, arith, length-append}
use Rattle.std.proofs.lemmas.Bool.{cases_lt, cases_order}
use Rattle.std.proofs.lemmas.List.{get_or_default, replicate-append-replicate}
use Rattle.std.proofs.lemmas.List.Elements.{Contains-append_left, Contains-push, Contains-push_cases}
use Rattle.std.proofs.lemmas.List.Edits.{length-remove, get_or-remove_below, get_or-remove_above}
use Rattle.cq_inbox.specs.Flags.{Joins, Leaves}

module _ {X : Type 0} where
  -- what is left stood at another place
  pub remove_gives : (xs : List X) (i : ℕ) (x : X) → i < length xs → Contains (remove xs i) x → (k : ℕ) × (k < length xs) × (k ≢ i) × (get_or xs k x ≡ x)
  remove_gives xs i x near h =
      let k : ℕ = h.0 in
      let in_rest : k < length (remove xs i) = h.1 in
      let one_less : length (remove xs i) + 1 ≡ length xs = length-remove xs i near in
      ⊎_elim
      (λ (lt : k < i). (k, (let g : k < length xs = omega arith in g), (λ (e : k ≡ i). absurd (omega arith)), sym (get_or-remove_below xs i x k lt near) ∙ h.2))
      (λ (ge : i ≤ k). (k + 1, (let g : k + 1 < length xs = omega arith in g), (λ (e : k + 1 ≡ i). absurd (omega arith)), sym (get_or-remove_above xs i x k ge near) ∙ h.2))
      (cases_lt k i)

  -- what stood at another place is left
  pub remove_keeps : (xs : List X) (i k : ℕ) (x : X) → i < length xs → k < length xs → k ≢ i → get_or xs k x ≡ x → Contains (remove xs i) x
  remove_keeps xs i k x near at other is =
      let one_less : length (remove xs i) + 1 ≡ length xs = length-remove xs i near in
      ⊎_elim
      (λ (e : k ≡ i). absurd (other e))
      (λ (apart : (k < i) ⊎ (i < k)). ⊎_elim
      (λ (lt : k < i). (k, (let g : k < length (remove xs i) = omega arith in g), get_or-remove_below xs i x k lt near ∙ is))
      (λ (gt : i < k).
      let back : k - 1 + 1 ≡ k = omega arith in (
        k - 1,
        (let g : k - 1 < length (remove xs i) = omega arith in g),
        get_or-remove_above xs i x (k - 1) (omega arith) near ∙ (ap (λ (n : ℕ). get_or xs n x) back ∙ is),
      ))
      apart)
      (cases_order k i)

-- equal numbers of different ones stand at one place
pub same_place : (xs : List ℕ) (i j d : ℕ) → AllPairs (λ x y. x ≢ y) xs → i < length xs → j < length xs → get_or xs i d ≡ get_or xs j d → i ≡ j
same_place xs i j d distinct near at same =
    ⊎_elim
    (λ (e : i ≡ j). e)
    (λ (apart : (i < j) ⊎ (j < i)). ⊎_elim
    (λ (lt : i < j). absurd (distinct i j d lt at same))
    (λ (gt : j < i). absurd (distinct j i d gt near (sym same)))
    apart)
    (cases_order i j)

pub push_joins : (xs : List ℕ) (d : ℕ) → Joins d xs (xs ++ d ∷ [])
push_joins xs d = record {
  more = length-append xs (d ∷ []);
  each = λ x. (
    (λ h. ⊎_elim (λ old. inl old) (λ e. inr (sym e)) (Contains-push_cases xs d x h)),
    (λ h. ⊎_elim (λ old. Contains-append_left xs (d ∷ []) x old) (λ e. subst (Contains (xs ++ d ∷ [])) (sym e) (Contains-push xs d)) h),
  );
}

pub remove_leaves : (xs : List ℕ) (i d : ℕ) → i < length xs → get_or xs i d ≡ d → AllPairs (λ x y. x ≢ y) xs → Leaves d xs (remove xs i)
remove_leaves xs i d near is distinct = record {
  fewer = sym (length-remove xs i near);
  each = λ x. (
    (λ h.
        let g = remove_gives xs i x near h in (
          (g.0, g.1, g.3),
          λ (e : x ≡ d). g.2 (same_place xs g.0 i d distinct g.1 near (get_or_default xs g.0 d x g.1 ∙ (g.3 ∙ (e ∙ sym is)))),
        )),
    (λ h. remove_keeps xs i h.0.0 x near h.0.1 (λ (e : h.0.0 ≡ i). h.1 (sym h.0.2 ∙ (get_or_default xs h.0.0 x d h.0.1 ∙ (ap (λ (n : ℕ). get_or xs n d) e ∙ is)))) h.0.2),
  );
}

-- one more empty list at the end of as many as there are
pub one_more : {X : Type 0} (n : ℕ) (lists new : List (List X)) (made : List X) → lists ≡ replicate n [] → made ≡ [] → new ≡ lists ++ made ∷ [] → new ≡ replicate (n + 1) []
one_more {X} n lists new made so_far empty pushed =
    pushed ∙ (ap (λ (l : List (List X)). l ++ made ∷ []) so_far ∙ (ap (λ (m : List X). replicate n [] ++ m ∷ []) empty ∙ replicate-append-replicate n 1 []))
