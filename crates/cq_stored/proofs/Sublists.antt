-- Sublists of filtered and of joined lists.
use Rattle.std.proofs.Common.{◌≡◌, inl, inr, ⊎_elim, Bool, true, false, cond, List, [], ◌∷◌, ◌++◌, filter, refl, sym, ap, ◌∙◌, subst}
use Rattle.cq_journal.specs.Lists.{IsIn, IsSublist}
use Rattle.cq_folder.proofs.Splits.{later_sublist}

-- a sublist all of which passes a test is one of what passes it
pub sublist_filter : {A : Type 0} (p : A → Bool) (l xs : List A) → IsSublist l xs → ((x : A) → IsIn l x → p x ≡ true) → IsSublist l (filter p xs)
sublist_filter p [] xs s all = none (filter p xs)
  where
    none : {A : Type 0} (xs : List A) → IsSublist [] xs
    none [] = tt
    none (x ∷ xs) = tt
sublist_filter p (a ∷ l) [] s all = absurd s
sublist_filter p (a ∷ l) (x ∷ xs) s all = ⊎_elim
    (λ both.
    let yes' : p x ≡ true = ap p (sym both.0) ∙ all a (inl refl) in
    subst (λ (b : Bool). IsSublist (a ∷ l) (cond b (x ∷ filter p xs) (filter p xs))) (sym yes') (inl (both.0, sublist_filter p l xs both.1 (λ y there. all y (inr there)))))
    (λ later.
    (elim (p x) as (λ (b : Bool). IsSublist (a ∷ l) (cond b (x ∷ filter p xs) (filter p xs))) [
      | true ↦ inr (sublist_filter p (a ∷ l) xs later all)
      | false ↦ sublist_filter p (a ∷ l) xs later all
    ])) s

-- a sublist of two lists with nothing of the second is one of the first
pub sublist_first : {A : Type 0} (l xs ys : List A) → IsSublist l (xs ++ ys) → ((y : A) → IsIn l y → IsIn ys y → ⊥) → IsSublist l xs
sublist_first [] xs ys s apart = none xs
  where
    none : {A : Type 0} (xs : List A) → IsSublist [] xs
    none [] = tt
    none (x ∷ xs) = tt
sublist_first (a ∷ l) [] ys s apart = absurd (apart a (inl refl) (first_in ys s))
  where
    first_in : (ys : List _) → IsSublist (a ∷ l) ys → IsIn ys a
    first_in [] s = absurd s
    first_in (y ∷ ys) s = ⊎_elim (λ both. inl (sym both.0)) (λ later. inr (first_in ys later)) s
sublist_first (a ∷ l) (x ∷ xs) ys s apart = ⊎_elim
    (λ both. inl (both.0, sublist_first l xs ys both.1 (λ y there. apart y (inr there))))
    (λ later. inr (sublist_first (a ∷ l) xs ys later apart)) s

-- what a filter lets through is a sublist
pub filter_sublist : {A : Type 0} (p : A → Bool) (xs : List A) → IsSublist (filter p xs) xs
filter_sublist p [] = tt
filter_sublist p (x ∷ xs) = elim (p x) as (λ (b : Bool). IsSublist (cond b (x ∷ filter p xs) (filter p xs)) (x ∷ xs)) [
  | true ↦ inl (refl, filter_sublist p xs)
  | false ↦ later_sublist (filter p xs) xs x (filter_sublist p xs)
]

pub of_filter : {A : Type 0} (p : A → Bool) (xs : List A) (x : A) → IsIn (filter p xs) x → p x ≡ true
of_filter p [] x there = absurd there
of_filter p (y ∷ xs) x there = (elim (p y) as (λ (b : Bool). p y ≡ b → IsIn (cond b (y ∷ filter p xs) (filter p xs)) x → p x ≡ true) [
  | true ↦ λ is there. ⊎_elim (λ here. ap p (sym here) ∙ is) (λ later. of_filter p xs x later) there
  | false ↦ λ is there. of_filter p xs x there
]) refl there
