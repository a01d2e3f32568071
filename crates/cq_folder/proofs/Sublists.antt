-- Sublists, and messages that stand in lists.
use Rattle.cq_journal.specs.Lists.{HasDistinctIds, IsSublist, IsIn}
use Rattle.std.proofs.Common.{◌≡◌, ◌⊎◌, inl, inr, ⊎_elim, Bool, true, false, List, [], ◌∷◌, ◌++◌, refl, sym, ap, ◌∙◌, subst}
use Rattle.std.specs.Prelude.{◌==◌, ◌||◌}
use Rattle.std.specs.List.{list_any, AllByRecursion}
use Rattle.std.proofs.lemmas.Bool.{or_parts, or_from, eq-eqb, false≢true}
use Rattle.std.proofs.lemmas.List.Folds.{list_any-append}
use Rattle.cq_journal.specs.declared.event.Message.{Message}
use Rattle.cq_journal.specs.History.{has_id}

pub sublist_self : {A : Type 0} (l : List A) → IsSublist l l
sublist_self [] = tt
sublist_self (x ∷ xs) = inl (refl, sublist_self xs)

pub sublist_front : {A : Type 0} (l xs ys : List A) → IsSublist l xs → IsSublist l (xs ++ ys)
sublist_front [] [] [] s = tt
sublist_front [] [] (y ∷ ys) s = tt
sublist_front [] (x ∷ xs) ys s = tt
sublist_front (a ∷ l) [] ys s = absurd s
sublist_front (a ∷ l) (x ∷ xs) ys s = ⊎_elim (λ both. inl (both.0, sublist_front l xs ys both.1)) (λ later. inr (sublist_front (a ∷ l) xs ys later)) s

pub sublist_append : {A : Type 0} (l xs m ys : List A) → IsSublist l xs → IsSublist m ys → IsSublist (l ++ m) (xs ++ ys)
sublist_append [] [] m ys s t = t
sublist_append [] (x ∷ xs) [] ys s t = tt
sublist_append [] (x ∷ xs) (y ∷ m) ys s t = inr (sublist_append [] xs (y ∷ m) ys (none xs) t)
  where
    none : {A : Type 0} (xs : List A) → IsSublist [] xs
    none [] = tt
    none (x ∷ xs) = tt
sublist_append (a ∷ l) [] m ys s t = absurd s
sublist_append (a ∷ l) (x ∷ xs) m ys s t = ⊎_elim (λ both. inl (both.0, sublist_append l xs m ys both.1 t)) (λ later. inr (sublist_append (a ∷ l) xs m ys later t)) s

pub sublist_in : {A : Type 0} (l xs : List A) (y : A) → IsSublist l xs → IsIn l y → IsIn xs y
sublist_in [] xs y s there = absurd there
sublist_in (a ∷ l) [] y s there = absurd s
sublist_in (a ∷ l) (x ∷ xs) y s there = ⊎_elim
    (λ both. ⊎_elim (λ here. inl (sym both.0 ∙ here)) (λ later. inr (sublist_in l xs y both.1 later)) there)
    (λ later. inr (sublist_in (a ∷ l) xs y later there)) s

-- ---- tests of lists

pub any_left : {A : Type 0} (p : A → Bool) (xs ys : List A) → list_any p (xs ++ ys) ≡ false → list_any p xs ≡ false
any_left p xs ys h = (or_parts (list_any p xs) (list_any p ys) (sym (list_any-append p xs ys) ∙ h)).0

pub any_both : {A : Type 0} (p : A → Bool) (xs ys : List A) → list_any p xs ≡ false → list_any p ys ≡ false → list_any p (xs ++ ys) ≡ false
any_both p xs ys a b = list_any-append p xs ys ∙ or_from (list_any p xs) (list_any p ys) a b

pub any_first : {A : Type 0} (p : A → Bool) (xs ys : List A) → list_any p xs ≡ true → list_any p (xs ++ ys) ≡ true
any_first p xs ys a = list_any-append p xs ys ∙ ap (λ (b : Bool). b || list_any p ys) a

pub sublist_any : {A : Type 0} (p : A → Bool) (l xs : List A) → IsSublist l xs → list_any p xs ≡ false → list_any p l ≡ false
sublist_any p [] xs s none = refl
sublist_any p (a ∷ l) [] s none = absurd s
sublist_any p (a ∷ l) (x ∷ xs) s none =
    let parts = or_parts (p x) (list_any p xs) none in
    ⊎_elim
    (λ both. or_from (p a) (list_any p l) (ap p both.0 ∙ parts.0) (sublist_any p l xs both.1 parts.1))
    (λ later. sublist_any p (a ∷ l) xs later parts.1) s

-- ids that are distinct stay so in a part
pub sublist_distinct : (l xs : List Message) → IsSublist l xs → HasDistinctIds xs → HasDistinctIds l
sublist_distinct [] xs s d = tt
sublist_distinct (a ∷ l) [] s d = absurd s
sublist_distinct (a ∷ l) (x ∷ xs) s d = ⊎_elim
    (λ both. (subst (λ (m : Message). has_id l m.id ≡ false) (sym both.0) (sublist_any (λ m. m.id == x.id) l xs both.1 d.0), sublist_distinct l xs both.1 d.1))
    (λ later. sublist_distinct (a ∷ l) xs later d.1) s

-- ---- what stands in a list

pub in_append : {A : Type 0} (xs ys : List A) (y : A) → IsIn (xs ++ ys) y → IsIn xs y ⊎ IsIn ys y
in_append [] ys y there = inr there
in_append (x ∷ xs) ys y there = ⊎_elim (λ here. inl (inl here)) (λ later. ⊎_elim (λ left. inl (inr left)) (λ right. inr right) (in_append xs ys y later)) there

pub or_true : (a b : Bool) → b ≡ true → (a || b) ≡ true
or_true true b e = refl
or_true false b e = e

pub in_has : (l : List Message) (m : Message) → IsIn l m → has_id l m.id ≡ true
in_has [] m there = absurd there
in_has (x ∷ xs) m there = ⊎_elim
    (λ here. ap (λ (b : Bool). b || has_id xs m.id) (eq-eqb x.id m.id (ap (λ (k : Message). k.id) here)))
    (λ later. or_true (x.id == m.id) (has_id xs m.id) (in_has xs m later)) there

pub all_in : {A : Type 0} (P : A → Type 0) (xs : List A) (y : A) → AllByRecursion P xs → IsIn xs y → P y
all_in P [] y all there = absurd there
all_in P (x ∷ xs) y all there = ⊎_elim (λ here. subst P here all.0) (λ later. all_in P xs y all.1 later) there

pub clash : {A : Type 0} (b : Bool) → b ≡ false → b ≡ true → A
clash b isnt is = absurd (false≢true (sym isnt ∙ is))
