-- The names of a queue's files of one kind, by their numbers.
use Rattle.std.proofs.Common.{◌≡◌, ℕ, zero, suc, ◌+◌, ◌<◌, Bool, true, false, List, [], ◌∷◌, ◌++◌, map, refl, sym, ◌∙◌, ap, subst, arith}
use Rattle.std.specs.Prelude.{Contains, cond, filter, ◌==◌}
use Rattle.std.specs.List.{AllByRecursion}
use Rattle.std.proofs.lemmas.Bool.{eq-eqb, or_left, or_right}
use Rattle.cq_disk.specs.declared.name.Name.{Name}
use Rattle.cq_disk.specs.declared.name.Kind.{Kind}
use Rattle.cq_folder.specs.Queue.{RiseAs, has_number}
use Rattle.cq_back_q.specs.Numbers.{Rise, name_with, numbers_in}

module _ (kind : Kind) (queue : ℕ) where
  all_named : (P : Name → Type 0) (ns : List ℕ) → AllByRecursion (λ n. P (name_with kind queue n)) ns → AllByRecursion P (map (name_with kind queue) ns)
  all_named P [] all = tt
  all_named P (n ∷ ns) all = (all.0, all_named P ns all.1)

  -- names of rising numbers rise
  pub rise_as : (ns : List ℕ) → Rise ns → RiseAs (name_with kind queue) (map (name_with kind queue) ns)
  rise_as [] rise = tt
  rise_as (n ∷ ns) rise = (refl, all_named (λ m. n < m.number) ns rise.0, rise_as ns rise.1)

  -- a number that is listed is one of theirs
  pub has_listed : (ns : List ℕ) (n : ℕ) → Contains ns n → has_number (map (name_with kind queue) ns) n ≡ true
  has_listed [] n has = absurd (omega (arith, has.1))
  has_listed (m ∷ ns) n (zero, lt, is) = or_left (m == n) (has_number (map (name_with kind queue) ns) n) (eq-eqb m n is)
  has_listed (m ∷ ns) n (suc i, lt, is) = or_right (m == n) (has_number (map (name_with kind queue) ns) n) (has_listed ns n (i, omega (arith, lt), is))

  -- those that pass a test of their numbers
  pub all_kept : (p : ℕ → Bool) (ns : List ℕ) → AllByRecursion (λ (m : Name). p m.number ≡ true) (map (name_with kind queue) (filter p ns))
  all_kept p [] = tt
  all_kept p (n ∷ ns) = elim (p n) as (λ (b : Bool). p n ≡ b → AllByRecursion (λ (m : Name). p m.number ≡ true) (map (name_with kind queue) (cond b (n ∷ filter p ns) (filter p ns)))) [
    | true ↦ λ is. (is, all_kept p ns)
    | false ↦ λ is. all_kept p ns
  ] refl

-- the numbers of names that rise
pub rise_in : (name_at : ℕ → Name) (names : List Name) → RiseAs name_at names → Rise (numbers_in names)
rise_in name_at [] rise = tt
rise_in name_at (n ∷ names) rise = (lower names rise.1, rise_in name_at names rise.2)
  where
    lower : (ms : List Name) → AllByRecursion (λ (m : Name). n.number < m.number) ms → AllByRecursion (λ k. n.number < k) (numbers_in ms)
    lower [] all = tt
    lower (m ∷ ms) all = (all.0, lower ms all.1)

-- ---- numbers that pass a test

module _ (p : ℕ → Bool) where
  all_filter : (P : ℕ → Type 0) (ns : List ℕ) → AllByRecursion P ns → AllByRecursion P (filter p ns)
  all_filter P [] all = tt
  all_filter P (n ∷ ns) all = elim (p n) as (λ (b : Bool). AllByRecursion P (cond b (n ∷ filter p ns) (filter p ns))) [
    | true ↦ (all.0, all_filter P ns all.1)
    | false ↦ all_filter P ns all.1
  ]

  pub rise_kept : (ns : List ℕ) → Rise ns → Rise (filter p ns)
  rise_kept [] rise = tt
  rise_kept (n ∷ ns) rise = elim (p n) as (λ (b : Bool). Rise (cond b (n ∷ filter p ns) (filter p ns))) [
    | true ↦ (all_filter (λ m. n < m) ns rise.0, rise_kept ns rise.1)
    | false ↦ rise_kept ns rise.1
  ]

  pub has_kept : (ns : List ℕ) (n : ℕ) → p n ≡ true → Contains ns n → Contains (filter p ns) n
  has_kept [] n is has = absurd (omega (arith, has.1))
  has_kept (m ∷ ns) n is (zero, lt, same) = subst (λ (b : Bool). Contains (cond b (m ∷ filter p ns) (filter p ns)) n) (sym (ap p same ∙ is)) (0, omega arith, same)
  has_kept (m ∷ ns) n is (suc i, lt, same) =
      let rest = has_kept ns n is (i, omega (arith, lt), same) in
      elim (p m) as (λ (b : Bool). Contains (cond b (m ∷ filter p ns) (filter p ns)) n) [
        | true ↦ (suc rest.0, omega (arith, rest.1), rest.2)
        | false ↦ rest
      ]

  -- one more number that passes, or doesn't
  pub kept_more : (ns : List ℕ) (n : ℕ) → p n ≡ true → filter p (ns ++ n ∷ []) ≡ filter p ns ++ n ∷ []
  kept_more [] n is = ap (λ (b : Bool). cond b (n ∷ []) []) is
  kept_more (m ∷ ns) n is = elim (p m) as (λ (b : Bool). cond b (m ∷ filter p (ns ++ n ∷ [])) (filter p (ns ++ n ∷ [])) ≡ cond b (m ∷ filter p ns) (filter p ns) ++ n ∷ []) [
    | true ↦ ap (λ (l : List ℕ). m ∷ l) (kept_more ns n is)
    | false ↦ kept_more ns n is
  ]

  pub kept_same : (ns : List ℕ) (n : ℕ) → p n ≡ false → filter p (ns ++ n ∷ []) ≡ filter p ns
  kept_same [] n is = ap (λ (b : Bool). cond b (n ∷ []) []) is
  kept_same (m ∷ ns) n is = elim (p m) as (λ (b : Bool). cond b (m ∷ filter p (ns ++ n ∷ [])) (filter p (ns ++ n ∷ [])) ≡ cond b (m ∷ filter p ns) (filter p ns)) [
    | true ↦ ap (λ (l : List ℕ). m ∷ l) (kept_same ns n is)
    | false ↦ kept_same ns n is
  ]

-- ---- one more name

map_more : {A : Type 0} (f : A → Name) (xs : List A) (x : A) → map f (xs ++ x ∷ []) ≡ map f xs ++ f x ∷ []
map_more f [] x = refl
map_more f (y ∷ xs) x = ap (λ (l : List Name). f y ∷ l) (map_more f xs x)

pub named_more : {A B : Type 0} (f : A → Name) (g : B → Name) (xs : List A) (ys : List B) (x : A) (y : B) → map f xs ≡ map g ys → f x ≡ g y → map f (xs ++ x ∷ []) ≡ map g (ys ++ y ∷ [])
named_more f g xs ys x y same is = map_more f xs x ∙ ap (λ (l : List Name). l ++ f x ∷ []) same ∙ ap (λ (n : Name). map g ys ++ n ∷ []) is ∙ sym (map_more g ys y)
