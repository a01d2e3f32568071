-- Lists of messages: their ids, filters and bodies.
use Rattle.std.proofs.Common.{◌≡◌, ℕ, Bool, true, false, not, cond, List, [], ◌∷◌, refl, sym, ap, ◌∙◌, subst}
use Rattle.std.specs.Prelude.{◌==◌, ◌&&◌, filter}
use Rattle.std.specs.List.{list_any}
use Rattle.std.proofs.lemmas.Bool.{or_parts, or_from, eqb-false, ne_eqb, eq-eqb, cond-true, cond-false}
use Rattle.cq_journal.specs.declared.event.Message.{Message}
use Rattle.cq_journal.specs.History.{has_id}
use Rattle.cq_journal.specs.Lists.{HasDistinctIds}
use Rattle.cq_journal.specs.Asks.{body_of}

pub any-filter : {A : Type 0} (t p : A → Bool) (xs : List A) → list_any t xs ≡ false → list_any t (filter p xs) ≡ false
any-filter t p [] h = refl
any-filter t p (x ∷ xs) h =
    let parts = or_parts _ _ h in
    elim (p x) as (λ b. list_any t (cond b (x ∷ filter p xs) (filter p xs)) ≡ false)
    [ true ↦ or_from _ _ parts.0 (any-filter t p xs parts.1) | false ↦ any-filter t p xs parts.1 ]

pub filter-congr : {A : Type 0} (p q : A → Bool) → ((x : A) → p x ≡ q x) → (xs : List A) → filter p xs ≡ filter q xs
filter-congr p q h [] = refl
filter-congr p q h (x ∷ xs) =
    ap (λ b. cond b (x ∷ filter p xs) (filter p xs)) (h x) ∙ ap (λ ys. cond (q x) (x ∷ ys) ys) (filter-congr p q h xs)

pub filter-refine : {A : Type 0} (p q r : A → Bool) → ((x : A) → p x ≡ (q x && r x)) → (xs : List A) → filter p xs ≡ filter r (filter q xs)
filter-refine p q r h [] = refl
filter-refine p q r h (x ∷ xs) =
    ap (λ b. cond b (x ∷ filter p xs) (filter p xs)) (h x)
    ∙ ap (λ ys. cond (q x && r x) (x ∷ ys) ys) (filter-refine p q r h xs)
    ∙ elim (q x) as (λ b. cond (b && r x) (x ∷ filter r (filter q xs)) (filter r (filter q xs)) ≡ filter r (cond b (x ∷ filter q xs) (filter q xs))) [ true ↦ refl | false ↦ refl ]

-- a filter by another id keeps what has not this id
pub filter-others : (id : ℕ) (ms : List Message) → has_id ms id ≡ false → filter (λ m. not (id == m.id)) ms ≡ ms
filter-others id [] h = refl
filter-others id (m ∷ ms) h =
    let parts = or_parts _ _ h in
    let other : (id == m.id) ≡ false = ne_eqb id m.id (λ e. eqb-false m.id id parts.0 (sym e)) in
    ap (λ b. cond (not b) (m ∷ filter (λ k. not (id == k.id)) ms) (filter (λ k. not (id == k.id)) ms)) other ∙ ap (λ ys. m ∷ ys) (filter-others id ms parts.1)

pub distinct-filter : (p : Message → Bool) (ms : List Message) → HasDistinctIds ms → HasDistinctIds (filter p ms)
distinct-filter p [] d = tt
distinct-filter p (m ∷ ms) d =
    elim (p m) as (λ b. HasDistinctIds (cond b (m ∷ filter p ms) (filter p ms)))
    [ true ↦ (any-filter (λ k. k.id == m.id) p ms d.0, distinct-filter p ms d.1) | false ↦ distinct-filter p ms d.1 ]

-- the first that a filter keeps has the body that is found by its id
pub body_of-kept : (p : Message → Bool) (xs : List Message) (m : Message) (ms : List Message) → HasDistinctIds xs → filter p xs ≡ m ∷ ms → body_of m.id xs ≡ m.body
body_of-kept p [] m ms d e = cc
body_of-kept p (x ∷ xs) m ms d e =
    elim (p x) as (λ b. cond b (x ∷ filter p xs) (filter p xs) ≡ m ∷ ms → body_of m.id (x ∷ xs) ≡ m.body) [
      | true ↦ λ e. (let same : x ≡ m = cc in
          subst (λ (k : Message). body_of k.id (x ∷ xs) ≡ k.body) same (cond-true (x.id == x.id) x.body (body_of x.id xs) (eq-eqb x.id x.id refl)))
      | false ↦ λ e. (
          let unlike : has_id (m ∷ ms) x.id ≡ false = subst (λ ks. has_id ks x.id ≡ false) e (any-filter (λ k. k.id == x.id) p xs d.0) in
          let other : (x.id == m.id) ≡ false = ne_eqb x.id m.id (λ e. eqb-false m.id x.id (or_parts _ _ unlike).0 (sym e)) in
          cond-false (x.id == m.id) x.body (body_of m.id xs) other ∙ body_of-kept p xs m ms d.1 e)
    ] e
