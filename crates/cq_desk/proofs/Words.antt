-- The words of a client's open deliveries, as these come and go.
use Rattle.std.proofs.Common.{◌≡◌, ℕ, zero, suc, ◌+◌, ◌<◌, Bool, true, false, not, cond, List, [], ◌∷◌, ◌++◌, drop, length, get_or, Contains, refl, sym, ap, ◌∙◌, subst, arith, inl, inr, length-append}
use Rattle.std.specs.Prelude.{◌==◌, ◌||◌}
use Rattle.std.proofs.lemmas.Bool.{or_left, or_right, or_parts, or_cases, cases_Bool, cases_eq, eq-eqb, eqb-true, ne_eqb, both_ways}
use Rattle.cq_bytes.specs.Numbers.{contains}
use Rattle.cq_inbox.specs.Flags.{Joins, Leaves}
use Rattle.cq_client.specs.declared.open.OpenDelivery.{OpenDelivery}
use Rattle.cq_client.specs.Client.{without}
use Rattle.cq_desk.specs.Desk.{AreOnce, HasWords, numbers_of}

pub from_contains : (xs : List ℕ) (d : ℕ) → contains xs d ≡ true → Contains xs d
from_contains [] d h = cc
from_contains (x ∷ xs) d h = elim (cases_eq x d) [
  | inl same ↦ (0, omega arith, same)
  | inr other ↦ (
      let r = from_contains xs d (elim (or_cases (x == d) (contains xs d) h) [ inl e ↦ absurd (both_ways _ (ne_eqb x d other) e) | inr e ↦ e ]) in
      let k : ℕ = r.0 in
      let near : k < length xs = r.1 in
      (suc k, (let g : suc k < length (x ∷ xs) = omega arith in g), r.2))
]

pub to_contains : (xs : List ℕ) (d : ℕ) → Contains xs d → contains xs d ≡ true
to_contains xs d h = by xs h.0 h.1 h.2
  where
    by : (xs : List ℕ) (k : ℕ) → k < length xs → get_or xs k d ≡ d → contains xs d ≡ true
    by [] k l e = absurd (omega arith)
    by (x ∷ xs) zero l e = or_left _ _ (eq-eqb x d e)
    by (x ∷ xs) (suc k) l e = or_right _ _ (by xs k (omega arith) e)

-- a test of words by what they contain
same_test : (xs ys : List ℕ) (b : Bool) (d : ℕ) → (Contains xs d → b ≡ true) → (b ≡ true → Contains xs d) → contains xs d ≡ b
same_test xs ys b d to back = elim (cases_Bool b) [
  | inl t ↦ to_contains xs d (back t) ∙ sym t
  | inr f ↦ elim (cases_Bool (contains xs d)) [
    | inl has ↦ absurd (both_ways _ f (to (from_contains xs d has)))
    | inr none ↦ none ∙ sym f
  ]
]

numbers-more : (os : List OpenDelivery) (o : OpenDelivery) (d : ℕ) → contains (numbers_of (os ++ o ∷ [])) d ≡ (contains (numbers_of os) d || (o.delivery == d || false))
numbers-more [] o d = refl
numbers-more (x ∷ os) o d = ap (λ b. x.delivery == d || b) (numbers-more os o d) ∙ assoc (x.delivery == d) (contains (numbers_of os) d) (o.delivery == d || false)
  where
    assoc : (a b c : Bool) → (a || (b || c)) ≡ ((a || b) || c)
    assoc true b c = refl
    assoc false b c = refl

-- one more is open
pub words-join : (words more : List ℕ) (os : List OpenDelivery) (o : OpenDelivery) → HasWords words os → Joins o.delivery words more → HasWords more (os ++ o ∷ [])
words-join words more os o h j = record {
  count = omega (arith, h.count, j.more, length-append os (o ∷ []));
  each = λ d. same_test more words (contains (numbers_of (os ++ o ∷ [])) d) d
      (λ has. numbers-more os o d ∙ elim ((j.each d).0 has) [
        | inl old ↦ or_left _ _ (sym (h.each d) ∙ to_contains words d old)
        | inr new ↦ or_right (contains (numbers_of os) d) (o.delivery == d || false) (or_left (o.delivery == d) false (eq-eqb o.delivery d (sym new)))
      ])
      (λ has. (j.each d).1 (elim (or_cases (contains (numbers_of os) d) (o.delivery == d || false) (sym (numbers-more os o d) ∙ has)) [
        | inl old ↦ inl (from_contains words d (h.each d ∙ old))
        | inr new ↦ elim (or_cases (o.delivery == d) false new) [ inl e ↦ inr (sym (eqb-true o.delivery d e)) | inr bad ↦ absurd (both_ways false refl bad) ]
      ]));
}

-- ---- one fewer is open

numbers-without : (os : List OpenDelivery) (x d : ℕ) → contains (numbers_of (without x os)) d ≡ cond (x == d) false (contains (numbers_of os) d)
numbers-without [] x d = elim (x == d) as (λ b. false ≡ cond b false false) [ true ↦ refl | false ↦ refl ]
numbers-without (o ∷ os) x d = elim (cases_eq o.delivery x) [
  | inl same ↦ ap (λ b. contains (numbers_of (cond (not b) (o ∷ without x os) (without x os))) d) (eq-eqb o.delivery x same) ∙ numbers-without os x d
      ∙ (elim (cases_Bool (x == d)) [
        | inl here ↦ ap (λ b. cond b false (contains (numbers_of os) d)) here ∙ sym (ap (λ b. cond b false (o.delivery == d || contains (numbers_of os) d)) here)
        | inr there ↦ ap (λ b. cond b false (contains (numbers_of os) d)) there ∙ sym (ap (λ b. cond b false (o.delivery == d || contains (numbers_of os) d)) there ∙ ap (λ b. b || contains (numbers_of os) d) (ap (λ y. y == d) same ∙ there))
      ])
  | inr other ↦ ap (λ b. contains (numbers_of (cond (not b) (o ∷ without x os) (without x os))) d) (ne_eqb o.delivery x other)
      ∙ ap (λ b. o.delivery == d || b) (numbers-without os x d)
      ∙ (elim (cases_eq x d) [
        | inl here ↦ ap (λ b. o.delivery == d || cond b false (contains (numbers_of os) d)) (eq-eqb x d here) ∙ ap (λ b. b || false) (ne_eqb o.delivery d (λ e. other (e ∙ sym here))) ∙ sym (ap (λ b. cond b false (o.delivery == d || contains (numbers_of os) d)) (eq-eqb x d here))
        | inr there ↦ ap (λ b. o.delivery == d || cond b false (contains (numbers_of os) d)) (ne_eqb x d there) ∙ sym (ap (λ b. cond b false (o.delivery == d || contains (numbers_of os) d)) (ne_eqb x d there))
      ])
]

pub without-absent : (os : List OpenDelivery) (x : ℕ) → contains (numbers_of os) x ≡ false → without x os ≡ os
without-absent [] x h = refl
without-absent (o ∷ os) x h =
    let parts = or_parts _ _ h in ap (λ b. cond (not b) (o ∷ without x os) (without x os)) parts.0 ∙ ap (λ (l : List OpenDelivery). o ∷ l) (without-absent os x parts.1)

length-without : (os : List OpenDelivery) (x : ℕ) → AreOnce (numbers_of os) → contains (numbers_of os) x ≡ true → length os ≡ length (without x os) + 1
length-without [] x u h = cc
length-without (o ∷ os) x u h = elim (cases_eq o.delivery x) [
  | inl same ↦ (
      let none : contains (numbers_of os) x ≡ false = ap (contains (numbers_of os)) (sym same) ∙ u.0 in
      let is : without x (o ∷ os) ≡ os = ap (λ b. cond (not b) (o ∷ without x os) (without x os)) (eq-eqb o.delivery x same) ∙ without-absent os x none in
      omega (arith, ap length is))
  | inr other ↦ (
      let is : without x (o ∷ os) ≡ o ∷ without x os = ap (λ b. cond (not b) (o ∷ without x os) (without x os)) (ne_eqb o.delivery x other) in
      let there : contains (numbers_of os) x ≡ true = elim (or_cases (o.delivery == x) (contains (numbers_of os) x) h) [ inl e ↦ absurd (both_ways _ (ne_eqb o.delivery x other) e) | inr e ↦ e ] in
      omega (arith, ap length is, length-without os x u.1 there))
]

pub words-leave : (words fewer : List ℕ) (os : List OpenDelivery) (x : ℕ) → HasWords words os → AreOnce (numbers_of os) → contains (numbers_of os) x ≡ true → Leaves x words fewer → HasWords fewer (without x os)
words-leave words fewer os x h u there l = record {
  count = omega (arith, h.count, l.fewer, length-without os x u there);
  each = λ d. same_test fewer words (contains (numbers_of (without x os)) d) d
      (λ has. (
      let both = (l.each d).0 has in
      numbers-without os x d ∙ ap (λ b. cond b false (contains (numbers_of os) d)) (ne_eqb x d (λ e. both.1 (sym e))) ∙ sym (h.each d) ∙ to_contains words d both.0))
      (λ has. (l.each d).1 (elim (cases_eq x d) [
        | inl same ↦ absurd (both_ways (contains (numbers_of (without x os)) d) (numbers-without os x d ∙ ap (λ b. cond b false (contains (numbers_of os) d)) (eq-eqb x d same)) has)
        | inr other ↦ (
          from_contains words d (h.each d ∙ sym (ap (λ b. cond b false (contains (numbers_of os) d)) (ne_eqb x d other)) ∙ sym (numbers-without os x d) ∙ has),
          λ e. other (sym e),
        )
      ]));
}

-- the first one leaves
pub words-first : (words fewer : List ℕ) (o : OpenDelivery) (os : List OpenDelivery) → HasWords words (o ∷ os) → AreOnce (numbers_of (o ∷ os)) → Leaves o.delivery words fewer → HasWords fewer os
words-first words fewer o os h u l =
    let is : without o.delivery (o ∷ os) ≡ os = ap (λ b. cond (not b) (o ∷ without o.delivery os) (without o.delivery os)) (eq-eqb o.delivery o.delivery refl) ∙ without-absent os o.delivery u.0 in
    subst (HasWords fewer) is (words-leave words fewer (o ∷ os) o.delivery h u (or_left _ _ (eq-eqb o.delivery o.delivery refl)) l)

pub once-drop : (os : List OpenDelivery) (n : ℕ) → AreOnce (numbers_of os) → AreOnce (numbers_of (drop n os))
once-drop os zero u = u
once-drop [] (suc n) u = tt
once-drop (o ∷ os) (suc n) u = once-drop os n u.1
