-- Each part of what stands beside the messages, through a change of one place.
use Rattle.std.proofs.Common.{◌≡◌, ◌≢◌, ℕ, ◌+◌, ◌<◌, Bool, true, false, List, [], ◌∷◌, ◌++◌, length, set, refl, sym, ap, ◌∙◌, subst, arith, inl, inr, get_or-set_same, get_or-set_other, length-set}
use Rattle.std.specs.Prelude.{◌==◌, ◌&&◌, Option, None, Some}
use Rattle.std.proofs.lemmas.Bool.{cond-true, cond-false, and_from, and_parts, eq-eqb, eqb-true, cases_eq, cases_Bool, cases_lt, both_ways}
use Rattle.std.proofs.lemmas.List.{get_or_append_left, get_or_at, get_or_past, length_push}
use Rattle.cq_items.specs.Item.{Item}
use Rattle.cq_items.specs.declared.item.Holder.{Holder}
use Rattle.cq_items.specs.declared.item.Holder.TheVariants.{Waiting, Out, Gone}
use Rattle.cq_items.specs.declared.outs.Held.{Held}
use Rattle.cq_items.specs.Items.{is_free, is_gone, is_out, out_for}
use Rattle.cq_items.specs.Slots.{slot_at, passes}
use Rattle.cq_items.specs.Outs.{find, Puts}
use Rattle.cq_items.specs.Queue.{FindsOut, IsSplit}
use Rattle.cq_items.proofs.Places.{passes-within}

-- ---- a holder is one thing

pub free-not-out : (h : Holder) (c d : ℕ) → is_free h ≡ true → is_out c d h ≡ false
free-not-out Waiting c d e = refl
free-not-out (Out x y) c d e = cc
free-not-out Gone c d e = cc

pub free-not-gone : (h : Holder) → is_free h ≡ true → is_gone h ≡ false
free-not-gone Waiting e = refl
free-not-gone (Out x y) e = cc
free-not-gone Gone e = cc

pub gone-not-free : (h : Holder) → is_gone h ≡ true → is_free h ≡ false
gone-not-free Waiting e = cc
gone-not-free (Out x y) e = cc
gone-not-free Gone e = refl

pub gone-not-out : (h : Holder) (c d : ℕ) → is_gone h ≡ true → is_out c d h ≡ false
gone-not-out Waiting c d e = cc
gone-not-out (Out x y) c d e = cc
gone-not-out Gone c d e = refl

pub out-is : (h : Holder) (c d : ℕ) → is_out c d h ≡ true → h ≡ Out c d
out-is Waiting c d e = cc
out-is (Out x y) c d e = let p = and_parts _ _ e in ap (λ k. Out k y) (eqb-true x c p.0) ∙ ap (λ k. Out c k) (eqb-true y d p.1)
out-is Gone c d e = cc

-- ---- reading after a change

slot-same : (ss : List (Option Item)) (k : ℕ) (s : Option Item) → k < length ss → slot_at (set ss k s) k ≡ s
slot-same ss k s l = get_or-set_same ss k s None l

slot-other : (ss : List (Option Item)) (k j : ℕ) (s : Option Item) → j ≢ k → slot_at (set ss k s) j ≡ slot_at ss j
slot-other ss k j s n = get_or-set_other ss k j s None n

-- a test after a change, where it gives b at the new one
passes-set : (t : Item → Bool) (ss : List (Option Item)) (k j : ℕ) (s : Option Item) → k < length ss → passes t s ≡ passes t (slot_at ss k) → passes t (slot_at (set ss k s) j) ≡ passes t (slot_at ss j)
passes-set t ss k j s l h = elim (cases_eq j k) [
  | inl here ↦ subst (λ i. passes t (slot_at (set ss k s) i) ≡ passes t (slot_at ss i)) (sym here) (ap (passes t) (slot-same ss k s l) ∙ h)
  | inr other ↦ ap (passes t) (slot-other ss k j s other)
]

passes-push : (t : Item → Bool) (ss : List (Option Item)) (j : ℕ) (s : Option Item) → passes t s ≡ false → passes t (slot_at (ss ++ s ∷ []) j) ≡ passes t (slot_at ss j)
passes-push t ss j s h = elim (cases_lt j (length ss)) [
  | inl below ↦ ap (passes t) (get_or_append_left ss (s ∷ []) None j below)
  | inr above ↦ elim (cases_eq j (length ss)) [
    | inl here ↦ ap (passes t) (get_or_at ss s [] None j (sym here)) ∙ h ∙ sym (ap (passes t) (get_or_past ss j None (omega arith)))
    | inr past ↦ ap (passes t) (get_or_past (ss ++ s ∷ []) j None (omega (arith, length_push ss s))) ∙ sym (ap (passes t) (get_or_past ss j None (omega arith)))
  ]
]

-- ---- who is out

other-pair : (x y c d : ℕ) → ((x ≡ c) × (y ≡ d) → ⊥) → (x == c && y == d) ≡ false
other-pair x y c d n = elim (cases_Bool (x == c && y == d)) [
  | inr e ↦ e
  | inl e ↦ (let parts = and_parts _ _ e in absurd (n (eqb-true x c parts.0, eqb-true y d parts.1)))
]

pub finds-push : (ss : List (Option Item)) (held : List Held) (s : Option Item) → FindsOut ss held → ((c d : ℕ) → passes (out_for c d) s ≡ false) → FindsOut (ss ++ s ∷ []) held
finds-push ss held s h n = record {
  found = λ k c d e. h.found k c d (sym (passes-push (out_for c d) ss k s (n c d)) ∙ e);
  there = λ c d k e. passes-push (out_for c d) ss k s (n c d) ∙ h.there c d k e;
}

pub finds-same : (ss : List (Option Item)) (held : List Held) (k : ℕ) (s : Option Item) → FindsOut ss held → k < length ss → ((c d : ℕ) → passes (out_for c d) s ≡ passes (out_for c d) (slot_at ss k)) → FindsOut (set ss k s) held
finds-same ss held k s h l n = record {
  found = λ j c d e. h.found j c d (sym (passes-set (out_for c d) ss k j s l (n c d)) ∙ e);
  there = λ c d j e. passes-set (out_for c d) ss k j s l (n c d) ∙ h.there c d j e;
}

-- one more is out
pub finds-put : (ss : List (Option Item)) (held after : List Held) (k c d : ℕ) (s : Option Item) → FindsOut ss held → k < length ss → ((a b : ℕ) → passes (out_for a b) (slot_at ss k) ≡ false)
    → ((a b : ℕ) → passes (out_for a b) s ≡ (c == a && d == b)) → find c d held ≡ None → Puts c d (Some k) held after → FindsOut (set ss k s) after
finds-put ss held after k c d s h l was now none puts = record {
  found = λ j a b e. elim (cases_eq j k) [
    | inl here ↦ (
        let t : (c == a && d == b) ≡ true = sym (now a b) ∙ sym (ap (passes (out_for a b)) (slot-same ss k s l)) ∙ subst (λ i. passes (out_for a b) (slot_at (set ss k s) i) ≡ true) here e in
        let p = and_parts _ _ t in
        puts a b ∙ cond-true (a == c && b == d) (Some k) (find a b held) (and_from _ _ (eq-eqb a c (sym (eqb-true c a p.0))) (eq-eqb b d (sym (eqb-true d b p.1)))) ∙ ap (λ (i : ℕ). Some i) (sym here))
    | inr other ↦ (
        let before : find a b held ≡ Some j = h.found j a b (sym (ap (passes (out_for a b)) (slot-other ss k j s other)) ∙ e) in
        puts a b ∙ cond-false (a == c && b == d) (Some k) (find a b held) (other-pair a b c d (λ q. (let n : find a b held ≡ None = rw (q.0, q.1) none in let n2 : Some j ≡ None = sym before ∙ n in cc))) ∙ before)
  ];
  there = λ a b j e. elim (cases_Bool (a == c && b == d)) [
    | inl t ↦ (
        let p = and_parts _ _ t in
        let ac : a ≡ c = eqb-true a c p.0 in
        let bd : b ≡ d = eqb-true b d p.1 in
        let q : Some k ≡ Some j = sym (puts a b ∙ cond-true (a == c && b == d) (Some k) (find a b held) t) ∙ e in
        let kj : k ≡ j = cc in
        subst (λ i. passes (out_for a b) (slot_at (set ss k s) i) ≡ true) kj (ap (passes (out_for a b)) (slot-same ss k s l) ∙ now a b ∙ and_from _ _ (eq-eqb c a (sym ac)) (eq-eqb d b (sym bd))))
    | inr t ↦ (
        let before : find a b held ≡ Some j = sym (puts a b ∙ cond-false (a == c && b == d) (Some k) (find a b held) t) ∙ e in
        let at : passes (out_for a b) (slot_at ss j) ≡ true = h.there a b j before in
        let other : j ≢ k = λ q. both_ways _ (was a b) (subst (λ i. passes (out_for a b) (slot_at ss i) ≡ true) q at) in
        ap (passes (out_for a b)) (slot-other ss k j s other) ∙ at)
  ];
}

same-delivery : (s : Option Item) (a b c d : ℕ) → passes (out_for a b) s ≡ true → passes (out_for c d) s ≡ true → (a == c && b == d) ≡ true
same-delivery None a b c d p q = cc
same-delivery (Some i) a b c d p q =
    let e : Out a b ≡ Out c d = sym (out-is i.holder a b p) ∙ out-is i.holder c d q in
    let ac : a ≡ c = cc in
    let bd : b ≡ d = cc in
    and_from _ _ (eq-eqb a c ac) (eq-eqb b d bd)

-- one fewer is out
pub finds-released : (ss : List (Option Item)) (held after : List Held) (k c d : ℕ) (s : Option Item) → FindsOut ss held → find c d held ≡ Some k
    → ((a b : ℕ) → passes (out_for a b) s ≡ false) → Puts c d None held after → FindsOut (set ss k s) after
finds-released ss held after k c d s h out now puts =
    let was : passes (out_for c d) (slot_at ss k) ≡ true = h.there c d k out in
    let l : k < length ss = passes-within (out_for c d) ss k was in
    record {
      found = λ j a b e. elim (cases_eq j k) [
        | inl here ↦ absurd (both_ways _ (now a b) (sym (ap (passes (out_for a b)) (slot-same ss k s l)) ∙ subst (λ i. passes (out_for a b) (slot_at (set ss k s) i) ≡ true) here e))
        | inr other ↦ (
            let before : find a b held ≡ Some j = h.found j a b (sym (ap (passes (out_for a b)) (slot-other ss k j s other)) ∙ e) in
            puts a b ∙ cond-false (a == c && b == d) None (find a b held) (other-pair a b c d (λ q. (
            let n : find a b held ≡ Some k = rw (q.0, q.1) out in
            let n2 : Some j ≡ Some k = sym before ∙ n in other cc))) ∙ before)
      ];
      there = λ a b j e. elim (cases_Bool (a == c && b == d)) [
        | inl t ↦ (let q : None ≡ Some j = sym (puts a b ∙ cond-true (a == c && b == d) None (find a b held) t) ∙ e in cc)
        | inr t ↦ (
            let before : find a b held ≡ Some j = sym (puts a b ∙ cond-false (a == c && b == d) None (find a b held) t) ∙ e in
            let at : passes (out_for a b) (slot_at ss j) ≡ true = h.there a b j before in
            let other : j ≢ k = λ q. (
            let at2 : passes (out_for a b) (slot_at ss k) ≡ true = subst (λ i. passes (out_for a b) (slot_at ss i) ≡ true) q at in
            both_ways _ t (same-delivery (slot_at ss k) a b c d at2 was)) in
            ap (passes (out_for a b)) (slot-other ss k j s other) ∙ at)
      ];
    }

-- ---- what is decided

pub splits-push : (t : Item → Bool) (ss : List (Option Item)) (f : ℕ) (s : Option Item) → IsSplit t ss f → passes t s ≡ true → IsSplit t (ss ++ s ∷ []) f
splits-push t ss f s h u = record {
  within = omega (arith, h.within, length_push ss s);
  before = λ k l. ap (passes t) (get_or_append_left ss (s ∷ []) None k (omega (arith, h.within))) ∙ h.before k l;
  after = λ k a l. elim (cases_lt k (length ss)) [
    | inl below ↦ ap (passes t) (get_or_append_left ss (s ∷ []) None k below) ∙ h.after k a below
    | inr above ↦ ap (passes t) (get_or_at ss s [] None k (omega (arith, length_push ss s))) ∙ u
  ];
}

pub splits-past : (t : Item → Bool) (ss : List (Option Item)) (f : ℕ) (s : Option Item) → IsSplit t ss f → f ≡ length ss → passes t s ≡ false → IsSplit t (ss ++ s ∷ []) (length ss + 1)
splits-past t ss f s h e n = record {
  within = omega (arith, length_push ss s);
  before = λ k l. elim (cases_lt k (length ss)) [
    | inl below ↦ ap (passes t) (get_or_append_left ss (s ∷ []) None k below) ∙ h.before k (omega (arith, e, below))
    | inr above ↦ ap (passes t) (get_or_at ss s [] None k (omega (arith, l, above))) ∙ n
  ];
  after = λ k a l. absurd (omega (arith, length_push ss s, a, l));
}

pub splits-same : (t : Item → Bool) (ss : List (Option Item)) (f k : ℕ) (s : Option Item) → IsSplit t ss f → k < length ss → passes t s ≡ passes t (slot_at ss k) → IsSplit t (set ss k s) f
splits-same t ss f k s h l n = record {
  within = omega (arith, h.within, length-set ss k s);
  before = λ j b. passes-set t ss k j s l n ∙ h.before j b;
  after = λ j a b. passes-set t ss k j s l n ∙ h.after j a (omega (arith, length-set ss k s));
}

-- one more is decided
pub splits-more : (t : Item → Bool) (ss : List (Option Item)) (f : ℕ) (s : Option Item) → IsSplit t ss f → f < length ss → passes t s ≡ false → IsSplit t (set ss f s) (f + 1)
splits-more t ss f s h l n = record {
  within = omega (arith, length-set ss f s);
  before = λ j b. elim (cases_eq j f) [
    | inl here ↦ subst (λ i. passes t (slot_at (set ss f s) i) ≡ false) (sym here) (ap (passes t) (slot-same ss f s l) ∙ n)
    | inr other ↦ ap (passes t) (slot-other ss f j s other) ∙ h.before j (omega arith)
  ];
  after = λ j a b. (
      let other : j ≢ f = λ e. omega arith in
      ap (passes t) (slot-other ss f j s other) ∙ h.after j (omega arith) (omega (arith, length-set ss f s)));
}
