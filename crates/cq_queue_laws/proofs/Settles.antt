-- What a settling does, in the words of the history.
use Rattle.std.proofs.Common.{◌≡◌, ℕ, Bool, true, false, not, cond, List, [], ◌∷◌, refl, sym, ap, ◌∙◌, subst, inl, inr}
use Rattle.std.specs.Prelude.{◌==◌, ◌||◌, filter, map, Option}
use Rattle.std.proofs.lemmas.List.Elements.{filter_agree}
use Rattle.std.proofs.lemmas.Bool.{or_cases, or_left, or_right, eq-eqb, ne_eqb, cases_Bool, both_ways}
use Rattle.cq_bytes.specs.Numbers.{contains}
use Rattle.cq_journal.specs.declared.event.Event.TheVariants as event
use Rattle.cq_journal.specs.declared.event.Entry.{Entry}
use Rattle.cq_journal.proofs.More.{eqb-sym}
use Rattle.cq_items.specs.Item.{Item}
use Rattle.cq_items.specs.Items.{settles, lowest_segment, is_in, settling_in, others_in, settling_ids, others_items, has_item}
use Rattle.cq_queue_laws.specs.Follows.{Follows}
use Rattle.cq_queue_laws.specs.Laws.{AreOnce, with_settled}
use Rattle.cq_queue_laws.proofs.Keeps.{keeps-settled}

-- the ids of those that settle in a segment
abbrev named : Option ℕ → List Item → List ℕ
named o is = map (λ (i : Item). i.id) (settling_in o is)

abbrev unnamed : (ℕ → Bool) → List Item → List Item
unnamed t is = filter (λ (i : Item). not (t i.id)) is

named-has : (o : Option ℕ) (is : List Item) (x : ℕ) → contains (named o is) x ≡ true → has_item is x ≡ true
named-has o [] x h = cc
named-has o (i ∷ is) x h =
    (elim (settles i) as (λ b. contains (map (λ (j : Item). j.id) (cond b (cond (is_in o i) (i ∷ settling_in o is) []) (settling_in o is))) x ≡ true → (i.id == x || has_item is x) ≡ true) [
      | true ↦ λ h. (elim (is_in o i) as (λ b. contains (map (λ (j : Item). j.id) (cond b (i ∷ settling_in o is) [])) x ≡ true → (i.id == x || has_item is x) ≡ true) [
        | true ↦ λ h. elim (or_cases (i.id == x) (contains (named o is) x) h) [ inl e ↦ or_left (i.id == x) (has_item is x) e | inr e ↦ or_right (i.id == x) (has_item is x) (named-has o is x e) ]
        | false ↦ λ h. cc
      ]) h
      | false ↦ λ h. or_right (i.id == x) (has_item is x) (named-has o is x h)
    ]) h

all-stay : (t : ℕ → Bool) (is : List Item) → ((x : ℕ) → has_item is x ≡ true → t x ≡ false) → unnamed t is ≡ is
all-stay t [] h = refl
all-stay t (i ∷ is) h =
    ap (λ b. cond (not b) (i ∷ unnamed t is) (unnamed t is)) (h i.id (or_left _ _ (eq-eqb i.id i.id refl)))
    ∙ ap (λ (ys : List Item). i ∷ ys) (all-stay t is (λ x p. h x (or_right _ _ p)))

-- a filter by a test of ids that tells those that settle
others-unnamed : (o : Option ℕ) (is : List Item) (t : ℕ → Bool) → AreOnce is → ((x : ℕ) → has_item is x ≡ true → t x ≡ contains (named o is) x) → others_in o is ≡ unnamed t is
others-unnamed o [] t u h = refl
others-unnamed o (i ∷ is) t u h =
    (elim (settles i) as (λ b. ((x : ℕ) → (i.id == x || has_item is x) ≡ true → t x ≡ contains (map (λ (j : Item). j.id) (cond b (cond (is_in o i) (i ∷ settling_in o is) []) (settling_in o is))) x)
    → cond b (cond (is_in o i) (others_in o is) (i ∷ is)) (i ∷ others_in o is) ≡ cond (not (t i.id)) (i ∷ unnamed t is) (unnamed t is)) [
      | true ↦ λ h. (elim (is_in o i) as (λ b. ((x : ℕ) → (i.id == x || has_item is x) ≡ true → t x ≡ contains (map (λ (j : Item). j.id) (cond b (i ∷ settling_in o is) [])) x)
          → cond b (others_in o is) (i ∷ is) ≡ cond (not (t i.id)) (i ∷ unnamed t is) (unnamed t is)) [
            | true ↦ λ h. (
                let mine : t i.id ≡ true = h i.id (or_left _ _ (eq-eqb i.id i.id refl)) ∙ or_left _ _ (eq-eqb i.id i.id refl) in
                let rest : others_in o is ≡ unnamed t is = others-unnamed o is t u.1 (λ x p. (
                let other : (i.id == x) ≡ false = ne_eqb i.id x (λ e. both_ways _ u.0 (subst (λ k. has_item is k ≡ true) (sym e) p)) in
                h x (or_right _ _ p) ∙ ap (λ b. b || contains (named o is) x) other)) in
                rest ∙ sym (ap (λ b. cond (not b) (i ∷ unnamed t is) (unnamed t is)) mine))
            | false ↦ λ h. sym (all-stay t (i ∷ is) (λ x p. h x p))
          ]) h
      | false ↦ λ h. (
          let none : contains (named o is) i.id ≡ false = elim (cases_Bool (contains (named o is) i.id)) [ inr f ↦ f | inl e ↦ absurd (both_ways _ u.0 (named-has o is i.id e)) ] in
          let mine : t i.id ≡ false = h i.id (or_left _ _ (eq-eqb i.id i.id refl)) ∙ none in
          ap (λ (ys : List Item). i ∷ ys) (others-unnamed o is t u.1 (λ x p. h x (or_right _ _ p))) ∙ sym (ap (λ b. cond (not b) (i ∷ unnamed t is) (unnamed t is)) mine))
    ]) h

pub settling-filters : (items : List Item) → AreOnce items → others_items items ≡ filter (λ i. not (contains (settling_ids items) i.id)) items
settling-filters items u = others-unnamed (lowest_segment items) items (contains (settling_ids items)) u (λ x p. refl)

filter-both : (p q : Item → Bool) (is : List Item) → filter q (filter p is) ≡ filter (λ i. cond (p i) (q i) false) is
filter-both p q [] = refl
filter-both p q (i ∷ is) = elim (p i) as (λ b. filter q (cond b (i ∷ filter p is) (filter p is)) ≡ cond (cond b (q i) false) (i ∷ filter (λ j. cond (p j) (q j) false) is) (filter (λ j. cond (p j) (q j) false) is)) [
  | true ↦ ap (λ (ys : List Item). cond (q i) (i ∷ ys) ys) (filter-both p q is)
  | false ↦ filter-both p q is
]

not-either : (a b : Bool) → cond (not a) (not b) false ≡ not (a || b)
not-either true b = refl
not-either false b = refl

one-less : (id : ℕ) (ids : List ℕ) (is : List Item) → filter (λ i. not (contains ids i.id)) (filter (λ i. not (i.id == id)) is) ≡ filter (λ i. not (contains (id ∷ ids) i.id)) is
one-less id ids is = filter-both (λ (i : Item). not (i.id == id)) (λ (i : Item). not (contains ids i.id)) is
    ∙ filter_agree (λ (i : Item). cond (not (i.id == id)) (not (contains ids i.id)) false) (λ (i : Item). not (contains (id ∷ ids) i.id))
    (λ (i : Item). not-either (i.id == id) (contains ids i.id) ∙ ap (λ b. not (b || contains ids i.id)) (eqb-sym i.id id)) is

pub settled-each : (ids : List ℕ) (items : List Item) (past : List Entry) (stamp q : ℕ) → Follows items past q → Follows (filter (λ i. not (contains ids i.id)) items) (with_settled ids stamp q past) q
settled-each [] items past stamp q f = subst (λ (is : List Item). Follows is past q) (sym (all-stay (λ x. false) items (λ x p. refl))) f
settled-each (id ∷ ids) items past stamp q f =
    let e : Entry = record { event = event.Settled q id; stamp = stamp } in
    subst (λ (is : List Item). Follows is (with_settled ids stamp q (e ∷ past)) q) (one-less id ids items)
    (settled-each ids (filter (λ i. not (i.id == id)) items) (e ∷ past) stamp q (keeps-settled items past stamp id q f))

pub settling-keeps : (items : List Item) (past : List Entry) (stamp q : ℕ) → AreOnce items → Follows items past q → Follows (others_items items) (with_settled (settling_ids items) stamp q past) q
settling-keeps items past stamp q u f = subst (λ (is : List Item). Follows is (with_settled (settling_ids items) stamp q past) q) (sym (settling-filters items u)) (settled-each (settling_ids items) items past stamp q f)
