-- What a commit does, in the words of the history.
use Rattle.std.proofs.Common.{◌≡◌, ℕ, Bool, true, false, not, cond, List, [], ◌∷◌, refl, sym, ap, ◌∙◌, subst, inl, inr}
use Rattle.std.specs.Prelude.{is_some, ◌==◌, ◌&&◌, ◌||◌, filter, map}
use Rattle.std.proofs.lemmas.Bool.{or_parts, or_left, or_right, and_from, cond-true, cond-false, eq-eqb, not_from_false, cases_Bool, both_ways}
use Rattle.cq_journal.specs.declared.event.Event.TheVariants as event
use Rattle.cq_journal.specs.declared.event.Entry.{Entry}
use Rattle.cq_journal.proofs.More.{eqb-sym}
use Rattle.cq_items.specs.Item.{Item}
use Rattle.cq_items.specs.declared.item.Stand.{Stand}
use Rattle.cq_items.specs.declared.item.Passed.{Passed}
use Rattle.cq_items.specs.declared.item.Holder.{Holder}
use Rattle.cq_items.specs.declared.item.Holder.TheVariants.{Waiting, Out, Gone}
use Rattle.cq_items.specs.Items.{undecided_items, pass_first, skips, decide, holding, ack, ack_one, out_for, is_out, is_out_to, has_item, IsHeldBy, IsPassed}
use Rattle.cq_items.specs.Queue.{AreOutOnce}
use Rattle.cq_queue_laws.specs.Follows.{Whereabouts, bare, Follows}
use Rattle.cq_queue_laws.specs.Laws.{AreOnce}
use Rattle.cq_queue_laws.proofs.Keeps.{keeps-settled}

not-not : (b : Bool) → not b ≡ true → b ≡ false
not-not true e = cc
not-not false e = refl

not-false : (b : Bool) → not b ≡ false → b ≡ true
not-false true e = refl
not-false false e = cc

-- ---- an entry that is kept

kept-bare : (skip : Bool) (st : Stand) (r : Passed) (is : List Item) → IsPassed skip r (undecided_items is) → r.kept ≡ true → map bare (pass_first skip st is) ≡ map bare is
kept-bare skip st r [] p k = refl
kept-bare skip st r (i ∷ is) p k =
    (elim (is_some i.stand) as (λ b. IsPassed skip r (cond (not b) (i ∷ undecided_items is) (undecided_items is)) → map bare (cond b (i ∷ pass_first skip st is) (cond (skips skip i) is (decide st i ∷ is))) ≡ bare i ∷ map bare is) [
      | true ↦ λ p. ap (λ (ps : List Whereabouts). bare i ∷ ps) (kept-bare skip st r is p k)
      | false ↦ λ p. (
          let n : skips skip i ≡ false = not-not (skips skip i) (sym (ap (λ (x : Passed). x.kept) p) ∙ k) in
          ap (map bare) (cond-false (skips skip i) is (decide st i ∷ is) n))
    ]) p

-- ---- one that is skipped

others-kept : (id : ℕ) (is : List Item) → has_item is id ≡ false → filter (λ i. not (i.id == id)) is ≡ is
others-kept id [] h = refl
others-kept id (i ∷ is) h =
    let parts = or_parts _ _ h in
    cond-true (not (i.id == id)) (i ∷ filter (λ i. not (i.id == id)) is) (filter (λ i. not (i.id == id)) is) (not_from_false _ parts.0) ∙ ap (λ (ys : List Item). i ∷ ys) (others-kept id is parts.1)

passed-other : (skip : Bool) (r : Passed) (is : List Item) (x : ℕ) → IsPassed skip r (undecided_items is) → has_item is x ≡ false → (r.id == x) ≡ false
passed-other skip r [] x p h = absurd p
passed-other skip r (i ∷ is) x p h =
    let parts = or_parts _ _ h in
    (elim (is_some i.stand) as (λ b. IsPassed skip r (cond (not b) (i ∷ undecided_items is) (undecided_items is)) → (r.id == x) ≡ false) [
      | true ↦ λ p. passed-other skip r is x p parts.1
      | false ↦ λ p. ap (λ (y : Passed). y.id == x) p ∙ parts.0
    ]) p

skipped-filter : (skip : Bool) (st : Stand) (r : Passed) (is : List Item) → AreOnce is → IsPassed skip r (undecided_items is) → r.kept ≡ false → pass_first skip st is ≡ filter (λ i. not (i.id == r.id)) is
skipped-filter skip st r [] u p k = absurd p
skipped-filter skip st r (i ∷ is) u p k =
    (elim (is_some i.stand) as (λ b. IsPassed skip r (cond (not b) (i ∷ undecided_items is) (undecided_items is))
    → cond b (i ∷ pass_first skip st is) (cond (skips skip i) is (decide st i ∷ is)) ≡ cond (not (i.id == r.id)) (i ∷ filter (λ i. not (i.id == r.id)) is) (filter (λ i. not (i.id == r.id)) is)) [
      | true ↦ λ p. ap (λ (ys : List Item). i ∷ ys) (skipped-filter skip st r is u.1 p k)
          ∙ sym (cond-true (not (i.id == r.id)) (i ∷ filter (λ i. not (i.id == r.id)) is) (filter (λ i. not (i.id == r.id)) is) (not_from_false _ (eqb-sym i.id r.id ∙ passed-other skip r is i.id p u.0)))
      | false ↦ λ p. (
          let s : skips skip i ≡ true = not-false (skips skip i) (sym (ap (λ (x : Passed). x.kept) p) ∙ k) in
          let same : i.id ≡ r.id = sym (ap (λ (x : Passed). x.id) p) in
          cond-true (skips skip i) is (decide st i ∷ is) s
          ∙ sym (ap (λ b. cond (not b) (i ∷ filter (λ i. not (i.id == r.id)) is) (filter (λ i. not (i.id == r.id)) is)) (eq-eqb i.id r.id same)
          ∙ others-kept r.id is (subst (λ k. has_item is k ≡ false) same u.0)))
    ]) p

pub keeps-passed : (items : List Item) (past : List Entry) (stamp q : ℕ) (skip : Bool) (st : Stand) (r : Passed) → IsPassed skip r (undecided_items items) → AreOnce items → Follows items past q
    → Follows (pass_first skip st items) (cond r.kept past (record { event = event.Settled q r.id; stamp = stamp } ∷ past)) q
keeps-passed items past stamp q skip st r p u f =
    let e : Entry = record { event = event.Settled q r.id; stamp = stamp } in
    elim (cases_Bool r.kept) [
      | inl k ↦ subst (λ (h : List Entry). Follows (pass_first skip st items) h q) (sym (cond-true r.kept past (e ∷ past) k)) (kept-bare skip st r items p k ∙ f)
      | inr k ↦ subst (λ (h : List Entry). Follows (pass_first skip st items) h q) (sym (cond-false r.kept past (e ∷ past) k))
          (subst (λ (is : List Item). Follows is (e ∷ past) q) (sym (skipped-filter skip st r items u p k)) (keeps-settled items past stamp r.id q f))
    ]

-- ---- one that was out, and whose drop was noted first

ack-stays : (h : Holder) (c d : ℕ) → is_out c d h ≡ false → ack_one c d h ≡ h
ack-stays Waiting c d n = refl
ack-stays (Out x y) c d n = cond-false (x == c && y == d) Gone (Out x y) n
ack-stays Gone c d n = refl

item-stays : (c d : ℕ) (i : Item) → out_for c d i ≡ false → holding (ack_one c d) i ≡ i
item-stays c d i n = ap (λ (h : Holder). holding (λ _. h) i) (ack-stays i.holder c d n)

all-stay : (c d : ℕ) (is : List Item) → is_out_to c d is ≡ false → ack c d is ≡ is
all-stay c d [] n = refl
all-stay c d (i ∷ is) n =
    let parts = or_parts _ _ n in
    ap (λ (x : Item). x ∷ ack c d is) (item-stays c d i parts.0) ∙ ap (λ (ys : List Item). i ∷ ys) (all-stay c d is parts.1)

held-listed : (c d : ℕ) (is : List Item) → IsHeldBy (Out c d) (undecided_items is) → is_out_to c d is ≡ true
held-listed c d [] h = absurd h
held-listed c d (i ∷ is) h =
    (elim (is_some i.stand) as (λ b. IsHeldBy (Out c d) (cond (not b) (i ∷ undecided_items is) (undecided_items is)) → (out_for c d i || is_out_to c d is) ≡ true) [
      | true ↦ λ h. or_right _ _ (held-listed c d is h)
      | false ↦ λ h. or_left _ _ (ap (is_out c d) h ∙ and_from _ _ (eq-eqb c c refl) (eq-eqb d d refl))
    ]) h

pub drop-first : (items : List Item) (st : Stand) (c d : ℕ) → AreOutOnce items → IsHeldBy (Out c d) (undecided_items items) → pass_first true st (ack c d items) ≡ pass_first true st items
drop-first [] st c d u h = absurd h
drop-first (i ∷ is) st c d u h =
    (elim (is_some i.stand) as (λ b. IsHeldBy (Out c d) (cond (not b) (i ∷ undecided_items is) (undecided_items is))
    → cond b (holding (ack_one c d) i ∷ pass_first true st (ack c d is)) (ack c d is) ≡ cond b (i ∷ pass_first true st is) is) [
      | true ↦ λ h. (
          let other : out_for c d i ≡ false = elim (cases_Bool (out_for c d i)) [ inr f ↦ f | inl t ↦ absurd (both_ways _ (u.0 c d t) (held-listed c d is h)) ] in
          ap (λ (x : Item). x ∷ pass_first true st (ack c d is)) (item-stays c d i other) ∙ ap (λ (ys : List Item). i ∷ ys) (drop-first is st c d u.1 h))
      | false ↦ λ h. all-stay c d is (u.0 c d (ap (is_out c d) h ∙ and_from _ _ (eq-eqb c c refl) (eq-eqb d d refl)))
    ]) h
