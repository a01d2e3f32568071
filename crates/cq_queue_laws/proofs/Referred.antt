-- What entries do to references.
use Prim.Native.Nat.{zero, suc}
use Rattle.std.proofs.Common.{◌≡◌, ◌≢◌, ℕ, ◌+◌, ◌<◌, Bool, true, false, not, cond, List, [], ◌∷◌, ◌++◌, length, refl, sym, ap, ◌∙◌, append-nil, inl, inr, arith}
use Rattle.std.specs.Prelude.{◌==◌, ◌&&◌, ◌||◌}
use Rattle.std.proofs.lemmas.Bool.{or_left, or_right, and_from, and_left, and_right, ne_eqb, eq-eqb, cases_eq, not_from_false, not_from_true, both_ways, false_from_ne_true}
use Rattle.std.proofs.lemmas.List.Folds.{list_any-append}
use Rattle.cq_bytes.specs.Numbers.{contains, AreQueues}
use Rattle.cq_journal.specs.declared.event.Event.TheVariants as event
use Rattle.cq_journal.specs.declared.event.Entry.{Entry}
use Rattle.cq_journal.specs.declared.event.Message.{Message}
use Rattle.cq_journal.specs.History.{has_id, line, settled, settles}
use Rattle.cq_journal.specs.Legal.{brings, has, Legal}
use Rattle.cq_journal.proofs.Laws.{line-unbrought, acked-unbrought}
use Rattle.cq_journal.proofs.More.{settled-removed}
use Rattle.cq_queue_laws.specs.Refs.{count_below, has_ref, refs}

pub count-same : (n : ℕ) (p q : ℕ → Bool) → ((k : ℕ) → k < n → p k ≡ q k) → count_below n p ≡ count_below n q
unfolding count_below
count-same zero p q h = refl
count-same (suc n) p q h = ap (λ b. count_below n p + cond b 1 0) (h n (omega arith)) ∙ ap (λ m. m + cond (q n) 1 0) (count-same n p q (λ k l. h k (omega arith)))

-- two tests that differ at one number
pub count-one : (n x : ℕ) (p q : ℕ → Bool) → x < n → p x ≡ true → q x ≡ false → ((k : ℕ) → k ≢ x → p k ≡ q k) → count_below n p ≡ count_below n q + 1
unfolding count_below
count-one zero x p q l t f h = absurd (omega arith)
count-one (suc n) x p q l t f h =
    elim (cases_eq n x) [
      | inl here ↦ (
          let a : p n ≡ true = ap p here ∙ t in
          let b : q n ≡ false = ap q here ∙ f in
          let e : count_below n p ≡ count_below n q = count-same n p q (λ k m. h k (λ z. omega arith)) in
          rw (a, b) (omega (arith, e)))
      | inr other ↦ (
          let e : count_below n p ≡ count_below n q + 1 = count-one n x p q (omega arith) t f h in
          let s : p n ≡ q n = h n other in
          rw s (omega (arith, e)))
    ]

-- numbers that differ and are below n
abbrev pub AreBelow : ℕ → List ℕ → Type 0
AreBelow n [] = Unit {0}
AreBelow n (q ∷ qs) = (q < n) × (contains qs q ≡ false) × AreBelow n qs

pub below-queues : (qs : List ℕ) → AreQueues qs → AreBelow 256 qs
below-queues [] a = tt
below-queues (q ∷ qs) a = (a.0, a.1, below-queues qs a.2)

none : (n : ℕ) → count_below n (contains []) ≡ 0
unfolding count_below
none zero = refl
none (suc n) = omega (arith, none n)

pub count-contains : (n : ℕ) (qs : List ℕ) → AreBelow n qs → count_below n (contains qs) ≡ length qs
count-contains n [] a = none n
count-contains n (q ∷ qs) a =
    count-one n q (contains (q ∷ qs)) (contains qs) a.0 (or_left _ _ (eq-eqb q q refl)) a.1 (λ k other. ap (λ b. b || contains qs k) (ne_eqb q k (λ e. other (sym e))))
    ∙ ap (λ m. m + 1) (count-contains n qs a.2) ∙ omega arith

-- a publish has one reference for each of its queues
published-below : (n : ℕ) (past : List Entry) (stamp c k id : ℕ) (queues body : List ℕ) → Legal past → has (brings id) past ≡ false → AreBelow n queues
    → count_below n (has_ref (record { event = event.Published c k id queues body; stamp = stamp } ∷ past) id) ≡ length queues
published-below n past stamp c k id queues body l new a =
    let e : Entry = record { event = event.Published c k id queues body; stamp = stamp } in
    let m : Message = record { id = id; body = body } in
    count-same n (has_ref (e ∷ past) id) (contains queues) (λ q b.
    let free : contains (settled past q) id ≡ false = false_from_ne_true _ (λ t. both_ways _ (acked-unbrought past q id l new) (settled-removed past q id l t)) in
    ap (λ xs. has_id (line (e ∷ past) q) id && not (contains xs id)) (append-nil (settled past q))
    ∙ ap (λ b. has_id (line (e ∷ past) q) id && not b) free
    ∙ (elim (contains queues q) as (λ b. (has_id (line past q ++ cond b (m ∷ []) []) id && true) ≡ b) [
      | true ↦ and_from _ _ (list_any-append (λ k. k.id == id) (line past q) (m ∷ []) ∙ or_right _ _ (or_left _ _ (eq-eqb id id refl))) refl
      | false ↦ and_left _ _ (ap (λ ms. has_id ms id) (append-nil (line past q)) ∙ line-unbrought past q id new)
    ]))
    ∙ count-contains n queues a

-- a settling takes one reference
settled-below : (n : ℕ) (past : List Entry) (stamp id q : ℕ) → q < n → has_id (line past q) id ≡ true → contains (settled past q) id ≡ false
    → count_below n (has_ref past id) ≡ count_below n (has_ref (record { event = event.Settled q id; stamp = stamp } ∷ past) id) + 1
settled-below n past stamp id q b there free =
    let e : Entry = record { event = event.Settled q id; stamp = stamp } in
    count-one n q (has_ref past id) (has_ref (e ∷ past) id) b (and_from _ _ there (not_from_false _ free))
    (and_right _ _ (not_from_true _ (list_any-append (λ y. y == id) (settled past q) (settles q (event.Settled q id)) ∙ or_right _ _ (ap (λ b. contains (cond b (id ∷ []) []) id) (eq-eqb q q refl) ∙ or_left _ _ (eq-eqb id id refl)))))
    (λ k other. sym (ap (λ ms. has_id ms id && not (contains (settled past k ++ settles k (event.Settled q id)) id)) (append-nil (line past k))
    ∙ ap (λ b. has_id (line past k) id && not (contains (settled past k ++ cond b (id ∷ []) []) id)) (ne_eqb q k (λ e. other (sym e)))
    ∙ ap (λ xs. has_id (line past k) id && not (contains xs id)) (append-nil (settled past k))))

pub refs-published : (past : List Entry) (stamp c k id : ℕ) (queues body : List ℕ) → Legal (record { event = event.Published c k id queues body; stamp = stamp } ∷ past)
    → refs (record { event = event.Published c k id queues body; stamp = stamp } ∷ past) id ≡ length queues
refs-published past stamp c k id queues body l = published-below 256 past stamp c k id queues body l.3 l.0.1 (below-queues queues l.0.4)

pub refs-settled : (past : List Entry) (stamp q id : ℕ) → Legal (record { event = event.Settled q id; stamp = stamp } ∷ past) → has_id (line past q) id ≡ true → q < 256
    → refs past id ≡ refs (record { event = event.Settled q id; stamp = stamp } ∷ past) id + 1
refs-settled past stamp q id l there below = settled-below 256 past stamp id q below there l.0.1
