-- What each entry does to where a message stands.
use Rattle.std.proofs.Common.{◌≡◌, ℕ, Bool, true, false, not, cond, List, [], ◌∷◌, ◌++◌, refl, sym, ap, ◌∙◌, subst, append-nil, inl, inr}
use Rattle.std.specs.Prelude.{◌==◌, ◌&&◌, ◌||◌, filter, map}
use Rattle.std.specs.List.{list_any}
use Rattle.std.proofs.lemmas.Bool.{or_parts, and_parts, cond-true, cond-false, eqb-true, cases_Bool}
use Rattle.std.proofs.lemmas.List.Folds.{list_any-append}
use Rattle.cq_bytes.specs.Numbers.{contains}
use Rattle.cq_journal.specs.declared.event.Event.TheVariants as event
use Rattle.cq_journal.specs.declared.event.Entry.{Entry}
use Rattle.cq_journal.specs.declared.event.Message.{Message}
use Rattle.cq_journal.specs.History.{Delivery, line, open_after, open_deliveries, is_delivery, removes, acked, is_out, is_waiting, AreApart}
use Rattle.cq_journal.specs.Legal.{Allowed, Legal}
use Rattle.cq_journal.proofs.More.{out-split, apart-open, first-waits}
use Rattle.cq_journal.proofs.Lists.{any-filter}
use Rattle.cq_items.specs.declared.item.Holder.{Holder}
use Rattle.cq_items.specs.declared.item.Holder.TheVariants.{Waiting, Out, Gone}
use Rattle.cq_items.specs.Items.{is_free, ack_one, back_one}
use Rattle.cq_queue_laws.specs.Follows.{outside, standing}

-- ---- the open deliveries

outside-waits : (ds : List Delivery) (q x : ℕ) → is_free (outside ds q x) ≡ not (is_out ds q x)
outside-waits [] q x = refl
outside-waits (d ∷ ds) q x =
    elim (d.queue == q && d.id == x) as (λ b. is_free (cond b (Out d.client d.number) (outside ds q x)) ≡ not (b || is_out ds q x))
    [ true ↦ refl | false ↦ outside-waits ds q x ]

pub standing-waits : (past : List Entry) (q : ℕ) (m : Message) → is_free (standing past q m.id) ≡ is_waiting past q m
standing-waits past q m =
    elim (contains (acked past q) m.id) as (λ b. is_free (cond b Gone (outside (open_deliveries past) q m.id)) ≡ (not b && not (is_out (open_deliveries past) q m.id)))
    [ true ↦ refl | false ↦ outside-waits (open_deliveries past) q m.id ]

pub outside-none : (ds : List Delivery) (q x : ℕ) → is_out ds q x ≡ false → outside ds q x ≡ Waiting
outside-none [] q x n = refl
outside-none (d ∷ ds) q x n =
    let parts = or_parts _ _ n in
    cond-false (d.queue == q && d.id == x) (Out d.client d.number) (outside ds q x) parts.0 ∙ outside-none ds q x parts.1

-- a delivery at the end
outside-push : (ds : List Delivery) (d : Delivery) (q x : ℕ) → outside (ds ++ d ∷ []) q x ≡ cond (is_out ds q x) (outside ds q x) (cond (d.queue == q && d.id == x) (Out d.client d.number) Waiting)
outside-push [] d q x = refl
outside-push (e ∷ ds) d q x =
    ap (λ s. cond (e.queue == q && e.id == x) (Out e.client e.number) s) (outside-push ds d q x)
    ∙ elim (e.queue == q && e.id == x) as (λ b. cond b (Out e.client e.number) (cond (is_out ds q x) (outside ds q x) (cond (d.queue == q && d.id == x) (Out d.client d.number) Waiting))
    ≡ cond (b || is_out ds q x) (cond b (Out e.client e.number) (outside ds q x)) (cond (d.queue == q && d.id == x) (Out d.client d.number) Waiting)) [ true ↦ refl | false ↦ refl ]

alone : (d : Delivery) (ds : List Delivery) (q x : ℕ) → AreApart (d ∷ ds) → (d.queue == q && d.id == x) ≡ true → is_out ds q x ≡ false
alone d ds q x a here =
    let parts = and_parts _ _ here in
    subst (λ k. list_any (λ y. y.queue == k && y.id == x) ds ≡ false) (eqb-true d.queue q parts.0)
    (subst (λ k. list_any (λ y. y.queue == d.queue && y.id == k) ds ≡ false) (eqb-true d.id x parts.1) a.0)

removed-cons : (t u : Bool) (d : Delivery) (fs : List Delivery) (x : ℕ)
    → contains (map (λ (d : Delivery). d.id) (cond (t && u) (d ∷ fs) fs)) x ≡ ((t && (u && d.id == x)) || contains (map (λ (d : Delivery). d.id) fs) x)
removed-cons true true d fs x = refl
removed-cons true false d fs x = refl
removed-cons false u d fs x = refl

kept-cons : (t : Bool) (d : Delivery) (gs : List Delivery) (q x : ℕ)
    → outside (cond (not t) (d ∷ gs) gs) q x ≡ cond (not t && (d.queue == q && d.id == x)) (Out d.client d.number) (outside gs q x)
kept-cons true d gs q x = refl
kept-cons false d gs q x = refl

combine : (t n r : Bool) (o g a : Holder) → (n ≡ true → r ≡ false) → cond r Gone g ≡ a → cond ((t && n) || r) Gone (cond (not t && n) o g) ≡ cond n (cond t Gone o) a
combine true true r o g a h e = refl
combine false true r o g a h e = cond-false r Gone o (h refl)
combine true false r o g a h e = e
combine false false r o g a h e = e

combine-dropped : (t n r : Bool) (o g a : Holder) → (n ≡ true → r ≡ false) → cond r Gone g ≡ a → cond ((t && n) || r) Gone (cond n o g) ≡ cond n (cond t Gone o) a
combine-dropped true true r o g a h e = refl
combine-dropped false true r o g a h e = cond-false r Gone o (h refl)
combine-dropped true false r o g a h e = e
combine-dropped false false r o g a h e = e

combine-ended : (t n : Bool) (o g a : Holder) → (n ≡ true → g ≡ Waiting) → g ≡ a → cond (not t && n) o g ≡ cond n (cond t Waiting o) a
combine-ended true true o g a h e = h refl
combine-ended false true o g a h e = refl
combine-ended true false o g a h e = e
combine-ended false false o g a h e = e

ack-cond : (n : Bool) (c d : ℕ) (e : Delivery) (s : Holder) → ack_one c d (cond n (Out e.client e.number) s) ≡ cond n (cond (is_delivery c d e) Gone (Out e.client e.number)) (ack_one c d s)
ack-cond true c d e s = refl
ack-cond false c d e s = refl

back-cond : (n : Bool) (c : ℕ) (e : Delivery) (s : Holder) → back_one c (cond n (Out e.client e.number) s) ≡ cond n (cond (e.client == c) Waiting (Out e.client e.number)) (back_one c s)
back-cond true c e s = refl
back-cond false c e s = refl

-- one delivery that is no longer open: its message is removed
acked-outside : (ds : List Delivery) (c n q x : ℕ) → AreApart ds
    → cond (contains (map (λ d. d.id) (filter (λ d. is_delivery c n d && d.queue == q) ds)) x) Gone (outside (filter (λ d. not (is_delivery c n d)) ds) q x) ≡ ack_one c n (outside ds q x)
acked-outside [] c n q x a = refl
acked-outside (d ∷ ds) c n q x a =
    let fs : List Delivery = filter (λ d. is_delivery c n d && d.queue == q) ds in
    let gs : List Delivery = filter (λ d. not (is_delivery c n d)) ds in
    let r : Bool = contains (map (λ (d : Delivery). d.id) fs) x in
    let m : Bool = d.queue == q && d.id == x in
    ap (λ b. cond b Gone (outside (cond (not (is_delivery c n d)) (d ∷ gs) gs) q x)) (removed-cons (is_delivery c n d) (d.queue == q) d fs x)
    ∙ ap (λ s. cond ((is_delivery c n d && m) || r) Gone s) (kept-cons (is_delivery c n d) d gs q x)
    ∙ combine (is_delivery c n d) m r (Out d.client d.number) (outside gs q x) (ack_one c n (outside ds q x))
    (λ here. (or_parts _ _ (sym (out-split ds c n q x) ∙ alone d ds q x a here)).0) (acked-outside ds c n q x a.1)
    ∙ sym (ack-cond m c n d (outside ds q x))

dropped-outside : (ds : List Delivery) (c n q x : ℕ) → AreApart ds
    → cond (contains (map (λ d. d.id) (filter (λ d. is_delivery c n d && d.queue == q) ds)) x) Gone (outside ds q x) ≡ ack_one c n (outside ds q x)
dropped-outside [] c n q x a = refl
dropped-outside (d ∷ ds) c n q x a =
    let fs : List Delivery = filter (λ d. is_delivery c n d && d.queue == q) ds in
    let r : Bool = contains (map (λ (d : Delivery). d.id) fs) x in
    let m : Bool = d.queue == q && d.id == x in
    ap (λ b. cond b Gone (cond m (Out d.client d.number) (outside ds q x))) (removed-cons (is_delivery c n d) (d.queue == q) d fs x)
    ∙ combine-dropped (is_delivery c n d) m r (Out d.client d.number) (outside ds q x) (ack_one c n (outside ds q x))
    (λ here. (or_parts _ _ (sym (out-split ds c n q x) ∙ alone d ds q x a here)).0) (dropped-outside ds c n q x a.1)
    ∙ sym (ack-cond m c n d (outside ds q x))

ended-outside : (ds : List Delivery) (c q x : ℕ) → AreApart ds → outside (filter (λ d. not (d.client == c)) ds) q x ≡ back_one c (outside ds q x)
ended-outside [] c q x a = refl
ended-outside (d ∷ ds) c q x a =
    let gs : List Delivery = filter (λ d. not (d.client == c)) ds in
    let m : Bool = d.queue == q && d.id == x in
    kept-cons (d.client == c) d gs q x
    ∙ combine-ended (d.client == c) m (Out d.client d.number) (outside gs q x) (back_one c (outside ds q x))
    (λ here. outside-none gs q x (any-filter (λ k. k.queue == q && k.id == x) _ ds (alone d ds q x a here))) (ended-outside ds c q x a.1)
    ∙ sym (back-cond m c d (outside ds q x))

-- ---- the entries

pub standing-acked : (past : List Entry) (stamp c n q x : ℕ) → Legal past → standing (record { event = event.Acked c n; stamp = stamp } ∷ past) q x ≡ ack_one c n (standing past q x)
standing-acked past stamp c n q x l =
    let ds : List Delivery = open_deliveries past in
    let rs : List ℕ = removes q ds (event.Acked c n) in
    let gs : List Delivery = filter (λ d. not (is_delivery c n d)) ds in
    ap (λ b. cond b Gone (outside gs q x)) (list_any-append (λ y. y == x) (acked past q) rs)
    ∙ elim (contains (acked past q) x) as (λ b. cond (b || contains rs x) Gone (outside gs q x) ≡ ack_one c n (cond b Gone (outside ds q x)))
    [ true ↦ refl | false ↦ acked-outside ds c n q x (apart-open past l) ]

pub standing-dropped : (past : List Entry) (stamp c n q x : ℕ) → Legal past → standing (record { event = event.Dropped c n; stamp = stamp } ∷ past) q x ≡ ack_one c n (standing past q x)
standing-dropped past stamp c n q x l =
    let ds : List Delivery = open_deliveries past in
    let rs : List ℕ = removes q ds (event.Dropped c n) in
    ap (λ b. cond b Gone (outside ds q x)) (list_any-append (λ y. y == x) (acked past q) rs)
    ∙ elim (contains (acked past q) x) as (λ b. cond (b || contains rs x) Gone (outside ds q x) ≡ ack_one c n (cond b Gone (outside ds q x)))
    [ true ↦ refl | false ↦ dropped-outside ds c n q x (apart-open past l) ]

pub standing-ended : (past : List Entry) (stamp c q x : ℕ) → Legal past → standing (record { event = event.Ended c; stamp = stamp } ∷ past) q x ≡ back_one c (standing past q x)
standing-ended past stamp c q x l =
    let ds : List Delivery = open_deliveries past in
    ap (λ xs. cond (contains xs x) Gone (outside (filter (λ d. not (d.client == c)) ds) q x)) (append-nil (acked past q))
    ∙ elim (contains (acked past q) x) as (λ b. cond b Gone (outside (filter (λ d. not (d.client == c)) ds) q x) ≡ back_one c (cond b Gone (outside ds q x)))
    [ true ↦ refl | false ↦ ended-outside ds c q x (apart-open past l) ]

pub standing-delivered : (past : List Entry) (stamp c n queue id q x : ℕ) → Legal past → Allowed past (event.Delivered c n queue id)
    → standing (record { event = event.Delivered c n queue id; stamp = stamp } ∷ past) q x ≡ cond (queue == q && id == x) (Out c n) (standing past q x)
standing-delivered past stamp c n queue id q x l a =
    let ds : List Delivery = open_deliveries past in
    let d : Delivery = record { client = c; number = n; queue = queue; id = id } in
    let m : Bool = queue == q && id == x in
    let free = first-waits past queue id (line past queue) a.1 in
    ap (λ xs. cond (contains xs x) Gone (outside (ds ++ d ∷ []) q x)) (append-nil (acked past q))
    ∙ ap (λ s. cond (contains (acked past q) x) Gone s) (outside-push ds d q x)
    ∙ elim (cases_Bool m) [
      | inl here ↦ (
          let parts = and_parts _ _ here in
          let qe : queue ≡ q = eqb-true queue q parts.0 in
          let xe : id ≡ x = eqb-true id x parts.1 in
          let no-ack : contains (acked past q) x ≡ false = subst (λ k. contains (acked past k) x ≡ false) qe (subst (λ k. contains (acked past queue) k ≡ false) xe free.0) in
          let no-out : is_out ds q x ≡ false = subst (λ k. is_out ds k x ≡ false) qe (subst (λ k. is_out ds queue k ≡ false) xe free.1) in
          cond-false (contains (acked past q) x) Gone (cond (is_out ds q x) (outside ds q x) (cond m (Out c n) Waiting)) no-ack
          ∙ cond-false (is_out ds q x) (outside ds q x) (cond m (Out c n) Waiting) no-out ∙ cond-true m (Out c n) Waiting here ∙ sym (cond-true m (Out c n) (standing past q x) here))
      | inr other ↦ (
          let same : cond (is_out ds q x) (outside ds q x) (cond m (Out c n) Waiting) ≡ outside ds q x =
          ap (λ s. cond (is_out ds q x) (outside ds q x) s) (cond-false m (Out c n) Waiting other)
          ∙ (elim (is_out ds q x) as (λ b. is_out ds q x ≡ b → cond b (outside ds q x) Waiting ≡ outside ds q x) [ true ↦ λ _. refl | false ↦ λ e. sym (outside-none ds q x e) ]) refl in
          ap (λ s. cond (contains (acked past q) x) Gone s) same ∙ sym (cond-false m (Out c n) (standing past q x) other))
    ]

-- an entry that touches no message
pub standing-quiet : (past : List Entry) (e : Entry) (q x : ℕ) → removes q (open_deliveries past) e.event ≡ [] → open_after (open_deliveries past) e.event ≡ open_deliveries past → standing (e ∷ past) q x ≡ standing past q x
standing-quiet past e q x none same =
    ap (λ xs. cond (contains (acked past q ++ xs) x) Gone (outside (open_after (open_deliveries past) e.event) q x)) none
    ∙ ap (λ xs. cond (contains xs x) Gone (outside (open_after (open_deliveries past) e.event) q x)) (append-nil (acked past q))
    ∙ ap (λ ds. cond (contains (acked past q) x) Gone (outside ds q x)) same
