-- What each entry changes.
use Rattle.cq_journal.specs.Lists.{HaveKeys}
use Prim.Native.Nat.{zero, suc}
use Rattle.std.proofs.Common.{◌≡◌, ℕ, Bool, true, false, not, cond, List, [], ◌∷◌, ◌++◌, drop, refl, sym, ap, ◌∙◌, subst, append-nil, inl, inr}
use Rattle.std.specs.Prelude.{◌==◌, ◌&&◌, ◌||◌, filter, map, Some, slice_get}
use Rattle.std.specs.List.{list_any}
use Rattle.std.proofs.lemmas.Bool.{or_parts, and_left, and_from, cond-true, cond-false, eqb-true, eq-eqb, cases_Bool}
use Rattle.std.proofs.lemmas.List.Folds.{list_any-append}
use Rattle.std.proofs.lemmas.List.Elements.{filter-append}
use Rattle.cq_bytes.specs.Numbers.{contains}
use Rattle.cq_journal.specs.declared.event.Event.{Event}
use Rattle.cq_journal.specs.declared.event.Event.TheVariants.{Opened, Published, Delivered, Empty, Busy, Acked, Unknown, Dropped, Ended, Confirmed, Settled}
use Rattle.cq_journal.specs.declared.event.Entry.{Entry}
use Rattle.cq_journal.specs.declared.lines.Line.{Line}
use Rattle.cq_journal.specs.declared.event.Message.{Message}
use Rattle.cq_journal.specs.History.{Delivery, opened_in, line, is_delivery, open_deliveries, unacked, acked, is_out, is_waiting, waiting, settled, comes_back}
use Rattle.cq_journal.specs.Legal.{IsFirst, Allowed, Legal}
use Rattle.cq_journal.proofs.Lists.{filter-congr}
use Rattle.cq_journal.proofs.Laws.{waiting-published, waiting-delivered, waiting-quiet}
use Rattle.cq_journal.proofs.More.{eqb-sym, first-waits, waiting-acked, waiting-dropped, waiting-ended, keys-open}
use Rattle.cq_journal_laws.specs.Changes.{line_after, waiting_after, unacked_after, settled_after, is_removal}
use Rattle.cq_journal_laws.specs.Laws.{LineChanges, WaitingChanges, UnackedChanges, SettledChanges, EndUndoesGet}

-- ---- lines

line-event : (past : List Entry) (stamp : ℕ) (e : Event) (q : ℕ) → Allowed past e → line (record { event = e; stamp = stamp } ∷ past) q ≡ line_after past e q
line-event past stamp (Opened lines) q a = ap (λ (p : List Entry). line p q ++ opened_in q lines) a.0
line-event past stamp (Published c n id queues body) q a =
    elim (contains queues q) as (λ b. line past q ++ cond b (record { id = id; body = body } ∷ []) [] ≡ cond b (line past q ++ record { id = id; body = body } ∷ []) (line past q))
    [ true ↦ refl | false ↦ append-nil (line past q) ]
line-event past stamp (Delivered c n queue id) q a = append-nil (line past q)
line-event past stamp (Empty c queue) q a = append-nil (line past q)
line-event past stamp (Busy c queue) q a = append-nil (line past q)
line-event past stamp (Acked c n) q a = append-nil (line past q)
line-event past stamp (Unknown c n) q a = append-nil (line past q)
line-event past stamp (Dropped c n) q a = append-nil (line past q)
line-event past stamp (Ended c) q a = append-nil (line past q)
line-event past stamp (Confirmed c n id) q a = append-nil (line past q)
line-event past stamp (Settled queue id) q a = append-nil (line past q)

pub line-changes : LineChanges
line-changes past e q l = line-event past e.stamp e.event q l.0

-- ---- what waits

all-kept : {A : Type 0} (p : A → Bool) → ((x : A) → p x ≡ true) → (xs : List A) → filter p xs ≡ xs
all-kept p h [] = refl
all-kept p h (x ∷ xs) = ap (λ b. cond b (x ∷ filter p xs) (filter p xs)) (h x) ∙ ap (λ ys. x ∷ ys) (all-kept p h xs)

opened-first : (past : List Entry) (stamp : ℕ) (lines : List Line) (q : ℕ) → past ≡ [] → waiting (record { event = Opened lines; stamp = stamp } ∷ past) q ≡ opened_in q lines
opened-first past stamp lines q none =
    ap (λ (p : List Entry). waiting (record { event = Opened lines; stamp = stamp } ∷ p) q) none
    ∙ all-kept (is_waiting (record { event = Opened lines; stamp = stamp } ∷ []) q) (λ m. refl) (opened_in q lines)

delivered-here : (past : List Entry) (stamp c n q id : ℕ) → Legal past → (ws : List Message) → waiting past q ≡ ws → IsFirst id ws
    → waiting (record { event = Delivered c n q id; stamp = stamp } ∷ past) q ≡ drop 1 ws
delivered-here past stamp c n q id l [] e f = absurd f
delivered-here past stamp c n q id l (m ∷ ms) e f =
    subst (λ i. waiting (record { event = Delivered c n q i; stamp = stamp } ∷ past) q ≡ ms) f (waiting-delivered past stamp c n q m ms l e)

or-false : (a : Bool) → (a || (false || false)) ≡ a
or-false true = refl
or-false false = refl

delivered-elsewhere : (past : List Entry) (stamp c n queue id q : ℕ) → (queue == q) ≡ false → waiting (record { event = Delivered c n queue id; stamp = stamp } ∷ past) q ≡ waiting past q
delivered-elsewhere past stamp c n queue id q other =
    let now : List Entry = record { event = Delivered c n queue id; stamp = stamp } ∷ past in
    let d : Delivery = record { client = c; number = n; queue = queue; id = id } in
    ap (λ xs. filter (is_waiting now q) xs) (append-nil (line past q))
    ∙ filter-congr (is_waiting now q) (is_waiting past q) (λ m.
    ap (λ xs. not (contains xs m.id) && not (is_out (open_deliveries past ++ d ∷ []) q m.id)) (append-nil (acked past q))
    ∙ ap (λ b. not (contains (acked past q) m.id) && not b) (list_any-append (λ k. k.queue == q && k.id == m.id) (open_deliveries past) (d ∷ [])
    ∙ ap (λ b. is_out (open_deliveries past) q m.id || ((b && id == m.id) || false)) other ∙ or-false (is_out (open_deliveries past) q m.id))) (line past q)

waiting-event : (past : List Entry) (stamp : ℕ) (e : Event) (q : ℕ) → Legal past → Allowed past e → waiting (record { event = e; stamp = stamp } ∷ past) q ≡ waiting_after past e q
waiting-event past stamp (Opened lines) q l a = opened-first past stamp lines q a.0
waiting-event past stamp (Published c n id queues body) q l a =
    let m : Message = record { id = id; body = body } in
    elim (cases_Bool (contains queues q)) [
      | inl there ↦ waiting-published past stamp c n id q queues body l a.1 there ∙ sym (cond-true (contains queues q) (waiting past q ++ m ∷ []) (waiting past q) there)
      | inr other ↦ waiting-quiet past (record { event = Published c n id queues body; stamp = stamp }) q (ap (λ b. cond b (m ∷ []) []) other) refl refl
          ∙ sym (cond-false (contains queues q) (waiting past q ++ m ∷ []) (waiting past q) other)
    ]
waiting-event past stamp (Delivered c n queue id) q l a =
    elim (cases_Bool (queue == q)) [
      | inl here ↦ (
          let same : queue ≡ q = eqb-true queue q here in
          subst (λ k. waiting (record { event = Delivered c n k id; stamp = stamp } ∷ past) q ≡ drop 1 (waiting past q)) (sym same)
          (delivered-here past stamp c n q id l (waiting past q) refl (subst (λ k. IsFirst id (waiting past k)) same a.1))
          ∙ sym (cond-true (queue == q) (drop 1 (waiting past q)) (waiting past q) here))
      | inr other ↦ delivered-elsewhere past stamp c n queue id q other ∙ sym (cond-false (queue == q) (drop 1 (waiting past q)) (waiting past q) other)
    ]
waiting-event past stamp (Empty c queue) q l a = waiting-quiet past (record { event = Empty c queue; stamp = stamp }) q refl refl refl
waiting-event past stamp (Busy c queue) q l a = waiting-quiet past (record { event = Busy c queue; stamp = stamp }) q refl refl refl
waiting-event past stamp (Acked c n) q l a = waiting-acked past stamp c n q
waiting-event past stamp (Unknown c n) q l a = waiting-quiet past (record { event = Unknown c n; stamp = stamp }) q refl refl refl
waiting-event past stamp (Dropped c n) q l a = waiting-dropped past stamp c n q
waiting-event past stamp (Ended c) q l a = waiting-ended past stamp c q l
waiting-event past stamp (Confirmed c n id) q l a = waiting-quiet past (record { event = Confirmed c n id; stamp = stamp }) q refl refl refl
waiting-event past stamp (Settled queue id) q l a = waiting-quiet past (record { event = Settled queue id; stamp = stamp }) q refl refl refl

pub waiting-changes : WaitingChanges
waiting-changes past e q l = waiting-event past e.stamp e.event q l.3 l.0

-- ---- open deliveries

abbrev pub of : ℕ → Delivery → Bool
of c d = d.client == c

acked-own : (ds : List Delivery) (c n : ℕ) → filter (of c) (filter (λ d. not (is_delivery c n d)) ds) ≡ filter (λ d. not (d.number == n)) (filter (of c) ds)
acked-own [] c n = refl
acked-own (d ∷ ds) c n =
    let gs : List Delivery = filter (λ d. not (is_delivery c n d)) ds in
    let hs : List Delivery = filter (of c) ds in
    (elim (d.client == c) as (λ b. d.client == c ≡ b → filter (of c) (cond (not (b && d.number == n)) (d ∷ gs) gs) ≡ filter (λ d. not (d.number == n)) (cond b (d ∷ hs) hs)) [
      | true ↦ λ mine. elim (d.number == n) as (λ b. filter (of c) (cond (not b) (d ∷ gs) gs) ≡ cond (not b) (d ∷ filter (λ d. not (d.number == n)) hs) (filter (λ d. not (d.number == n)) hs)) [
        | true ↦ acked-own ds c n
        | false ↦ cond-true (d.client == c) (d ∷ filter (of c) gs) (filter (of c) gs) mine ∙ ap (λ (ys : List Delivery). d ∷ ys) (acked-own ds c n)
      ]
      | false ↦ λ other. cond-false (d.client == c) (d ∷ filter (of c) gs) (filter (of c) gs) other ∙ acked-own ds c n
    ]) refl

acked-other : (ds : List Delivery) (a c n : ℕ) → (a == c) ≡ false → filter (of c) (filter (λ d. not (is_delivery a n d)) ds) ≡ filter (of c) ds
acked-other [] a c n h = refl
acked-other (d ∷ ds) a c n h =
    let gs : List Delivery = filter (λ d. not (is_delivery a n d)) ds in
    let hs : List Delivery = filter (of c) ds in
    elim (cases_Bool (d.client == c)) [
      | inl mine ↦ (
          let other : is_delivery a n d ≡ false = and_left _ _ (ap (λ k. k == a) (eqb-true d.client c mine) ∙ eqb-sym c a ∙ h) in
          ap (λ b. filter (of c) (cond (not b) (d ∷ gs) gs)) other
          ∙ ap (λ (ys : List Delivery). cond (d.client == c) (d ∷ ys) ys) (acked-other ds a c n h))
      | inr other ↦ elim (is_delivery a n d) as (λ b. filter (of c) (cond (not b) (d ∷ gs) gs) ≡ cond (d.client == c) (d ∷ hs) hs) [
        | true ↦ acked-other ds a c n h ∙ sym (cond-false (d.client == c) (d ∷ hs) hs other)
        | false ↦ ap (λ (ys : List Delivery). cond (d.client == c) (d ∷ ys) ys) (acked-other ds a c n h)
      ]
    ]

ended-own : (ds : List Delivery) (c : ℕ) → filter (of c) (filter (λ d. not (of c d)) ds) ≡ []
ended-own [] c = refl
ended-own (d ∷ ds) c =
    let gs : List Delivery = filter (λ d. not (of c d)) ds in
    (elim (d.client == c) as (λ b. d.client == c ≡ b → filter (of c) (cond (not b) (d ∷ gs) gs) ≡ []) [
      | true ↦ λ _. ended-own ds c
      | false ↦ λ other. cond-false (d.client == c) (d ∷ filter (of c) gs) (filter (of c) gs) other ∙ ended-own ds c
    ]) refl

ended-other : (ds : List Delivery) (a c : ℕ) → (a == c) ≡ false → filter (of c) (filter (λ d. not (of a d)) ds) ≡ filter (of c) ds
ended-other [] a c h = refl
ended-other (d ∷ ds) a c h =
    let gs : List Delivery = filter (λ d. not (of a d)) ds in
    let hs : List Delivery = filter (of c) ds in
    elim (cases_Bool (d.client == c)) [
      | inl mine ↦ (
          let other : of a d ≡ false = ap (λ k. k == a) (eqb-true d.client c mine) ∙ eqb-sym c a ∙ h in
          ap (λ b. filter (of c) (cond (not b) (d ∷ gs) gs)) other
          ∙ ap (λ (ys : List Delivery). cond (d.client == c) (d ∷ ys) ys) (ended-other ds a c h))
      | inr other ↦ elim (of a d) as (λ b. filter (of c) (cond (not b) (d ∷ gs) gs) ≡ cond (d.client == c) (d ∷ hs) hs) [
        | true ↦ ended-other ds a c h ∙ sym (cond-false (d.client == c) (d ∷ hs) hs other)
        | false ↦ ap (λ (ys : List Delivery). cond (d.client == c) (d ∷ ys) ys) (ended-other ds a c h)
      ]
    ]

unacked-event : (past : List Entry) (stamp : ℕ) (e : Event) (c : ℕ) → unacked (record { event = e; stamp = stamp } ∷ past) c ≡ unacked_after past e c
unacked-event past stamp (Delivered a n queue id) c =
    let d : Delivery = record { client = a; number = n; queue = queue; id = id } in
    filter-append (of c) (open_deliveries past) (d ∷ [])
    ∙ elim (a == c) as (λ b. unacked past c ++ cond b (d ∷ []) [] ≡ cond b (unacked past c ++ d ∷ []) (unacked past c)) [ true ↦ refl | false ↦ append-nil (unacked past c) ]
unacked-event past stamp (Acked a n) c =
    elim (cases_Bool (a == c)) [
      | inl mine ↦ subst (λ k. filter (of c) (filter (λ d. not (is_delivery k n d)) (open_deliveries past)) ≡ filter (λ d. not (d.number == n)) (unacked past c)) (sym (eqb-true a c mine)) (acked-own (open_deliveries past) c n)
          ∙ sym (cond-true (a == c) (filter (λ d. not (d.number == n)) (unacked past c)) (unacked past c) mine)
      | inr other ↦ acked-other (open_deliveries past) a c n other ∙ sym (cond-false (a == c) (filter (λ d. not (d.number == n)) (unacked past c)) (unacked past c) other)
    ]
unacked-event past stamp (Ended a) c =
    elim (cases_Bool (a == c)) [
      | inl mine ↦ subst (λ k. filter (of c) (filter (λ d. not (of k d)) (open_deliveries past)) ≡ []) (sym (eqb-true a c mine)) (ended-own (open_deliveries past) c)
          ∙ sym (cond-true (a == c) [] (unacked past c) mine)
      | inr other ↦ ended-other (open_deliveries past) a c other ∙ sym (cond-false (a == c) [] (unacked past c) other)
    ]
unacked-event past stamp _ c = refl

pub unacked-changes : UnackedChanges
unacked-changes past e c l = unacked-event past e.stamp e.event c

-- ---- settled ids

settled-event : (past : List Entry) (stamp : ℕ) (e : Event) (q : ℕ) → settled (record { event = e; stamp = stamp } ∷ past) q ≡ settled_after past e q
settled-event past stamp (Settled queue id) q =
    elim (queue == q) as (λ b. settled past q ++ cond b (id ∷ []) [] ≡ cond b (settled past q ++ id ∷ []) (settled past q)) [ true ↦ refl | false ↦ append-nil (settled past q) ]
settled-event past stamp _ q = append-nil (settled past q)

pub settled-changes : SettledChanges
settled-changes past e q l = settled-event past e.stamp e.event q

-- ---- removed ids

none-named : (ds : List Delivery) (c n q : ℕ) → list_any (is_delivery c n) ds ≡ false → filter (λ d. is_delivery c n d && d.queue == q) ds ≡ []
none-named [] c n q h = refl
none-named (d ∷ ds) c n q h =
    let parts = or_parts _ _ h in
    let fs : List Delivery = filter (λ d. is_delivery c n d && d.queue == q) ds in
    cond-false (is_delivery c n d && d.queue == q) (d ∷ fs) fs (and_left _ _ parts.0) ∙ none-named ds c n q parts.1

not-at : (t : Delivery → Bool) (ds : List Delivery) (k : ℕ) (d : Delivery) → list_any t ds ≡ false → slice_get ds k ≡ Some d → t d ≡ false
not-at t [] k d h e = cc
not-at t (x ∷ ds) zero d h e = let same : x ≡ d = cc in subst (λ (y : Delivery). t y ≡ false) same (or_parts _ _ h).0
not-at t (x ∷ ds) (suc k) d h e = not-at t ds k d (or_parts _ _ h).1 e

one-named : (ds : List Delivery) (q k : ℕ) (d : Delivery) → HaveKeys ds → slice_get ds k ≡ Some d
    → map (λ (d : Delivery). d.id) (filter (λ x. is_delivery d.client d.number x && x.queue == q) ds) ≡ cond (d.queue == q) (d.id ∷ []) []
one-named [] q k d h e = cc
one-named (x ∷ ds) q zero d h e =
    let same : d ≡ x = cc in
    subst (λ (y : Delivery). map (λ (d : Delivery). d.id) (filter (λ z. is_delivery y.client y.number z && z.queue == q) (x ∷ ds)) ≡ cond (y.queue == q) (y.id ∷ []) []) (sym same)
    (ap (λ b. map (λ (d : Delivery). d.id) (cond (b && x.queue == q) (x ∷ filter (λ z. is_delivery x.client x.number z && z.queue == q) ds) (filter (λ z. is_delivery x.client x.number z && z.queue == q) ds)))
    (and_from (x.client == x.client) (x.number == x.number) (eq-eqb x.client x.client refl) (eq-eqb x.number x.number refl))
    ∙ ap (λ (fs : List Delivery). map (λ (d : Delivery). d.id) (cond (x.queue == q) (x ∷ fs) fs)) (none-named ds x.client x.number q h.0)
    ∙ elim (x.queue == q) as (λ b. map (λ (d : Delivery). d.id) (cond b (x ∷ []) []) ≡ cond b (x.id ∷ []) []) [ true ↦ refl | false ↦ refl ])
one-named (x ∷ ds) q (suc k) d h e =
    let fs : List Delivery = filter (λ z. is_delivery d.client d.number z && z.queue == q) ds in
    let unlike : is_delivery x.client x.number d ≡ false = not-at (is_delivery x.client x.number) ds k d h.0 e in
    let other : is_delivery d.client d.number x ≡ false = ap (λ b. b && x.number == d.number) (eqb-sym x.client d.client) ∙ ap (λ b. d.client == x.client && b) (eqb-sym x.number d.number) ∙ unlike in
    ap (map (λ (d : Delivery). d.id)) (cond-false (is_delivery d.client d.number x && x.queue == q) (x ∷ fs) fs (and_left _ _ other)) ∙ one-named ds q k d h.1 e

pub acked-one : (past : List Entry) (stamp q k : ℕ) (d : Delivery) → Legal past → slice_get (open_deliveries past) k ≡ Some d
    → acked (record { event = Acked d.client d.number; stamp = stamp } ∷ past) q ≡ acked past q ++ cond (d.queue == q) (d.id ∷ []) []
acked-one past stamp q k d l e = ap (λ xs. acked past q ++ xs) (one-named (open_deliveries past) q k d (keys-open past l) e)

pub dropped-one : (past : List Entry) (stamp q k : ℕ) (d : Delivery) → Legal past → slice_get (open_deliveries past) k ≡ Some d
    → acked (record { event = Dropped d.client d.number; stamp = stamp } ∷ past) q ≡ acked past q ++ cond (d.queue == q) (d.id ∷ []) []
dropped-one past stamp q k d l e = ap (λ xs. acked past q ++ xs) (one-named (open_deliveries past) q k d (keys-open past l) e)

others-event : (past : List Entry) (stamp : ℕ) (e : Event) (q : ℕ) → is_removal e ≡ false → acked (record { event = e; stamp = stamp } ∷ past) q ≡ acked past q
others-event past stamp (Acked c n) q h = cc
others-event past stamp (Dropped c n) q h = cc
others-event past stamp _ q h = append-nil (acked past q)

pub others-acked : (past : List Entry) (e : Entry) (q : ℕ) → is_removal e.event ≡ false → acked (e ∷ past) q ≡ acked past q
others-acked past e q h = others-event past e.stamp e.event q h

-- ---- a get and an end

came-back : (a o x : Bool) → (x ≡ true → o ≡ false) → ((not a && not (o || (x || false))) || (not a && (x || false))) ≡ (not a && not o)
came-back true o x h = refl
came-back false true true h = sym (ap not (h refl))
came-back false true false h = refl
came-back false false true h = refl
came-back false false false h = refl

pub end-undoes-get : EndUndoesGet
end-undoes-get past get end c n q id l none =
    let d : Delivery = record { client = c; number = n; queue = q; id = id } in
    let now : List Entry = record { event = Delivered c n q id; stamp = get } ∷ past in
    let ds : List Delivery = open_deliveries past in
    let free : is_out ds q id ≡ false = (first-waits past q id (line past q) l.3.0.1).1 in
    let mine : unacked now c ≡ d ∷ [] = unacked-event past get (Delivered c n q id) c ∙ cond-true (c == c) (unacked past c ++ d ∷ []) (unacked past c) (eq-eqb c c refl) ∙ ap (λ (ys : List Delivery). ys ++ d ∷ []) none in
    waiting-ended now end c q l.3
    ∙ ap (λ xs. filter (λ m. is_waiting now q m || comes_back now c q m) xs) (append-nil (line past q))
    ∙ filter-congr (λ m. is_waiting now q m || comes_back now c q m) (is_waiting past q) (λ m.
    ap (λ xs. (not (contains xs m.id) && not (is_out (ds ++ d ∷ []) q m.id)) || (not (contains xs m.id) && is_out (unacked now c) q m.id)) (append-nil (acked past q))
    ∙ ap (λ b. (not (contains (acked past q) m.id) && not b) || (not (contains (acked past q) m.id) && is_out (unacked now c) q m.id)) (list_any-append (λ k. k.queue == q && k.id == m.id) ds (d ∷ []))
    ∙ ap (λ (ys : List Delivery). (not (contains (acked past q) m.id) && not (is_out ds q m.id || is_out (d ∷ []) q m.id)) || (not (contains (acked past q) m.id) && is_out ys q m.id)) mine
    ∙ ap (λ b. (not (contains (acked past q) m.id) && not (is_out ds q m.id || ((b && id == m.id) || false))) || (not (contains (acked past q) m.id) && ((b && id == m.id) || false))) (eq-eqb q q refl)
    ∙ came-back (contains (acked past q) m.id) (is_out ds q m.id) (id == m.id) (λ e. subst (λ k. is_out ds q k ≡ false) (eqb-true id m.id e) free)) (line past q)
