-- Laws of a legal journal, whose entries stand with the newest first.
use Rattle.cq_journal.specs.Lists.{HasDistinctIds}
use Rattle.std.proofs.Common.{◌≡◌, ◌≢◌, ℕ, Bool, true, false, not, cond, List, [], ◌∷◌, ◌++◌, refl, sym, ap, ◌∙◌, subst, append-nil, length, length-append, ◌≤◌, arith}
use Rattle.std.specs.Prelude.{◌==◌, ◌&&◌, ◌||◌, filter, map}
use Rattle.std.specs.List.{list_any, AllByRecursion}
use Rattle.std.proofs.lemmas.Bool.{or_parts, or_from, eqb-false, eqb-true, ne_eqb, eq-eqb, and_right}
use Rattle.std.proofs.lemmas.List.Folds.{list_any-append}
use Rattle.std.proofs.lemmas.List.Elements.{filter-append}
use Rattle.cq_bytes.specs.Numbers.{contains}
use Rattle.cq_journal.specs.declared.event.Event.{Event}
use Rattle.cq_journal.specs.declared.event.Event.TheVariants.{Opened, Published, Delivered, Acked, Dropped, Ended}
use Rattle.cq_journal.specs.declared.event.Entry.{Entry}
use Rattle.cq_journal.specs.declared.lines.Line.{Line}
use Rattle.cq_journal.specs.declared.event.Message.{Message}
use Rattle.cq_journal.specs.History.{Delivery, has_id, opened_in, adds, line, is_delivery, open_after, open_deliveries, removes, acked, is_out, is_waiting, waiting}
use Rattle.cq_journal.specs.Legal.{publish_count, published, brings, has, IsFirst, AreLines, Allowed, Legal}
use Rattle.cq_journal.specs.Asks.{body_of, ask, asks}
use Rattle.cq_inbox.specs.declared.request.Request.TheVariants.{Publish}
use Rattle.cq_journal.proofs.Lists.{any-filter, filter-congr, filter-refine, filter-others, distinct-filter, body_of-kept}

-- ---- an id that no entry brought is nowhere

opened-unbrought : (ls : List Line) (q x : ℕ) → list_any (λ l. l.id == x) ls ≡ false → has_id (opened_in q ls) x ≡ false
opened-unbrought [] q x h = refl
opened-unbrought (l ∷ ls) q x h =
    let parts = or_parts _ _ h in
    elim (l.queue == q) as (λ b. has_id (cond b (record { id = l.id; body = l.body } ∷ opened_in q ls) (opened_in q ls)) x ≡ false)
    [ true ↦ or_from _ _ parts.0 (opened-unbrought ls q x parts.1) | false ↦ opened-unbrought ls q x parts.1 ]

adds-unbrought : (e : Event) (q x : ℕ) → brings x e ≡ false → has_id (adds q e) x ≡ false
adds-unbrought (Opened lines) q x h = opened-unbrought lines q x h
adds-unbrought (Published c n id queues body) q x h =
    elim (contains queues q) as (λ b. has_id (cond b (record { id = id; body = body } ∷ []) []) x ≡ false)
    [ true ↦ or_from _ _ h refl | false ↦ refl ]
adds-unbrought _ q x h = refl

pub line-unbrought : (past : List Entry) (q x : ℕ) → has (brings x) past ≡ false → has_id (line past q) x ≡ false
line-unbrought [] q x h = refl
line-unbrought (e ∷ past) q x h =
    let parts = or_parts _ _ h in
    list_any-append _ (line past q) (adds q e.event) ∙ or_from _ _ (line-unbrought past q x parts.1) (adds-unbrought e.event q x parts.0)

first-other : (ms : List Message) (id x : ℕ) → IsFirst id ms → has_id ms x ≡ false → (id == x) ≡ false
first-other [] id x f h = absurd f
first-other (m ∷ ms) id x f h = subst (λ i. (i == x) ≡ false) f (or_parts _ _ h).0

out-after : (e : Event) (past : List Entry) (q x : ℕ) → Allowed past e → has (brings x) past ≡ false → is_out (open_deliveries past) q x ≡ false
    → is_out (open_after (open_deliveries past) e) q x ≡ false
out-after (Delivered c n queue id) past q x a h o =
    list_any-append _ (open_deliveries past) _ ∙ or_from _ _ o (or_from _ _ (and_right (queue == q) (id == x)
    (first-other (waiting past queue) id x a.1 (any-filter _ _ (line past queue) (line-unbrought past queue x h)))) refl)
out-after (Acked c n) past q x a h o = any-filter _ _ (open_deliveries past) o
out-after (Ended c) past q x a h o = any-filter _ _ (open_deliveries past) o
out-after _ past q x a h o = o

pub out-unbrought : (past : List Entry) (q x : ℕ) → Legal past → has (brings x) past ≡ false → is_out (open_deliveries past) q x ≡ false
out-unbrought [] q x l h = refl
out-unbrought (e ∷ past) q x l h =
    let parts = or_parts _ _ h in out-after e.event past q x l.0 parts.1 (out-unbrought past q x l.3 parts.1)

named-out : (ds : List Delivery) (c n q x : ℕ) → is_out ds q x ≡ false
    → contains (map (λ d. d.id) (filter (λ d. is_delivery c n d && d.queue == q) ds)) x ≡ false
named-out [] c n q x h = refl
named-out (d ∷ ds) c n q x h =
    let parts = or_parts _ _ h in
    elim (is_delivery c n d) as (λ b. contains (map (λ d. d.id) (cond (b && d.queue == q) (d ∷ filter (λ d. is_delivery c n d && d.queue == q) ds) (filter (λ d. is_delivery c n d && d.queue == q) ds))) x ≡ false) [
      | true ↦ (elim (d.queue == q) as (λ b. (b && d.id == x) ≡ false → contains (map (λ d. d.id) (cond b (d ∷ filter (λ d. is_delivery c n d && d.queue == q) ds) (filter (λ d. is_delivery c n d && d.queue == q) ds))) x ≡ false)
          [ true ↦ λ e. or_from _ _ e (named-out ds c n q x parts.1) | false ↦ λ _. named-out ds c n q x parts.1 ]) parts.0
      | false ↦ named-out ds c n q x parts.1
    ]

removes-unbrought : (e : Event) (open_ : List Delivery) (q x : ℕ) → is_out open_ q x ≡ false → contains (removes q open_ e) x ≡ false
removes-unbrought (Acked c n) open_ q x o = named-out open_ c n q x o
removes-unbrought (Dropped c n) open_ q x o = named-out open_ c n q x o
removes-unbrought _ open_ q x o = refl

pub acked-unbrought : (past : List Entry) (q x : ℕ) → Legal past → has (brings x) past ≡ false → contains (acked past q) x ≡ false
acked-unbrought [] q x l h = refl
acked-unbrought (e ∷ past) q x l h =
    let parts = or_parts _ _ h in
    list_any-append _ (acked past q) (removes q (open_deliveries past) e.event)
    ∙ or_from _ _ (acked-unbrought past q x l.3 parts.1) (removes-unbrought e.event (open_deliveries past) q x (out-unbrought past q x l.3 parts.1))

-- ---- the ids of a line are distinct

distinct-push : (xs : List Message) (m : Message) → HasDistinctIds xs → has_id xs m.id ≡ false → HasDistinctIds (xs ++ m ∷ [])
distinct-push [] m d h = (refl, tt)
distinct-push (x ∷ xs) m d h =
    let parts = or_parts _ _ h in
    (list_any-append _ xs (m ∷ []) ∙ or_from _ _ d.0 (or_from _ _ (ne_eqb m.id x.id (λ e. eqb-false x.id m.id parts.0 (sym e))) refl), distinct-push xs m d.1 parts.1)

opened-other : (l : Line) (ls : List Line) (q : ℕ) → l.queue ≡ q → AllByRecursion (λ k. l.id ≡ k.id → (l.queue ≢ k.queue) × (l.body ≡ k.body)) ls → has_id (opened_in q ls) l.id ≡ false
opened-other l [] q e a = refl
opened-other l (k ∷ ks) q e a =
    (elim (k.queue == q) as (λ b. (k.queue == q) ≡ b → has_id (cond b (record { id = k.id; body = k.body } ∷ opened_in q ks) (opened_in q ks)) l.id ≡ false) [
      | true ↦ λ here. or_from _ _ (ne_eqb k.id l.id (λ same. (a.0 (sym same)).0 (e ∙ sym (eqb-true k.queue q here)))) (opened-other l ks q e a.1)
      | false ↦ λ _. opened-other l ks q e a.1
    ]) refl

distinct-opened : (ls : List Line) (q : ℕ) → AreLines ls → HasDistinctIds (opened_in q ls)
distinct-opened [] q a = tt
distinct-opened (l ∷ ls) q a =
    (elim (l.queue == q) as (λ b. (l.queue == q) ≡ b → HasDistinctIds (cond b (record { id = l.id; body = l.body } ∷ opened_in q ls) (opened_in q ls))) [
      | true ↦ λ here. (opened-other l ls q (eqb-true l.queue q here) a.0, distinct-opened ls q a.1)
      | false ↦ λ _. distinct-opened ls q a.1
    ]) refl

distinct-after : (e : Event) (past : List Entry) (q : ℕ) → Allowed past e → HasDistinctIds (line past q) → HasDistinctIds (line past q ++ adds q e)
distinct-after (Opened lines) past q a d = subst (λ (p : List Entry). HasDistinctIds (line p q ++ opened_in q lines)) (sym a.0) (distinct-opened lines q a.1)
distinct-after (Published c n id queues body) past q a d =
    elim (contains queues q) as (λ b. HasDistinctIds (line past q ++ cond b (record { id = id; body = body } ∷ []) [])) [
      | true ↦ distinct-push (line past q) (record { id = id; body = body }) d (line-unbrought past q id a.1)
      | false ↦ subst HasDistinctIds (sym (append-nil (line past q))) d
    ]
distinct-after _ past q a d = subst HasDistinctIds (sym (append-nil (line past q))) d

pub distinct-line : (past : List Entry) (q : ℕ) → Legal past → HasDistinctIds (line past q)
distinct-line [] q l = tt
distinct-line (e ∷ past) q l = distinct-after e.event past q l.0 (distinct-line past q l.3)

-- ---- what waits after an event

-- a publish to the queue adds its message at the end
pub waiting-published : (past : List Entry) (stamp c n id q : ℕ) (queues body : List ℕ) → Legal past → has (brings id) past ≡ false → contains queues q ≡ true
    → waiting (record { event = Published c n id queues body; stamp = stamp } ∷ past) q ≡ waiting past q ++ record { id = id; body = body } ∷ []
waiting-published past stamp c n id q queues body l h there =
    let m : Message = record { id = id; body = body } in
    let w : Message → Bool = is_waiting past q in
    let waits : w m ≡ true = simp (acked-unbrought past q id l h, out-unbrought past q id l h) refl in
    ap (λ b. filter (is_waiting (record { event = Published c n id queues body; stamp = stamp } ∷ past) q) (line past q ++ cond b (m ∷ []) [])) there
    ∙ filter-congr _ w (λ x. ap (λ xs. not (contains xs x.id) && not (is_out (open_deliveries past) q x.id)) (append-nil (acked past q))) (line past q ++ m ∷ [])
    ∙ filter-append w (line past q) (m ∷ [])
    ∙ ap (λ b. filter w (line past q) ++ cond b (m ∷ []) []) waits

regrouped : (a b c : Bool) → (not a && not (b || (c || false))) ≡ ((not a && not b) && not c)
regrouped true b c = refl
regrouped false true c = refl
regrouped false false true = refl
regrouped false false false = refl

-- a delivery removes the first message
pub waiting-delivered : (past : List Entry) (stamp c n q : ℕ) (m : Message) (ms : List Message) → Legal past → waiting past q ≡ m ∷ ms
    → waiting (record { event = Delivered c n q m.id; stamp = stamp } ∷ past) q ≡ ms
waiting-delivered past stamp c n q m ms l first =
    let w : Message → Bool = is_waiting past q in
    let others : Message → Bool = λ k. not (m.id == k.id) in
    let d : Delivery = record { client = c; number = n; queue = q; id = m.id } in
    let now : List Entry = record { event = Delivered c n q m.id; stamp = stamp } ∷ past in
    let distinct : HasDistinctIds (m ∷ ms) = subst HasDistinctIds first (distinct-filter w (line past q) (distinct-line past q l)) in
    let split : (x : Message) → is_waiting now q x ≡ (w x && others x) = λ x.
    ap (λ xs. not (contains xs x.id) && not (is_out (open_deliveries past ++ d ∷ []) q x.id)) (append-nil (acked past q))
    ∙ ap (λ b. not (contains (acked past q) x.id) && not b) (list_any-append (λ d. d.queue == q && d.id == x.id) (open_deliveries past) (d ∷ []))
    ∙ ap (λ b. not (contains (acked past q) x.id) && not (is_out (open_deliveries past) q x.id || ((b && m.id == x.id) || false))) (eq-eqb q q refl)
    ∙ regrouped (contains (acked past q) x.id) (is_out (open_deliveries past) q x.id) (m.id == x.id) in
    ap (λ xs. filter (is_waiting now q) xs) (append-nil (line past q))
    ∙ filter-refine (is_waiting now q) w others split (line past q)
    ∙ ap (λ xs. filter others xs) first
    ∙ ap (λ b. cond (not b) (m ∷ filter others ms) (filter others ms)) (eq-eqb m.id m.id refl)
    ∙ filter-others m.id ms distinct.0

-- its body is found by its id
pub body_of-first : (past : List Entry) (q : ℕ) (m : Message) (ms : List Message) → Legal past → waiting past q ≡ m ∷ ms → body_of m.id (line past q) ≡ m.body
body_of-first past q m ms l first = body_of-kept (is_waiting past q) (line past q) m ms (distinct-line past q l) first

-- an event that touches no message leaves what waits
pub waiting-quiet : (past : List Entry) (e : Entry) (q : ℕ) → adds q e.event ≡ [] → removes q (open_deliveries past) e.event ≡ [] → open_after (open_deliveries past) e.event ≡ open_deliveries past
    → waiting (e ∷ past) q ≡ waiting past q
waiting-quiet past e q none kept same =
    ap (λ xs. filter (is_waiting (e ∷ past) q) (line past q ++ xs)) none
    ∙ ap (λ xs. filter (is_waiting (e ∷ past) q) xs) (append-nil (line past q))
    ∙ filter-congr _ _ (λ x. ap (λ xs. not (contains (acked past q ++ xs) x.id) && not (is_out (open_after (open_deliveries past) e.event) q x.id)) kept
    ∙ ap (λ xs. not (contains xs x.id) && not (is_out (open_after (open_deliveries past) e.event) q x.id)) (append-nil (acked past q))
    ∙ ap (λ ds. not (contains (acked past q) x.id) && not (is_out ds q x.id)) same) (line past q)

-- ---- publishes are asked for

publish-asked : (e : Event) (c : ℕ) → publish_count c e ≤ length (ask c e)
publish-asked (Published client number id queues body) c = elim (client == c) as (λ b. cond b 1 0 ≤ length (cond b (Publish queues body ∷ []) [])) [ true ↦ omega arith | false ↦ omega arith ]
publish-asked _ c = omega arith

pub published-asked : (past : List Entry) (c : ℕ) → published past c ≤ length (asks past c)
published-asked [] c = omega arith
published-asked (e ∷ past) c = omega (arith, published-asked past c, publish-asked e.event c, length-append (asks past c) (ask c e.event))
