-- Laws of acknowledgements, ends and settling, of a legal journal whose entries stand with the newest first.
use Rattle.std.proofs.Common.{◌≡◌, ℕ, ◌+◌, Bool, true, false, not, cond, List, [], ◌∷◌, ◌++◌, refl, sym, ap, ◌∙◌, subst, append-nil, ◌≤◌, arith, inl, inr}
use Rattle.std.specs.Prelude.{◌==◌, ◌&&◌, ◌||◌, filter, map}
use Rattle.std.specs.List.{list_any}
use Rattle.std.proofs.lemmas.Bool.{or_parts, or_from, or_left, or_cases, and_parts, not-true, eqb-true, ne_eqb, eq-eqb, and_left, and_right, cases_Bool, cases_eq, both_ways}
use Rattle.std.proofs.lemmas.List.Folds.{list_any-append}
use Rattle.cq_bytes.specs.Numbers.{contains}
use Rattle.cq_journal.specs.Lists.{HaveKeys}
use Rattle.cq_journal.specs.declared.event.Event.{Event}
use Rattle.cq_journal.specs.declared.event.Event.TheVariants.{Delivered, Acked, Dropped, Ended, Settled}
use Rattle.cq_journal.specs.declared.event.Entry.{Entry}
use Rattle.cq_journal.specs.declared.event.Message.{Message}
use Rattle.cq_journal.specs.History.{Delivery, line, is_delivery, open_after, open_deliveries, unacked, is_open, removes, acked, is_out, is_waiting, waiting, settles, settled, AreApart, comes_back}
use Rattle.cq_journal.specs.Legal.{delivers, delivered, IsFirst, Allowed, Legal}
use Rattle.cq_journal.proofs.Lists.{any-filter, filter-congr}

pub eqb-sym : (a b : ℕ) → (a == b) ≡ (b == a)
eqb-sym a b = elim (cases_eq a b) as (λ _. (a == b) ≡ (b == a)) [
  | inl e ↦ eq-eqb a b e ∙ sym (eq-eqb b a (sym e))
  | inr n ↦ ne_eqb a b n ∙ sym (ne_eqb b a (λ e. n (sym e)))
]

-- ---- no two open deliveries name one message

apart-push : (ds : List Delivery) (d : Delivery) → AreApart ds → is_out ds d.queue d.id ≡ false → AreApart (ds ++ d ∷ [])
apart-push [] d a h = (refl, tt)
apart-push (x ∷ ds) d a h =
    let parts = or_parts _ _ h in
    let other : (d.queue == x.queue && d.id == x.id) ≡ false = ap (λ b. b && d.id == x.id) (eqb-sym d.queue x.queue) ∙ ap (λ b. x.queue == d.queue && b) (eqb-sym d.id x.id) ∙ parts.0 in
    (list_any-append (λ k. k.queue == x.queue && k.id == x.id) ds (d ∷ []) ∙ or_from _ _ a.0 (or_from _ _ other refl), apart-push ds d a.1 parts.1)

apart-filter : (p : Delivery → Bool) (ds : List Delivery) → AreApart ds → AreApart (filter p ds)
apart-filter p [] a = tt
apart-filter p (d ∷ ds) a =
    elim (p d) as (λ b. AreApart (cond b (d ∷ filter p ds) (filter p ds)))
    [ true ↦ (any-filter (λ k. k.queue == d.queue && k.id == d.id) p ds a.0, apart-filter p ds a.1) | false ↦ apart-filter p ds a.1 ]

-- what is handed out next is neither removed nor out
pub first-waits : (past : List Entry) (q id : ℕ) (ms : List Message) → IsFirst id (filter (is_waiting past q) ms)
    → (contains (acked past q) id ≡ false) × (is_out (open_deliveries past) q id ≡ false)
first-waits past q id [] f = absurd f
first-waits past q id (m ∷ ms) f =
    (elim (is_waiting past q m) as (λ b. is_waiting past q m ≡ b → IsFirst id (cond b (m ∷ filter (is_waiting past q) ms) (filter (is_waiting past q) ms)) → (contains (acked past q) id ≡ false) × (is_out (open_deliveries past) q id ≡ false)) [
      | true ↦ λ w e. (let parts = and_parts _ _ w in
          subst (λ i. (contains (acked past q) i ≡ false) × (is_out (open_deliveries past) q i ≡ false)) e (not-true _ parts.0, not-true _ parts.1))
      | false ↦ λ w e. first-waits past q id ms e
    ]) refl f

apart-after : (e : Event) (past : List Entry) → Allowed past e → AreApart (open_deliveries past) → AreApart (open_after (open_deliveries past) e)
apart-after (Delivered c n q id) past l a = apart-push (open_deliveries past) _ a (first-waits past q id (line past q) l.1).1
apart-after (Acked c n) past l a = apart-filter _ _ a
apart-after (Ended c) past l a = apart-filter _ _ a
apart-after _ past l a = a

pub apart-open : (past : List Entry) → Legal past → AreApart (open_deliveries past)
apart-open [] l = tt
apart-open (e ∷ past) l = apart-after e.event past l.0 (apart-open past l.3)

-- ---- the next delivery number is not open

fresh-after : (e : Event) (past : List Entry) (c n : ℕ) → Allowed past e → delivered past c + delivers c e ≤ n → is_open past c n ≡ false → list_any (is_delivery c n) (open_after (open_deliveries past) e) ≡ false
fresh-after (Delivered c' n' q id) past c n l below h =
    list_any-append (is_delivery c n) (open_deliveries past) _ ∙ or_from _ _ h (or_from _ _ (
    elim (cases_Bool (c' == c)) as (λ _. (c' == c && n' == n) ≡ false) [
      | inr other ↦ and_left _ _ other
      | inl same ↦ and_right _ _ (ne_eqb n' n (λ e.
          let k : delivered past c + cond (c' == c) 1 0 ≤ n = below in
          let k2 : delivered past c + 1 ≤ n = subst (λ b. delivered past c + cond b 1 0 ≤ n) same k in
          let k3 : n' ≡ delivered past c = l.2 ∙ ap (delivered past) (eqb-true c' c same) in absurd (omega arith)))
    ]) refl)
fresh-after (Acked c' n') past c n l below h = any-filter (is_delivery c n) _ (open_deliveries past) h
fresh-after (Ended c') past c n l below h = any-filter (is_delivery c n) _ (open_deliveries past) h
fresh-after _ past c n l below h = h

pub fresh-number : (past : List Entry) (c n : ℕ) → Legal past → delivered past c ≤ n → is_open past c n ≡ false
fresh-number [] c n l below = refl
fresh-number (e ∷ past) c n l below = fresh-after e.event past c n l.0 below (fresh-number past c n l.3 (omega arith))

-- ---- acknowledgements leave what waits

or_swap : (a b c : Bool) → (a || (b || c)) ≡ (b || (a || c))
or_swap true true c = refl
or_swap true false c = refl
or_swap false b c = refl

or_left_assoc : (a b c : Bool) → (a || (b || c)) ≡ ((a || b) || c)
or_left_assoc true b c = refl
or_left_assoc false b c = refl

-- what is out is what this delivery names and what the others name
pub out-split : (ds : List Delivery) (c n q x : ℕ)
    → is_out ds q x ≡ (contains (map (λ d. d.id) (filter (λ d. is_delivery c n d && d.queue == q) ds)) x || is_out (filter (λ d. not (is_delivery c n d)) ds) q x)
out-split [] c n q x = refl
out-split (d ∷ ds) c n q x =
    let fs : List Delivery = filter (λ d. is_delivery c n d && d.queue == q) ds in
    let gs : List Delivery = filter (λ d. not (is_delivery c n d)) ds in
    let a : Bool = contains (map (λ d. d.id) fs) x in
    let b : Bool = is_out gs q x in
    ap (λ o. (d.queue == q && d.id == x) || o) (out-split ds c n q x)
    ∙ elim (is_delivery c n d) as (λ t. ((d.queue == q && d.id == x) || (a || b)) ≡ (contains (map (λ d. d.id) (cond (t && d.queue == q) (d ∷ fs) fs)) x || is_out (cond (not t) (d ∷ gs) gs) q x)) [
      | true ↦ elim (d.queue == q) as (λ u. ((u && d.id == x) || (a || b)) ≡ (contains (map (λ d. d.id) (cond u (d ∷ fs) fs)) x || b))
          [ true ↦ or_left_assoc (d.id == x) a b | false ↦ refl ]
      | false ↦ or_swap (d.queue == q && d.id == x) a b
    ]

acked-same : (a r o : Bool) → (not (a || r) && not o) ≡ (not a && not (r || o))
acked-same true r o = refl
acked-same false true o = refl
acked-same false false o = refl

dropped-same : (a r o : Bool) → (not (a || r) && not (r || o)) ≡ (not a && not (r || o))
dropped-same true r o = refl
dropped-same false true o = refl
dropped-same false false o = refl

pub waiting-acked : (past : List Entry) (stamp c n q : ℕ) → waiting (record { event = Acked c n; stamp = stamp } ∷ past) q ≡ waiting past q
waiting-acked past stamp c n q =
    let now : List Entry = record { event = Acked c n; stamp = stamp } ∷ past in
    let ds : List Delivery = open_deliveries past in
    let gs : List Delivery = filter (λ d. not (is_delivery c n d)) ds in
    ap (λ xs. filter (is_waiting now q) xs) (append-nil (line past q))
    ∙ filter-congr (is_waiting now q) (is_waiting past q) (λ m.
    ap (λ b. not b && not (is_out gs q m.id)) (list_any-append (λ y. y == m.id) (acked past q) (removes q ds (Acked c n)))
    ∙ acked-same (contains (acked past q) m.id) (contains (removes q ds (Acked c n)) m.id) (is_out gs q m.id)
    ∙ ap (λ o. not (contains (acked past q) m.id) && not o) (sym (out-split ds c n q m.id))) (line past q)

pub waiting-dropped : (past : List Entry) (stamp c n q : ℕ) → waiting (record { event = Dropped c n; stamp = stamp } ∷ past) q ≡ waiting past q
waiting-dropped past stamp c n q =
    let now : List Entry = record { event = Dropped c n; stamp = stamp } ∷ past in
    let ds : List Delivery = open_deliveries past in
    let gs : List Delivery = filter (λ d. not (is_delivery c n d)) ds in
    ap (λ xs. filter (is_waiting now q) xs) (append-nil (line past q))
    ∙ filter-congr (is_waiting now q) (is_waiting past q) (λ m.
    let r : Bool = contains (removes q ds (Dropped c n)) m.id in
    ap (λ b. not b && not (is_out ds q m.id)) (list_any-append (λ y. y == m.id) (acked past q) (removes q ds (Dropped c n)))
    ∙ ap (λ o. not (contains (acked past q) m.id || r) && not o) (out-split ds c n q m.id)
    ∙ dropped-same (contains (acked past q) m.id) r (is_out gs q m.id)
    ∙ ap (λ o. not (contains (acked past q) m.id) && not o) (sym (out-split ds c n q m.id))) (line past q)

-- ---- an end gives back to the old place

any-parts : {A : Type 0} (t p : A → Bool) (xs : List A) → list_any t xs ≡ (list_any t (filter p xs) || list_any t (filter (λ x. not (p x)) xs))
any-parts t p [] = refl
any-parts t p (x ∷ xs) =
    ap (λ b. t x || b) (any-parts t p xs)
    ∙ elim (p x) as (λ b. (t x || (list_any t (filter p xs) || list_any t (filter (λ x. not (p x)) xs))) ≡ (list_any t (cond b (x ∷ filter p xs) (filter p xs)) || list_any t (cond (not b) (x ∷ filter (λ x. not (p x)) xs) (filter (λ x. not (p x)) xs)))) [
      | true ↦ or_left_assoc (t x) _ _
      | false ↦ or_swap (t x) _ _
    ]

pub apart-parts : (p : Delivery → Bool) (ds : List Delivery) (q x : ℕ) → AreApart ds → is_out (filter p ds) q x ≡ true → is_out (filter (λ d. not (p d)) ds) q x ≡ false
apart-parts p [] q x a h = cc
apart-parts p (d ∷ ds) q x a h =
    let t : Delivery → Bool = λ k. k.queue == q && k.id == x in
    let alone : (d.queue == q && d.id == x) ≡ true → is_out ds q x ≡ false = λ e.
    let parts = and_parts _ _ e in
    subst (λ k. list_any (λ y. y.queue == k && y.id == x) ds ≡ false) (eqb-true d.queue q parts.0)
    (subst (λ k. list_any (λ y. y.queue == d.queue && y.id == k) ds ≡ false) (eqb-true d.id x parts.1) a.0) in
    (elim (p d) as (λ b. is_out (cond b (d ∷ filter p ds) (filter p ds)) q x ≡ true → is_out (cond (not b) (d ∷ filter (λ d. not (p d)) ds) (filter (λ d. not (p d)) ds)) q x ≡ false) [
      | true ↦ λ h. elim (or_cases _ _ h) [
        | inl here ↦ any-filter t (λ d. not (p d)) ds (alone here)
        | inr there ↦ apart-parts p ds q x a.1 there
      ]
      | false ↦ λ h. or_from _ _ (elim (cases_Bool (t d)) [
        | inl here ↦ absurd (both_ways _ (any-filter t p ds (alone here)) h)
        | inr other ↦ other
      ]) (apart-parts p ds q x a.1 h)
    ]) h

back-same : (a c o : Bool) → (c ≡ true → o ≡ false) → (not a && not o) ≡ ((not a && not (c || o)) || (not a && c))
back-same true c o h = refl
back-same false true o h = ap not (h refl)
back-same false false true h = refl
back-same false false false h = refl

-- after the end of a client its deliveries wait where they stood in the line, and all else waits as before
pub waiting-ended : (past : List Entry) (stamp c q : ℕ) → Legal past
    → waiting (record { event = Ended c; stamp = stamp } ∷ past) q ≡ filter (λ m. is_waiting past q m || comes_back past c q m) (line past q)
waiting-ended past stamp c q l =
    let now : List Entry = record { event = Ended c; stamp = stamp } ∷ past in
    let ds : List Delivery = open_deliveries past in
    let rest : List Delivery = filter (λ d. not (d.client == c)) ds in
    ap (λ xs. filter (is_waiting now q) xs) (append-nil (line past q))
    ∙ filter-congr (is_waiting now q) (λ m. is_waiting past q m || comes_back past c q m) (λ m.
    ap (λ xs. not (contains xs m.id) && not (is_out rest q m.id)) (append-nil (acked past q))
    ∙ back-same (contains (acked past q) m.id) (is_out (unacked past c) q m.id) (is_out rest q m.id) (apart-parts (λ d. d.client == c) ds q m.id (apart-open past l))
    ∙ ap (λ o. (not (contains (acked past q) m.id) && not o) || (not (contains (acked past q) m.id) && is_out (unacked past c) q m.id))
    (sym (any-parts (λ d. d.queue == q && d.id == m.id) (λ d. d.client == c) ds))) (line past q)

-- ---- what is settled was removed

removed-kept : (past : List Entry) (e : Entry) (q x : ℕ) → contains (acked past q) x ≡ true → contains (acked (e ∷ past) q) x ≡ true
removed-kept past e q x h = list_any-append (λ y. y == x) (acked past q) (removes q (open_deliveries past) e.event) ∙ or_left _ _ h

settles-removed : (e : Event) (past : List Entry) (q x : ℕ) → Allowed past e → contains (settles q e) x ≡ true → contains (acked past q) x ≡ true
settles-removed (Settled queue id) past q x a h =
    (elim (queue == q) as (λ b. (queue == q) ≡ b → contains (cond b (id ∷ []) []) x ≡ true → contains (acked past q) x ≡ true) [
      | true ↦ λ same h. (
          let here : id ≡ x = elim (or_cases _ _ h) [ inl e ↦ eqb-true id x e | inr e ↦ absurd (both_ways _ refl e) ] in
          subst (λ k. contains (acked past q) k ≡ true) here (subst (λ k. contains (acked past k) id ≡ true) (eqb-true queue q same) a.0))
      | false ↦ λ same h. cc
    ]) refl h
settles-removed _ past q x a h = cc

pub settled-removed : (past : List Entry) (q x : ℕ) → Legal past → contains (settled past q) x ≡ true → contains (acked past q) x ≡ true
settled-removed [] q x l h = cc
settled-removed (e ∷ past) q x l h =
    elim (or_cases _ _ (sym (list_any-append (λ y. y == x) (settled past q) (settles q e.event)) ∙ h)) [
      | inl before ↦ removed-kept past e q x (settled-removed past q x l.3 before)
      | inr here ↦ removed-kept past e q x (settles-removed e.event past q x l.0 here)
    ]

-- ---- no two open deliveries have one client and number

keys-push : (ds : List Delivery) (d : Delivery) → HaveKeys ds → list_any (is_delivery d.client d.number) ds ≡ false → HaveKeys (ds ++ d ∷ [])
keys-push [] d a h = (refl, tt)
keys-push (x ∷ ds) d a h =
    let parts = or_parts _ _ h in
    let other : is_delivery x.client x.number d ≡ false = ap (λ b. b && d.number == x.number) (eqb-sym d.client x.client) ∙ ap (λ b. x.client == d.client && b) (eqb-sym d.number x.number) ∙ parts.0 in
    (list_any-append (is_delivery x.client x.number) ds (d ∷ []) ∙ or_from _ _ a.0 (or_from _ _ other refl), keys-push ds d a.1 parts.1)

keys-filter : (p : Delivery → Bool) (ds : List Delivery) → HaveKeys ds → HaveKeys (filter p ds)
keys-filter p [] a = tt
keys-filter p (d ∷ ds) a =
    elim (p d) as (λ b. HaveKeys (cond b (d ∷ filter p ds) (filter p ds)))
    [ true ↦ (any-filter (is_delivery d.client d.number) p ds a.0, keys-filter p ds a.1) | false ↦ keys-filter p ds a.1 ]

keys-after : (e : Event) (past : List Entry) → Legal past → Allowed past e → HaveKeys (open_deliveries past) → HaveKeys (open_after (open_deliveries past) e)
keys-after (Delivered c n q id) past l a k =
    keys-push (open_deliveries past) (record { client = c; number = n; queue = q; id = id }) k (fresh-number past c n l (let e : n ≡ delivered past c = a.2 in omega arith))
keys-after (Acked c n) past l a k = keys-filter _ _ k
keys-after (Ended c) past l a k = keys-filter _ _ k
keys-after _ past l a k = k

pub keys-open : (past : List Entry) → Legal past → HaveKeys (open_deliveries past)
keys-open [] l = tt
keys-open (e ∷ past) l = keys-after e.event past l.3 l.0 (keys-open past l.3)

-- whether a delivery is open for a queue
abbrev pub is_open_for : List Delivery → ℕ → ℕ → ℕ → Bool
is_open_for ds c n q = list_any (λ d. is_delivery c n d && d.queue == q) ds

for-none : (ds : List Delivery) (c n q : ℕ) → list_any (is_delivery c n) ds ≡ false → is_open_for ds c n q ≡ false
for-none [] c n q h = refl
for-none (d ∷ ds) c n q h = let parts = or_parts _ _ h in or_from _ _ (and_left _ _ parts.0) (for-none ds c n q parts.1)

-- a delivery is open for one queue alone
pub one-queue : (ds : List Delivery) (c n p q : ℕ) → HaveKeys ds → is_open_for ds c n p ≡ true → (p == q) ≡ false → is_open_for ds c n q ≡ false
one-queue [] c n p q k o d = cc
one-queue (x ∷ ds) c n p q k o d =
    elim (cases_Bool (is_delivery c n x)) [
      | inl t ↦ (
          let s = and_parts _ _ t in
          let none : list_any (is_delivery c n) ds ≡ false = subst (λ j. list_any (is_delivery j n) ds ≡ false) (eqb-true x.client c s.0) (subst (λ j. list_any (is_delivery x.client j) ds ≡ false) (eqb-true x.number n s.1) k.0) in
          elim (or_cases (is_delivery c n x && x.queue == p) (is_open_for ds c n p) o) [
            | inl here ↦ (
                let e : x.queue ≡ p = eqb-true x.queue p (and_parts (is_delivery c n x) (x.queue == p) here).1 in
                or_from (is_delivery c n x && x.queue == q) (is_open_for ds c n q) (and_right (is_delivery c n x) (x.queue == q) (ap (λ j. j == q) e ∙ d)) (for-none ds c n q none))
            | inr there ↦ absurd (both_ways _ (for-none ds c n p none) there)
          ])
      | inr f ↦ elim (or_cases (is_delivery c n x && x.queue == p) (is_open_for ds c n p) o) [
        | inl here ↦ absurd (both_ways _ f (and_parts (is_delivery c n x) (x.queue == p) here).0)
        | inr there ↦ or_from (is_delivery c n x && x.queue == q) (is_open_for ds c n q) (and_left (is_delivery c n x) (x.queue == q) f) (one-queue ds c n p q k.1 there d)
      ]
    ]
