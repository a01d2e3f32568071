-- What a queue's items tell of the history that they follow.
use Rattle.cq_journal.specs.Lists.{HasDistinctIds, HaveKeys}
use Rattle.std.proofs.Common.{◌≡◌, ℕ, true, false, cond, List, [], ◌∷◌, length, refl, sym, ap, ◌∙◌, subst, arith, inl, inr}
use Rattle.std.specs.Prelude.{◌==◌, ◌&&◌, ◌||◌, filter, map}
use Rattle.std.specs.List.{list_any}
use Rattle.std.proofs.lemmas.Bool.{or_left, or_right, or_cases, and_parts, and_from, eq-eqb, eqb-true, cases_Bool, both_ways}
use Rattle.std.proofs.lemmas.List.{length-map}
use Rattle.cq_bytes.specs.Numbers.{contains}
use Rattle.cq_journal.specs.declared.event.Entry.{Entry}
use Rattle.cq_journal.specs.declared.event.Message.{Message}
use Rattle.cq_journal.specs.History.{Delivery, has_id, line, is_delivery, open_deliveries, acked, waiting}
use Rattle.cq_journal.specs.Legal.{delivered, Legal}
use Rattle.cq_journal.proofs.Lists.{distinct-filter}
use Rattle.cq_journal.proofs.Laws.{distinct-line}
use Rattle.cq_journal.proofs.More.{keys-open, fresh-number}
use Rattle.cq_items.specs.Item.{Item}
use Rattle.cq_items.specs.declared.item.Holder.{Holder}
use Rattle.cq_items.specs.declared.item.Holder.TheVariants.{Waiting, Out, Gone}
use Rattle.cq_items.specs.Items.{waiting_items, out_for, is_out, is_out_to, has_item}
use Rattle.cq_items.specs.Queue.{AreOutOnce}
use Rattle.cq_queue_laws.specs.Follows.{Whereabouts, bare, stands, outside, standing, is_unsettled, Follows}
use Rattle.cq_queue_laws.specs.Laws.{AreOnce}
use Rattle.cq_queue_laws.proofs.Keeps.{follows-waiting}

pub follows-count : (items : List Item) (past : List Entry) (q : ℕ) → Legal past → Follows items past q → length (waiting_items items) ≡ length (waiting past q)
follows-count items past q l f = sym (length-map (waiting_items items) (λ (i : Item). i.id)) ∙ ap length (follows-waiting items past q l f) ∙ length-map (waiting past q) (λ (m : Message). m.id)

-- ---- ids

same-has : (past : List Entry) (q : ℕ) (is : List Item) (ms : List Message) (x : ℕ) → map bare is ≡ map (stands past q) ms → has_item is x ≡ has_id ms x
same-has past q [] [] x e = refl
same-has past q [] (m ∷ ms) x e = cc
same-has past q (i ∷ is) [] x e = cc
same-has past q (i ∷ is) (m ∷ ms) x e =
    let head : bare i ≡ stands past q m = cc in
    let tail : map bare is ≡ map (stands past q) ms = cc in
    ap (λ (w : Whereabouts). w.id == x || has_item is x) head ∙ ap (λ b. m.id == x || b) (same-has past q is ms x tail)

once-items : (past : List Entry) (q : ℕ) (is : List Item) (ms : List Message) → map bare is ≡ map (stands past q) ms → HasDistinctIds ms → AreOnce is
once-items past q [] ms e d = tt
once-items past q (i ∷ is) [] e d = cc
once-items past q (i ∷ is) (m ∷ ms) e d =
    let head : bare i ≡ stands past q m = cc in
    let tail : map bare is ≡ map (stands past q) ms = cc in
    let same : i.id ≡ m.id = ap (λ (w : Whereabouts). w.id) head in
    (ap (has_item is) same ∙ same-has past q is ms m.id tail ∙ d.0, once-items past q is ms tail d.1)

unsettled-distinct : (past : List Entry) (q : ℕ) → Legal past → HasDistinctIds (filter (is_unsettled past q) (line past q))
unsettled-distinct past q l = distinct-filter (is_unsettled past q) (line past q) (distinct-line past q l)

pub follows-once : (items : List Item) (past : List Entry) (q : ℕ) → Legal past → Follows items past q → AreOnce items
follows-once items past q l f = once-items past q items (filter (is_unsettled past q) (line past q)) f (unsettled-distinct past q l)

-- ---- who is out

outside-open : (ds : List Delivery) (q x c d : ℕ) → outside ds q x ≡ Out c d → list_any (is_delivery c d) ds ≡ true
outside-open [] q x c d e = cc
outside-open (k ∷ ds) q x c d e =
    (elim (k.queue == q && k.id == x) as (λ b. cond b (Out k.client k.number) (outside ds q x) ≡ Out c d → (is_delivery c d k || list_any (is_delivery c d) ds) ≡ true) [
      | true ↦ λ e. (
          let a : k.client ≡ c = cc in
          let b : k.number ≡ d = cc in
          or_left (is_delivery c d k) (list_any (is_delivery c d) ds) (and_from _ _ (eq-eqb k.client c a) (eq-eqb k.number d b)))
      | false ↦ λ e. or_right (is_delivery c d k) (list_any (is_delivery c d) ds) (outside-open ds q x c d e)
    ]) e

-- a delivery names one message
here-alone : (k : Delivery) (ds : List Delivery) (q y c d : ℕ) → HaveKeys (k ∷ ds) → Out k.client k.number ≡ Out c d → outside ds q y ≡ Out c d → ⊥
here-alone k ds q y c d u here there =
    let a : k.client ≡ c = cc in
    let b : k.number ≡ d = cc in
    let none : list_any (is_delivery c d) ds ≡ false = subst (λ j. list_any (is_delivery j d) ds ≡ false) a (subst (λ j. list_any (is_delivery k.client j) ds ≡ false) b u.0) in
    both_ways _ none (outside-open ds q y c d there)

outside-unique : (ds : List Delivery) (q x y c d : ℕ) → HaveKeys ds → outside ds q x ≡ Out c d → outside ds q y ≡ Out c d → x ≡ y
outside-unique [] q x y c d u ex ey = cc
outside-unique (k ∷ ds) q x y c d u ex ey =
    (elim (k.queue == q && k.id == x) as (λ b. (k.queue == q && k.id == x) ≡ b → cond b (Out k.client k.number) (outside ds q x) ≡ Out c d → x ≡ y) [
      | true ↦ λ hx ex. (elim (k.queue == q && k.id == y) as (λ b. (k.queue == q && k.id == y) ≡ b → cond b (Out k.client k.number) (outside ds q y) ≡ Out c d → x ≡ y) [
        | true ↦ λ hy ey. sym (eqb-true k.id x (and_parts (k.queue == q) (k.id == x) hx).1) ∙ eqb-true k.id y (and_parts (k.queue == q) (k.id == y) hy).1
        | false ↦ λ hy ey. absurd (here-alone k ds q y c d u ex ey)
      ]) refl ey
      | false ↦ λ hx ex. (elim (k.queue == q && k.id == y) as (λ b. (k.queue == q && k.id == y) ≡ b → cond b (Out k.client k.number) (outside ds q y) ≡ Out c d → x ≡ y) [
        | true ↦ λ hy ey. absurd (here-alone k ds q x c d u ey ex)
        | false ↦ λ hy ey. outside-unique ds q x y c d u.1 ex ey
      ]) refl ey
    ]) refl ex

standing-outside : (past : List Entry) (q x c d : ℕ) → standing past q x ≡ Out c d → outside (open_deliveries past) q x ≡ Out c d
standing-outside past q x c d e =
    (elim (contains (acked past q) x) as (λ b. cond b Gone (outside (open_deliveries past) q x) ≡ Out c d → outside (open_deliveries past) q x ≡ Out c d) [ true ↦ λ e. cc | false ↦ λ e. e ]) e

out-is : (h : Holder) (c d : ℕ) → is_out c d h ≡ true → h ≡ Out c d
out-is Waiting c d e = cc
out-is (Out x y) c d e = let p = and_parts _ _ e in ap (λ k. Out k y) (eqb-true x c p.0) ∙ ap (λ k. Out c k) (eqb-true y d p.1)
out-is Gone c d e = cc

-- a message that is out for a delivery
abbrev IsOutSomewhere : List Entry → ℕ → List Message → ℕ → ℕ → Type 0
IsOutSomewhere past q ms c d = (x : ℕ) × ((has_id ms x ≡ true) × (standing past q x ≡ Out c d))

out-tells : (past : List Entry) (q : ℕ) (is : List Item) (ms : List Message) (c d : ℕ) → map bare is ≡ map (stands past q) ms → is_out_to c d is ≡ true → IsOutSomewhere past q ms c d
out-tells past q [] ms c d e h = let n : false ≡ true = h in absurd (both_ways _ refl n)
out-tells past q (i ∷ is) [] c d e h = let n : ⊥ = cc in absurd n
out-tells past q (i ∷ is) (m ∷ ms) c d e h =
    let head : bare i ≡ stands past q m = cc in
    let tail : map bare is ≡ map (stands past q) ms = cc in
    elim (or_cases (out_for c d i) (is_out_to c d is) h) [
      | inl here ↦ (m.id, (or_left (m.id == m.id) (has_id ms m.id) (eq-eqb m.id m.id refl), sym (ap (λ (w : Whereabouts). w.holder) head) ∙ out-is i.holder c d here))
      | inr there ↦ (let r = out-tells past q is ms c d tail there in (r.0, (or_right (m.id == r.0) (has_id ms r.0) r.1.0, r.1.1)))
    ]

out-once : (past : List Entry) (q : ℕ) (is : List Item) (ms : List Message) → HaveKeys (open_deliveries past) → map bare is ≡ map (stands past q) ms → HasDistinctIds ms → AreOutOnce is
out-once past q [] ms u e d = tt
out-once past q (i ∷ is) [] u e d = cc
out-once past q (i ∷ is) (m ∷ ms) u e d =
    let head : bare i ≡ stands past q m = cc in
    let tail : map bare is ≡ map (stands past q) ms = cc in (
      λ c n p. elim (cases_Bool (is_out_to c n is)) [
        | inr f ↦ f
        | inl t ↦ (
            let r = out-tells past q is ms c n tail t in
            let mine : standing past q m.id ≡ Out c n = sym (ap (λ (w : Whereabouts). w.holder) head) ∙ out-is i.holder c n p in
            let same : r.0 ≡ m.id = outside-unique (open_deliveries past) q r.0 m.id c n u (standing-outside past q r.0 c n r.1.1) (standing-outside past q m.id c n mine) in
            absurd (both_ways _ d.0 (subst (λ k. has_id ms k ≡ true) same r.1.0)))
      ],
      out-once past q is ms u tail d.1,
    )

pub follows-out-once : (items : List Item) (past : List Entry) (q : ℕ) → Legal past → Follows items past q → AreOutOnce items
follows-out-once items past q l f = out-once past q items (filter (is_unsettled past q) (line past q)) (keys-open past l) f (unsettled-distinct past q l)

-- the client's next number is out nowhere
pub follows-fresh : (items : List Item) (past : List Entry) (q c : ℕ) → Legal past → Follows items past q → is_out_to c (delivered past c) items ≡ false
follows-fresh items past q c l f = elim (cases_Bool (is_out_to c (delivered past c) items)) [
  | inr n ↦ n
  | inl t ↦ (
      let r = out-tells past q items (filter (is_unsettled past q) (line past q)) c (delivered past c) f t in
      absurd (both_ways _ (fresh-number past c (delivered past c) l (omega arith)) (outside-open (open_deliveries past) q r.0 c (delivered past c) (standing-outside past q r.0 c (delivered past c) r.1.1))))
]
