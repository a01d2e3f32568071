-- Which entries are decided, and what passing one does.
use Prim.Native.Nat.{zero, suc}
use Rattle.std.proofs.Common.{◌≡◌, ◌≢◌, ℕ, ◌+◌, ◌-◌, ◌<◌, ◌≤◌, Bool, true, false, not, cond, List, [], ◌∷◌, length, get_or, set, drop, refl, sym, ap, ◌∙◌, subst, arith, inl, inr, length-drop}
use Rattle.std.specs.Prelude.{is_some, ◌==◌, ◌||◌, Option, None, Some, slice_get, option_map}
use Rattle.std.proofs.lemmas.Bool.{cond-true, cond-false, not-true, and_from, eq-eqb, cases_lt}
use Rattle.std.proofs.lemmas.List.{drop_more, get_or_read}
use Rattle.cq_items.specs.Item.{Item}
use Rattle.cq_items.specs.declared.item.Stand.{Stand}
use Rattle.cq_items.specs.declared.item.Passed.{Passed}
use Rattle.cq_items.specs.declared.item.Holder.{Holder}
use Rattle.cq_items.specs.declared.item.Holder.TheVariants.{Out}
use Rattle.cq_items.specs.Items.{is_free, is_gone, is_out, out_for, undecided, undecided_items, decide, skips, pass_first, IsHeldBy, MayKeep, MayPass, IsPassed, holder_of}
use Rattle.cq_items.specs.Slots.{slot_at, passes, alive}
use Rattle.cq_items.specs.declared.outs.Held.{Held}
use Rattle.cq_items.specs.Outs.{find}
use Rattle.cq_items.specs.Queue.{FindsOut, IsSplit, IsIndexed}
use Rattle.cq_items.proofs.Places.{IsPassing, passing}
use Rattle.cq_items.proofs.Steps.{IsHeadAt, indexed-kept}

tail-none : (s : Option Item) (ss : List (Option Item)) → IsSplit undecided (s ∷ ss) 0 → IsSplit undecided ss 0
tail-none s ss h = record {
  within = omega arith;
  before = λ k l. absurd (omega arith);
  after = λ k a l. h.after (suc k) (omega arith) (omega arith);
}

tail-more : (s : Option Item) (ss : List (Option Item)) (f : ℕ) → IsSplit undecided (s ∷ ss) (suc f) → IsSplit undecided ss f
tail-more s ss f h = record {
  within = omega (arith, h.within);
  before = λ k l. h.before (suc k) (omega arith);
  after = λ k a l. h.after (suc k) (omega arith) (omega arith);
}

pub undecided-drop : (ss : List (Option Item)) (f : ℕ) → IsSplit undecided ss f → undecided_items (alive ss) ≡ alive (drop f ss)
undecided-drop [] zero h = refl
undecided-drop [] (suc f) h = refl
undecided-drop (None ∷ ss) zero h = let t : false ≡ true = h.after 0 (omega arith) (omega arith) in cc
undecided-drop (Some i ∷ ss) zero h =
    let t : undecided i ≡ true = h.after 0 (omega arith) (omega arith) in
    cond-true (undecided i) (i ∷ undecided_items (alive ss)) (undecided_items (alive ss)) t ∙ ap (λ (is : List Item). i ∷ is) (undecided-drop ss 0 (tail-none (Some i) ss h))
undecided-drop (None ∷ ss) (suc f) h = undecided-drop ss f (tail-more None ss f h)
undecided-drop (Some i ∷ ss) (suc f) h =
    let t : undecided i ≡ false = h.before 0 (omega arith) in
    cond-false (undecided i) (i ∷ undecided_items (alive ss)) (undecided_items (alive ss)) t ∙ undecided-drop ss f (tail-more (Some i) ss f h)

-- ---- what is read

drop-at : (ss : List (Option Item)) (f j : ℕ) → slot_at (drop f ss) j ≡ slot_at ss (f + j)
drop-at [] zero j = refl
drop-at [] (suc f) j = refl
drop-at (s ∷ ss) zero j = ap (slot_at (s ∷ ss)) (omega arith)
drop-at (s ∷ ss) (suc f) j = drop-at ss f j ∙ ap (slot_at (s ∷ ss)) (let e : suc (f + j) ≡ suc f + j = omega arith in e)

get-alive : (ss : List (Option Item)) (k : ℕ) → ((j : ℕ) → j < length ss → passes undecided (slot_at ss j) ≡ true) → slice_get (alive ss) k ≡ slot_at ss k
get-alive [] k h = refl
get-alive (None ∷ ss) k h = let t : false ≡ true = h 0 (omega arith) in cc
get-alive (Some i ∷ ss) zero h = refl
get-alive (Some i ∷ ss) (suc k) h = get-alive ss k (λ j l. h (suc j) (omega arith))

get-dropped : (ss : List (Option Item)) (f k : ℕ) → IsSplit undecided ss f → slice_get (alive (drop f ss)) k ≡ slot_at ss (f + k)
get-dropped [] zero k h = refl
get-dropped [] (suc f) k h = refl
get-dropped (s ∷ ss) zero k h = get-alive (s ∷ ss) k (λ j l. h.after j (omega arith) l) ∙ ap (slot_at (s ∷ ss)) (omega arith)
get-dropped (s ∷ ss) (suc f) k h =
    let e : suc (f + k) ≡ suc f + k = omega arith in
    get-dropped ss f k (tail-more s ss f h) ∙ ap (slot_at (s ∷ ss)) e

pub undecided-get : (ss : List (Option Item)) (f k : ℕ) → IsSplit undecided ss f → slice_get (undecided_items (alive ss)) k ≡ slot_at ss (f + k)
undecided-get ss f k h = ap (λ (is : List Item). slice_get is k) (undecided-drop ss f h) ∙ get-dropped ss f k h

slot-past : (ss : List (Option Item)) (k : ℕ) → length ss ≤ k → slot_at ss k ≡ None
slot-past [] k l = refl
slot-past (s ∷ ss) zero l = absurd (omega arith)
slot-past (s ∷ ss) (suc k) l = slot-past ss k (omega arith)

pub undecided-past : (ss : List (Option Item)) (f k : ℕ) → IsSplit undecided ss f → length ss ≤ f + k → slice_get (undecided_items (alive ss)) k ≡ None
undecided-past ss f k h l = undecided-get ss f k h ∙ slot-past ss (f + k) l

-- so many are undecided
length-alive : (ss : List (Option Item)) → ((j : ℕ) → j < length ss → passes undecided (slot_at ss j) ≡ true) → length (alive ss) ≡ length ss
length-alive [] h = refl
length-alive (None ∷ ss) h = let t : false ≡ true = h 0 (omega arith) in cc
length-alive (Some i ∷ ss) h = ap suc (length-alive ss (λ j l. h (suc j) (omega arith)))

pub undecided-count : (ss : List (Option Item)) (f : ℕ) → IsSplit undecided ss f → length ss - f ≡ length (undecided_items (alive ss))
undecided-count ss f h = sym (length-drop f ss) ∙ sym (length-alive (drop f ss) (λ j l. at j (omega (arith, length-drop f ss, l)))) ∙ ap (λ (is : List Item). length is) (sym (undecided-drop ss f h))
  where
    at : (j : ℕ) → f + j < length ss → passes undecided (slot_at (drop f ss) j) ≡ true
    at j l = ap (passes undecided) (drop-at ss f j) ∙ h.after (f + j) (omega arith) l

-- where nothing is undecided all is decided
pub all-decided : (ss : List (Option Item)) (f : ℕ) → IsSplit undecided ss f → undecided_items (alive ss) ≡ [] → f ≡ length ss
all-decided ss f h e =
    elim (cases_lt f (length ss)) [
      | inl l ↦ (
          let none : slot_at ss (f + 0) ≡ None = sym (undecided-get ss f 0 h) ∙ ap (λ (is : List Item). slice_get is 0) e in
          let at : slot_at ss f ≡ None = ap (slot_at ss) (omega arith) ∙ none in
          let t : false ≡ true = sym (ap (passes undecided) at) ∙ h.after f (omega arith) l in cc)
      | inr g ↦ omega (arith, g, h.within)
    ]

-- ---- the first undecided message

empty-list : (ss : List (Option Item)) → length ss ≡ 0 → ss ≡ []
empty-list [] e = refl
empty-list (s ∷ ss) e = absurd (omega arith)

false-not : (b : Bool) → not b ≡ false → b ≡ true
false-not true e = refl
false-not false e = cc

-- something of the first undecided one shows that there is one
pub record IsHeadOf (ss : List (Option Item)) (f : ℕ) : Type 0 where
  pub item : Item
  pub others : List Item
  pub head : IsHeadAt ss f item
  pub items : undecided_items (alive ss) ≡ item ∷ others

pub head-of : (ss : List (Option Item)) (f : ℕ) (i : Item) (is : List Item) → IsSplit undecided ss f → undecided_items (alive ss) ≡ i ∷ is → IsHeadOf ss f
head-of ss f i is h e =
    let n : length (drop f ss) ≢ 0 = λ z. (let none : drop f ss ≡ [] = empty-list (drop f ss) z in let t : [] ≡ i ∷ is = sym (sym e ∙ undecided-drop ss f h ∙ ap alive none) in cc) in
    let l : f < length ss = omega (arith, n, length-drop f ss, h.within) in
    let p : IsPassing undecided (slot_at ss f) = passing undecided (slot_at ss f) (h.after f (omega arith) l) in
    record {
      item = p.item;
      others = alive (drop (f + 1) ss);
      head = record { stands = p.stands; undecided_is = not-true (is_some p.item.stand) p.passing; within = l };
      items = undecided-drop ss f h ∙ ap alive (drop_more ss f None l) ∙ ap (λ (s : Option Item). alive (s ∷ drop (f + 1) ss)) p.stands;
    }

pub head-held : (ss : List (Option Item)) (f : ℕ) (o : Holder) → IsSplit undecided ss f → IsHeldBy o (undecided_items (alive ss)) → (h : IsHeadOf ss f) × (h.item.holder ≡ o)
head-held ss f o s held =
    (elim (undecided_items (alive ss)) as (λ (is : List Item). undecided_items (alive ss) ≡ is → IsHeldBy o is → (h : IsHeadOf ss f) × (h.item.holder ≡ o)) [
      | [] ↦ λ e held. absurd held
      | i ∷ is ↦ λ e held. (
          let h : IsHeadOf ss f = head-of ss f i is s e in
          let t : i ∷ is ≡ h.item ∷ h.others = sym e ∙ h.items in
          let same : i ≡ h.item = cc in
          (h, ap (λ (x : Item). x.holder) (sym same) ∙ held))
    ]) refl held

pub head-kept : (ss : List (Option Item)) (f : ℕ) → IsSplit undecided ss f → MayKeep (undecided_items (alive ss)) → (h : IsHeadOf ss f) × (is_gone h.item.holder ≡ false)
head-kept ss f s kept =
    (elim (undecided_items (alive ss)) as (λ (is : List Item). undecided_items (alive ss) ≡ is → MayKeep is → (h : IsHeadOf ss f) × (is_gone h.item.holder ≡ false)) [
      | [] ↦ λ e kept. absurd kept
      | i ∷ is ↦ λ e kept. (
          let h : IsHeadOf ss f = head-of ss f i is s e in
          let t : i ∷ is ≡ h.item ∷ h.others = sym e ∙ h.items in
          let same : i ≡ h.item = cc in
          (h, ap (λ (x : Item). is_gone x.holder) (sym same) ∙ kept))
    ]) refl kept

-- ---- what passing it leaves

-- a slot in place of the first undecided one, where it is what passing makes of it
pass-view : (skip : Bool) (st : Stand) (ss : List (Option Item)) (f : ℕ) (x : Item) (s : Option Item) → IsSplit undecided ss f → IsHeadAt ss f x
    → ((rest : List (Option Item)) → alive (s ∷ rest) ≡ cond (skips skip x) (alive rest) (decide st x ∷ alive rest)) → alive (set ss f s) ≡ pass_first skip st (alive ss)
pass-view skip st [] f x s h a e = absurd (omega (arith, a.within))
pass-view skip st (None ∷ ss) zero x s h a e = let t : None ≡ Some x = a.stands in cc
pass-view skip st (Some i ∷ ss) zero x s h a e =
    let t : Some i ≡ Some x = a.stands in
    let same : x ≡ i = cc in
    e ss ∙ subst (λ (y : Item). cond (skips skip x) (alive ss) (decide st x ∷ alive ss) ≡ pass_first skip st (y ∷ alive ss)) same
    (sym (cond-false (is_some x.stand) (x ∷ pass_first skip st (alive ss)) (cond (skips skip x) (alive ss) (decide st x ∷ alive ss)) a.undecided_is))
pass-view skip st (None ∷ ss) (suc f) x s h a e = pass-view skip st ss f x s (tail-more None ss f h) (record { stands = a.stands; undecided_is = a.undecided_is; within = omega (arith, a.within) }) e
pass-view skip st (Some i ∷ ss) (suc f) x s h a e =
    let t : undecided i ≡ false = h.before 0 (omega arith) in
    let c : (is_some i.stand) ≡ true = false-not (is_some i.stand) t in
    ap (λ (is : List Item). i ∷ is) (pass-view skip st ss f x s (tail-more (Some i) ss f h) (record { stands = a.stands; undecided_is = a.undecided_is; within = omega (arith, a.within) }) e)
    ∙ sym (cond-true (is_some i.stand) (i ∷ pass_first skip st (alive ss)) (cond (skips skip i) (alive ss) (decide st i ∷ alive ss)) c)

pub keep-view : (st : Stand) (ss : List (Option Item)) (f : ℕ) (x : Item) → IsSplit undecided ss f → IsHeadAt ss f x → is_gone x.holder ≡ false → alive (set ss f (Some (decide st x))) ≡ pass_first false st (alive ss)
keep-view st ss f x h a n = pass-view false st ss f x (Some (decide st x)) h a (λ rest. sym (cond-false (skips false x) (alive rest) (decide st x ∷ alive rest) n))

pub leave-view : (st : Stand) (ss : List (Option Item)) (f : ℕ) (x : Item) → IsSplit undecided ss f → IsHeadAt ss f x → alive (set ss f None) ≡ pass_first true st (alive ss)
leave-view st ss f x h a = pass-view true st ss f x None h a (λ rest. refl)

pub or-true : (b : Bool) → (b || true) ≡ true
or-true true = refl
or-true false = refl

-- what is asked matters only where nobody has lost it
pub pass-as : (skip b : Bool) (st : Stand) (o : Holder) (is : List Item) → IsHeldBy o (undecided_items is) → (skip || is_gone o) ≡ (b || is_gone o) → pass_first b st is ≡ pass_first skip st is
pass-as skip b st o [] h e = refl
pass-as skip b st o (i ∷ is) h e =
    (elim (is_some i.stand) as (λ c. IsHeldBy o (cond (not c) (i ∷ undecided_items is) (undecided_items is)) → cond c (i ∷ pass_first b st is) (cond (skips b i) is (decide st i ∷ is)) ≡ cond c (i ∷ pass_first skip st is) (cond (skips skip i) is (decide st i ∷ is))) [
      | true ↦ λ h. ap (λ (js : List Item). i ∷ js) (pass-as skip b st o is h e)
      | false ↦ λ h. (
          let same : skips b i ≡ skips skip i = ap (λ (q : Holder). b || is_gone q) h ∙ sym e ∙ sym (ap (λ (q : Holder). skip || is_gone q) h) in
          ap (λ t. cond t is (decide st i ∷ is)) same)
    ]) h

-- ---- what passing it answers

pub first-held : (is : List Item) (x : Item) → slice_get is 0 ≡ Some x → IsHeldBy x.holder is
first-held [] x e = cc
first-held (i ∷ is) x e = let same : i ≡ x = cc in ap (λ (y : Item). y.holder) same

pub first-may : (skip : Bool) (is : List Item) (x : Item) → slice_get is 0 ≡ Some x → MayPass skip is → skip ≡ true → is_free x.holder ≡ false
first-may skip [] x e m t = cc
first-may skip (i ∷ is) x e m t = let same : i ≡ x = cc in ap (λ (y : Item). is_free y.holder) (sym same) ∙ m t

pub first-passed : (skip : Bool) (is : List Item) (x : Item) (kept : Bool) → slice_get is 0 ≡ Some x → kept ≡ not (skip || is_gone x.holder) → IsPassed skip (record { id = x.id; kept = kept }) is
first-passed skip [] x kept e k = cc
first-passed skip (i ∷ is) x kept e k =
    let same : x ≡ i = cc in
    let P : Bool → Passed = λ b. record { id = x.id; kept = b } in
    let Q : Item → Passed = λ y. record { id = y.id; kept = not (skips skip y) } in
    ap P k ∙ ap Q same

pub none-may : (skip : Bool) (is : List Item) → slice_get is 0 ≡ None → MayPass skip is → ⊥
none-may skip [] e m = m
none-may skip (i ∷ is) e m = cc

-- ---- in the words of the code

pub indexed-committed : (st : Stand) (ss : List (Option Item)) (ws : List ℕ) (held : List Held) (gone : List ℕ) (f : ℕ) (x : Item) → IsIndexed ss ws held gone f → IsHeadAt ss f x → is_gone x.holder ≡ false
    → IsIndexed (set ss f (option_map (decide st) (slot_at ss f))) ws held gone (f + 1)
indexed-committed st ss ws held gone f x h a n = subst (λ (s : Option Item). IsIndexed (set ss f (option_map (decide st) s)) ws held gone (f + 1)) (sym a.stands) (indexed-kept st ss ws held gone f x h a n)

pub committed-view : (st : Stand) (ss : List (Option Item)) (f : ℕ) (x : Item) → IsSplit undecided ss f → IsHeadAt ss f x → is_gone x.holder ≡ false → alive (set ss f (option_map (decide st) (slot_at ss f))) ≡ pass_first false st (alive ss)
committed-view st ss f x h a n = ap (λ (s : Option Item). alive (set ss f (option_map (decide st) s))) a.stands ∙ keep-view st ss f x h a n

pub head-out : (ss : List (Option Item)) (held : List Held) (f c d : ℕ) (x : Item) → FindsOut ss held → IsHeadAt ss f x → x.holder ≡ Out c d → find c d held ≡ Some f
head-out ss held f c d x h a e = h.found f c d (ap (passes (out_for c d)) a.stands ∙ ap (is_out c d) e ∙ and_from _ _ (eq-eqb c c refl) (eq-eqb d d refl))

skip-slot : (id : ℕ) (s : Option Item) (ss : List (Option Item)) → ((i : Item) → s ≡ Some i → (i.id == id) ≡ false) → holder_of id (alive (s ∷ ss)) ≡ holder_of id (alive ss)
skip-slot id None ss n = refl
skip-slot id (Some i) ss n = cond-false (i.id == id) (Some i.holder) (holder_of id (alive ss)) (n i refl)

-- the search for a holder goes on behind a place
pub holder-passed : (id : ℕ) (ss : List (Option Item)) (at : ℕ) (s : Option Item) → at < length ss → s ≡ get_or ss at s → ((i : Item) → s ≡ Some i → (i.id == id) ≡ false) → holder_of id (alive (drop (at + 1) ss)) ≡ holder_of id (alive (drop at ss))
holder-passed id ss at s l r n =
    sym (ap (λ (ss : List (Option Item)). holder_of id (alive ss)) (drop_more ss at None l)
    ∙ ap (λ (s : Option Item). holder_of id (alive (s ∷ drop (at + 1) ss))) (sym (get_or_read ss at s l r None)) ∙ skip-slot id s (drop (at + 1) ss) n)

pub holder-found : (id : ℕ) (ss : List (Option Item)) (at : ℕ) (s : Option Item) (i : Item) → at < length ss → s ≡ get_or ss at s → s ≡ Some i → (i.id == id) ≡ true → holder_of id (alive (drop at ss)) ≡ Some i.holder
holder-found id ss at s i l r e t =
    ap (λ (ss : List (Option Item)). holder_of id (alive ss)) (drop_more ss at None l)
    ∙ ap (λ (s : Option Item). holder_of id (alive (s ∷ drop (at + 1) ss))) (sym (get_or_read ss at s l r None) ∙ e)
    ∙ cond-true (i.id == id) (Some i.holder) (holder_of id (alive (drop (at + 1) ss))) t

pub holder-none : (id : ℕ) (ss : List (Option Item)) (at : ℕ) → length ss ≤ at → holder_of id (alive (drop at ss)) ≡ None
holder-none id [] zero l = refl
holder-none id [] (suc at) l = refl
holder-none id (s ∷ ss) zero l = absurd (omega arith)
holder-none id (s ∷ ss) (suc at) l = holder-none id ss at (omega arith)
