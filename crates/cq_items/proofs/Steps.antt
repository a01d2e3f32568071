-- What stands beside the messages, through each call.
use Prim.Native.Nat.{zero, suc}
use Rattle.std.proofs.Common.{◌≡◌, ℕ, ◌+◌, ◌<◌, ◌≤◌, Bool, true, false, cond, List, [], ◌∷◌, ◌++◌, length, get_or, set, drop, refl, sym, ap, ◌∙◌, subst, arith, inl, inr}
use Rattle.std.specs.Prelude.{is_some, ◌==◌, ◌&&◌, Option, None, Some, Result, MatchResult, slice_get}
use Rattle.std.specs.List.{insert}
use Rattle.std.specs.List.Sorted.{IsBinarySearchResult}
use Rattle.std.specs.Ordering.{nat_cmp}
use Rattle.std.proofs.lemmas.List.Sorted.{searched}
use Rattle.std.proofs.lemmas.List.{append-nil}
use Rattle.std.proofs.lemmas.Bool.{cond-true, cond-false, and_from, and_left, and_right, or_left, or_right, eq-eqb, cases_Bool, both_ways}
use Rattle.cq_items.specs.Item.{Item}
use Rattle.cq_items.specs.declared.item.Stand.{Stand}
use Rattle.cq_items.specs.declared.item.Holder.{Holder}
use Rattle.cq_items.specs.declared.item.Holder.TheVariants.{Waiting, Out, Gone}
use Rattle.cq_items.specs.declared.outs.Held.{Held}
use Rattle.cq_items.specs.Items.{is_free, is_gone, is_out, is_with, ack_one, back_one, holding, taken_by, waits, out_for, out_to, committed, undecided, settles, new_item, waiting_items, is_out_to, hand_out, ack, give_back, decide, count_out}
use Rattle.cq_items.specs.Slots.{slot_at, held_by, handed_to, passes, alive, places}
use Rattle.cq_items.specs.Outs.{find, Puts}
use Rattle.cq_items.specs.Queue.{FindsOut, IsIndexed, HasRoom, IsRising, IsPlace}
use Rattle.cq_items.specs.Line.{put_in}
use Rattle.cq_items.proofs.Ascending.{length-put_in}
use Rattle.cq_items.proofs.Places.{passes-within, IsPassing, passing, length-places, places-push, places-set, IsFirstPlace, first-at, places-rise, insert-place, put-place, alive-none, alive-one, map-alive-set, count-fewer}
use Rattle.cq_items.proofs.Finds.{free-not-out, free-not-gone, gone-not-free, gone-not-out, out-is, finds-push, finds-same, finds-put, finds-released, splits-push, splits-same, splits-more}

-- the message of a delivery that is out
pub record IsOutAt (ss : List (Option Item)) (k c d : ℕ) : Type 0 where
  pub item : Item
  pub stands : slot_at ss k ≡ Some item
  pub holder : item.holder ≡ Out c d
  pub within : k < length ss

pub out-at : (ss : List (Option Item)) (held : List Held) (k c d : ℕ) → FindsOut ss held → find c d held ≡ Some k → IsOutAt ss k c d
out-at ss held k c d h e =
    let t : passes (out_for c d) (slot_at ss k) ≡ true = h.there c d k e in
    let p : IsPassing (out_for c d) (slot_at ss k) = passing (out_for c d) (slot_at ss k) t in
    record { item = p.item; stands = p.stands; holder = out-is p.item.holder c d p.passing; within = passes-within (out_for c d) ss k t }

-- ---- a publish

pub indexed-published : (ss : List (Option Item)) (ws : List ℕ) (held : List Held) (gone : List ℕ) (f id len : ℕ) (body : Option (List ℕ)) → IsIndexed ss ws held gone f
    → IsIndexed (ss ++ Some (new_item id body len) ∷ []) (ws ++ length ss ∷ []) held gone f
indexed-published ss ws held gone f id len body h = record {
  waiting_is = places-push waits 0 ss (Some (new_item id body len)) ∙ ap (λ xs. xs ++ (0 + length ss) ∷ []) h.waiting_is ∙ ap (λ k. ws ++ k ∷ []) (omega arith);
  finds_out = finds-push ss held (Some (new_item id body len)) h.finds_out (λ c d. refl);
  gone_is = places-push settles 0 ss (Some (new_item id body len)) ∙ append-nil (places settles 0 ss) ∙ h.gone_is;
  is_split = splits-push undecided ss f (Some (new_item id body len)) h.is_split refl;
}

-- ---- a delivery

pub indexed-first : (ss : List (Option Item)) (ws rest : List ℕ) (held : List Held) (gone : List ℕ) (f p : ℕ) → IsIndexed ss ws held gone f → ws ≡ p ∷ rest → IsFirstPlace 0 ss p rest
indexed-first ss ws rest held gone f p h e = first-at ss p rest (h.waiting_is ∙ e)

pub first-within : (ss : List (Option Item)) (p : ℕ) (rest : List ℕ) → IsFirstPlace 0 ss p rest → p < length ss
first-within ss p rest f = passes-within waits ss p (ap (passes waits) f.stands ∙ f.waiting)

pub indexed-delivered : (ss : List (Option Item)) (ws rest : List ℕ) (held after : List Held) (gone : List ℕ) (f p c d : ℕ) → IsIndexed ss ws held gone f → ws ≡ p ∷ rest
    → find c d held ≡ None → Puts c d (Some p) held after → IsIndexed (set ss p (handed_to (Out c d) (slot_at ss p))) rest after gone f
indexed-delivered ss ws rest held after gone f p c d h e none puts =
    let fp : IsFirstPlace 0 ss p rest = indexed-first ss ws rest held gone f p h e in
    let x : Item = fp.item in
    let s : Option Item = Some (taken_by (Out c d) x) in
    let l : p < length ss = first-within ss p rest fp in
    subst (λ (s : Option Item). IsIndexed (set ss p s) rest after gone f) (sym (ap (handed_to (Out c d)) fp.stands)) (record {
      waiting_is = fp.left s refl;
      finds_out = finds-put ss held after p c d s h.finds_out l (λ a b. ap (passes (out_for a b)) fp.stands ∙ free-not-out x.holder a b fp.waiting) (λ a b. refl) none puts;
      gone_is = places-set settles 0 ss p s (ap (λ b. (is_some x.stand) && b) (sym (free-not-gone x.holder fp.waiting)) ∙ sym (ap (passes settles) fp.stands)) ∙ h.gone_is;
      is_split = splits-same undecided ss f p s h.is_split l (sym (ap (passes undecided) fp.stands));
    })

pub delivered-view : (ss : List (Option Item)) (ws rest : List ℕ) (held : List Held) (gone : List ℕ) (f p c d : ℕ) → IsIndexed ss ws held gone f → ws ≡ p ∷ rest
    → alive (set ss p (handed_to (Out c d) (slot_at ss p))) ≡ hand_out c d (alive ss)
delivered-view ss ws rest held gone f p c d h e =
    let fp : IsFirstPlace 0 ss p rest = indexed-first ss ws rest held gone f p h e in
    ap (λ (s : Option Item). alive (set ss p (handed_to (Out c d) s))) fp.stands ∙ fp.handed (Out c d)

-- ---- an acknowledgement

pub indexed-acked : (ss : List (Option Item)) (ws : List ℕ) (held after : List Held) (gone : List ℕ) (f p c d : ℕ) → IsIndexed ss ws held gone f → find c d held ≡ Some p → Puts c d None held after
    → IsIndexed (set ss p (held_by Gone (slot_at ss p))) ws after (cond (passes committed (slot_at ss p)) (put_in p gone) gone) f
indexed-acked ss ws held after gone f p c d h out puts =
    let o : IsOutAt ss p c d = out-at ss held p c d h.finds_out out in
    let x : Item = o.item in
    let s : Option Item = Some (holding (λ _. Gone) x) in
    let was : passes settles (slot_at ss p) ≡ false = ap (passes settles) o.stands ∙ and_right (is_some x.stand) (is_gone x.holder) (ap is_gone o.holder) in
    let added : places settles 0 (set ss p s) ≡ cond (is_some x.stand) (put_in p gone) gone = elim (cases_Bool (is_some x.stand)) [
      | inl t ↦ put-place settles 0 ss p s p (omega arith) o.within (and_from (is_some x.stand) true t refl) was ∙ ap (put_in p) h.gone_is ∙ sym (cond-true (is_some x.stand) (put_in p gone) gone t)
      | inr n ↦ places-set settles 0 ss p s (and_left (is_some x.stand) true n ∙ sym was) ∙ h.gone_is ∙ sym (cond-false (is_some x.stand) (put_in p gone) gone n)
    ] in
    subst (λ (y : Option Item). IsIndexed (set ss p (held_by Gone y)) ws after (cond (passes committed y) (put_in p gone) gone) f) (sym o.stands) (record {
      waiting_is = places-set waits 0 ss p s (sym (ap (passes waits) o.stands ∙ ap is_free o.holder)) ∙ h.waiting_is;
      finds_out = finds-released ss held after p c d s h.finds_out out (λ a b. refl) puts;
      gone_is = added;
      is_split = splits-same undecided ss f p s h.is_split o.within (sym (ap (passes undecided) o.stands));
    })

ack-stays : (h : Holder) (c d : ℕ) → is_out c d h ≡ false → ack_one c d h ≡ h
ack-stays Waiting c d n = refl
ack-stays (Out x y) c d n = cond-false (x == c && y == d) Gone (Out x y) n
ack-stays Gone c d n = refl

ack-goes : (c d : ℕ) → ack_one c d (Out c d) ≡ Gone
ack-goes c d = cond-true (c == c && d == d) Gone (Out c d) (and_from _ _ (eq-eqb c c refl) (eq-eqb d d refl))

same-item : (f : Holder → Holder) (y : Item) → f y.holder ≡ y.holder → holding f y ≡ y
same-item f y e = ap (λ (h : Holder). holding (λ _. h) y) e

-- what isn't out for the delivery stays
others-stay : (ss : List (Option Item)) (held : List Held) (c d j : ℕ) (y : Item) → FindsOut ss held → (find c d held ≡ Some j → ⊥) → slot_at ss j ≡ Some y → holding (ack_one c d) y ≡ y
others-stay ss held c d j y h n e =
    let other : is_out c d y.holder ≡ false = elim (cases_Bool (is_out c d y.holder)) [
      | inr f ↦ f
      | inl t ↦ absurd (n (h.found j c d (ap (passes (out_for c d)) e ∙ t)))
    ] in
    same-item (ack_one c d) y (ack-stays y.holder c d other)

pub acked-view : (ss : List (Option Item)) (ws : List ℕ) (held : List Held) (gone : List ℕ) (f p c d : ℕ) → IsIndexed ss ws held gone f → find c d held ≡ Some p
    → alive (set ss p (held_by Gone (slot_at ss p))) ≡ ack c d (alive ss)
acked-view ss ws held gone f p c d h out =
    let o : IsOutAt ss p c d = out-at ss held p c d h.finds_out out in
    let goes : ack_one c d o.item.holder ≡ Gone = ap (ack_one c d) o.holder ∙ ack-goes c d in
    ap (λ (s : Option Item). alive (set ss p (held_by Gone s))) o.stands
    ∙ ap (λ (h : Holder). alive (set ss p (Some (holding (λ _. h) o.item)))) (sym goes)
    ∙ sym (alive-one (holding (ack_one c d)) ss p o.item o.stands (λ j y n e. others-stay ss held c d j y h.finds_out (λ q. (let t : Some j ≡ Some p = sym q ∙ out in n cc)) e))

pub acked-none : (ss : List (Option Item)) (ws : List ℕ) (held : List Held) (gone : List ℕ) (f c d : ℕ) → IsIndexed ss ws held gone f → find c d held ≡ None → ack c d (alive ss) ≡ alive ss
acked-none ss ws held gone f c d h none = alive-none (holding (ack_one c d)) ss (λ j y e. others-stay ss held c d j y h.finds_out (λ q. (let t : Some j ≡ None = sym q ∙ none in cc)) e)

-- ---- a delivery that goes back

pub indexed-rising : (ss : List (Option Item)) (ws : List ℕ) (held : List Held) (gone : List ℕ) (f : ℕ) → IsIndexed ss ws held gone f → IsRising ws
indexed-rising ss ws held gone f h = subst IsRising h.waiting_is (places-rise waits 0 ss)

pub indexed-back : (ss : List (Option Item)) (ws now : List ℕ) (held after : List Held) (gone : List ℕ) (f p c d i : ℕ) → IsIndexed ss ws held gone f → find c d held ≡ Some p → Puts c d None held after
    → IsPlace ws p i → now ≡ insert ws i p → IsIndexed (set ss p (held_by Waiting (slot_at ss p))) now after gone f
indexed-back ss ws now held after gone f p c d i h out puts place e =
    let o : IsOutAt ss p c d = out-at ss held p c d h.finds_out out in
    let x : Item = o.item in
    let s : Option Item = Some (holding (λ _. Waiting) x) in
    let pl : IsPlace (places waits 0 ss) p i = subst (λ (xs : List ℕ). IsPlace xs p i) (sym h.waiting_is) place in
    subst (λ (y : Option Item). IsIndexed (set ss p (held_by Waiting y)) now after gone f) (sym o.stands) (record {
      waiting_is = insert-place waits 0 ss p s i p (omega arith) o.within refl (ap (passes waits) o.stands ∙ ap is_free o.holder) pl.within pl.low pl.high ∙ ap (λ xs. insert xs i p) h.waiting_is ∙ sym e;
      finds_out = finds-released ss held after p c d s h.finds_out out (λ a b. refl) puts;
      gone_is = places-set settles 0 ss p s (ap (λ b. (is_some x.stand) && b) (sym (ap is_gone o.holder)) ∙ sym (ap (passes settles) o.stands)) ∙ h.gone_is;
      is_split = splits-same undecided ss f p s h.is_split o.within (sym (ap (passes undecided) o.stands));
    })

back-goes : (c d : ℕ) → back_one c (Out c d) ≡ Waiting
back-goes c d = cond-true (c == c) Waiting (Out c d) (eq-eqb c c refl)

pub back-view : (ss : List (Option Item)) (ws : List ℕ) (held : List Held) (gone : List ℕ) (f p c d : ℕ) → IsIndexed ss ws held gone f → find c d held ≡ Some p
    → give_back c (alive (set ss p (held_by Waiting (slot_at ss p)))) ≡ give_back c (alive ss)
back-view ss ws held gone f p c d h out =
    let o : IsOutAt ss p c d = out-at ss held p c d h.finds_out out in
    let x : Item = o.item in
    ap (λ (s : Option Item). give_back c (alive (set ss p (held_by Waiting s)))) o.stands
    ∙ map-alive-set (holding (back_one c)) ss p x (holding (λ _. Waiting) x) o.stands (ap (λ (h : Holder). holding (λ _. h) x) (sym (ap (back_one c) o.holder ∙ back-goes c d)))

pub back-count : (ss : List (Option Item)) (ws : List ℕ) (held : List Held) (gone : List ℕ) (f p c d : ℕ) → IsIndexed ss ws held gone f → find c d held ≡ Some p
    → count_out c (alive (set ss p (held_by Waiting (slot_at ss p)))) + 1 ≡ count_out c (alive ss)
back-count ss ws held gone f p c d h out =
    let o : IsOutAt ss p c d = out-at ss held p c d h.finds_out out in
    ap (λ (s : Option Item). count_out c (alive (set ss p (held_by Waiting s))) + 1) o.stands
    ∙ count-fewer (out_to c) ss p (Some (holding (λ _. Waiting) o.item)) (ap (passes (out_to c)) o.stands ∙ ap (is_with c) o.holder ∙ eq-eqb c c refl) refl

back-stays : (h : Holder) (c : ℕ) → ((d : ℕ) → is_out c d h ≡ false) → back_one c h ≡ h
back-stays Waiting c n = refl
back-stays (Out x y) c n = elim (cases_Bool (x == c)) [
  | inr f ↦ cond-false (x == c) Waiting (Out x y) f
  | inl t ↦ absurd (both_ways _ (n y) (and_from _ _ t (eq-eqb y y refl)))
]
back-stays Gone c n = refl

pub back-none : (ss : List (Option Item)) (ws : List ℕ) (held : List Held) (gone : List ℕ) (f c : ℕ) → IsIndexed ss ws held gone f → ((d : ℕ) → find c d held ≡ None) → give_back c (alive ss) ≡ alive ss
back-none ss ws held gone f c h none = alive-none (holding (back_one c)) ss (λ j y e. same-item (back_one c) y (back-stays y.holder c (λ d. elim (cases_Bool (is_out c d y.holder)) [
  | inr f ↦ f
  | inl t ↦ (let q : find c d held ≡ Some j = h.finds_out.found j c d (ap (passes (out_for c d)) e ∙ t) in let r : Some j ≡ None = sym q ∙ none d in cc)
])))

-- where a search says that a place belongs
pub place-searched : (xs : List ℕ) (p i : ℕ) (r : Result ℕ ℕ) → IsBinarySearchResult (λ y. nat_cmp y p) xs r → IsRising xs → MatchResult r (λ j. j ≡ i → IsPlace xs p i) (λ j. j ≡ i → IsPlace xs p i)
place-searched xs p i (Result.Ok j) s rise = λ e. (
    let f = searched xs p (Result.Ok j) s rise in
    let at : get_or xs i 0 ≡ p = ap (λ k. get_or xs k 0) (sym e) ∙ f.1 in
    let l : i < length xs = omega (arith, f.0) in
    record { within = omega arith; low = λ k b. omega (arith, rise k i (omega arith) l, at); high = λ k a b. omega (arith, rise i k a b, at) })
place-searched xs p i (Result.Err j) s rise = λ e. (
    let f = searched xs p (Result.Err j) s rise in
    record { within = omega (arith, f.0); low = λ k b. omega (arith, f.1 k (omega arith)); high = λ k a b. omega (arith, f.2 k (omega arith) b) })

-- ---- an entry that is passed

-- the first undecided message
pub record IsHeadAt (ss : List (Option Item)) (f : ℕ) (x : Item) : Type 0 where
  pub stands : slot_at ss f ≡ Some x
  pub undecided_is : (is_some x.stand) ≡ false
  pub within : f < length ss

pub indexed-kept : (st : Stand) (ss : List (Option Item)) (ws : List ℕ) (held : List Held) (gone : List ℕ) (f : ℕ) (x : Item) → IsIndexed ss ws held gone f → IsHeadAt ss f x → is_gone x.holder ≡ false
    → IsIndexed (set ss f (Some (decide st x))) ws held gone (f + 1)
indexed-kept st ss ws held gone f x h a n = record {
  waiting_is = places-set waits 0 ss f (Some (decide st x)) (sym (ap (passes waits) a.stands)) ∙ h.waiting_is;
  finds_out = finds-same ss held f (Some (decide st x)) h.finds_out a.within (λ c d. sym (ap (passes (out_for c d)) a.stands));
  gone_is = places-set settles 0 ss f (Some (decide st x)) (n ∙ sym (ap (passes settles) a.stands ∙ and_left (is_some x.stand) (is_gone x.holder) a.undecided_is)) ∙ h.gone_is;
  is_split = splits-more undecided ss f (Some (decide st x)) h.is_split a.within refl;
}

pub indexed-left : (ss : List (Option Item)) (ws : List ℕ) (held : List Held) (gone : List ℕ) (f : ℕ) (x : Item) → IsIndexed ss ws held gone f → IsHeadAt ss f x → is_gone x.holder ≡ true
    → IsIndexed (set ss f None) ws held gone (f + 1)
indexed-left ss ws held gone f x h a g = record {
  waiting_is = places-set waits 0 ss f None (sym (ap (passes waits) a.stands ∙ gone-not-free x.holder g)) ∙ h.waiting_is;
  finds_out = finds-same ss held f None h.finds_out a.within (λ c d. sym (ap (passes (out_for c d)) a.stands ∙ gone-not-out x.holder c d g));
  gone_is = places-set settles 0 ss f None (sym (ap (passes settles) a.stands ∙ and_left (is_some x.stand) (is_gone x.holder) a.undecided_is)) ∙ h.gone_is;
  is_split = splits-more undecided ss f None h.is_split a.within refl;
}

pub indexed-skipped : (ss : List (Option Item)) (ws : List ℕ) (held after : List Held) (gone : List ℕ) (f c d : ℕ) (x : Item) → IsIndexed ss ws held gone f → IsHeadAt ss f x
    → x.holder ≡ Out c d → find c d held ≡ Some f → Puts c d None held after → IsIndexed (set ss f None) ws after gone (f + 1)
indexed-skipped ss ws held after gone f c d x h a e out puts = record {
  waiting_is = places-set waits 0 ss f None (sym (ap (passes waits) a.stands ∙ ap is_free e)) ∙ h.waiting_is;
  finds_out = finds-released ss held after f c d None h.finds_out out (λ a b. refl) puts;
  gone_is = places-set settles 0 ss f None (sym (ap (passes settles) a.stands ∙ and_left (is_some x.stand) (is_gone x.holder) a.undecided_is)) ∙ h.gone_is;
  is_split = splits-more undecided ss f None h.is_split a.within refl;
}

-- ---- what is read

-- a list whose first element was read
pub headed : (xs : List ℕ) (x : ℕ) → slice_get xs 0 ≡ Some x → xs ≡ x ∷ drop 1 xs
headed [] x e = cc
headed (y ∷ ys) x e = let same : y ≡ x = cc in ap (λ z. z ∷ ys) same

pub headless : (xs : List ℕ) → slice_get xs 0 ≡ None → length xs ≡ 0
headless [] e = refl
headless (y ∷ ys) e = cc

pub first-get : (ss : List (Option Item)) (p : ℕ) (rest : List ℕ) → IsFirstPlace 0 ss p rest → slice_get (waiting_items (alive ss)) 0 ≡ slot_at ss p
first-get ss p rest f = ap (λ (is : List Item). slice_get is 0) f.first ∙ sym f.stands

pub waiting-count : (ss : List (Option Item)) (ws : List ℕ) (held : List Held) (gone : List ℕ) (f : ℕ) → IsIndexed ss ws held gone f → length (waiting_items (alive ss)) ≡ length ws
waiting-count ss ws held gone f h = sym (length-places waits 0 ss) ∙ ap length h.waiting_is

get-none : (is : List Item) → length is ≡ 0 → slice_get is 0 ≡ None
get-none [] e = refl
get-none (i ∷ is) e = absurd (omega arith)

pub none-get : (ss : List (Option Item)) (ws : List ℕ) (held : List Held) (gone : List ℕ) (f : ℕ) → IsIndexed ss ws held gone f → length ws ≡ 0 → slice_get (waiting_items (alive ss)) 0 ≡ None
none-get ss ws held gone f h e = get-none (waiting_items (alive ss)) (waiting-count ss ws held gone f h ∙ e)

-- who isn't out among the messages isn't out at all
out-listed : (ss : List (Option Item)) (k c d : ℕ) → passes (out_for c d) (slot_at ss k) ≡ true → is_out_to c d (alive ss) ≡ true
out-listed [] k c d h = cc
out-listed (None ∷ ss) zero c d h = cc
out-listed (Some i ∷ ss) zero c d h = or_left _ _ h
out-listed (None ∷ ss) (suc k) c d h = out-listed ss k c d h
out-listed (Some i ∷ ss) (suc k) c d h = or_right _ _ (out-listed ss k c d h)

pub fresh-out : (ss : List (Option Item)) (held : List Held) (c d : ℕ) → FindsOut ss held → is_out_to c d (alive ss) ≡ false → find c d held ≡ None
fresh-out ss held c d h free =
    (elim (find c d held) as (λ (o : Option ℕ). find c d held ≡ o → o ≡ None) [
      | None ↦ λ _. refl
      | Some k ↦ λ e. absurd (both_ways _ free (out-listed ss k c d (h.there c d k e)))
    ]) refl

-- ---- room

-- no more is asked of as much room or more
pub room-enough : {s w o g r cs cw co cg : ℕ} → HasRoom s w o g r cs cw co cg → (s' w' o' g' r' cs' cw' co' cg' : ℕ)
    → s' + r' ≤ s + r → w' + o' + r' ≤ w + o + r → w' + o' + g' + r' ≤ w + o + g + r → cs ≤ cs' → cw ≤ cw' → co ≤ co' → cg ≤ cg'
    → HasRoom s' w' o' g' r' cs' cw' co' cg'
room-enough h s' w' o' g' r' cs' cw' co' cg' a b c d e f i = record {
  slots_fit = omega (arith, h.slots_fit);
  few = omega (arith, h.few);
  waiting_fits = omega (arith, h.waiting_fits);
  out_fits = omega (arith, h.out_fits);
  gone_fits = omega (arith, h.gone_fits);
}

pub length-noted : (b : Bool) (gone : List ℕ) (p : ℕ) → length (cond b (put_in p gone) gone) ≤ length gone + 1
length-noted true gone p = omega (arith, length-put_in p gone)
length-noted false gone p = omega arith
