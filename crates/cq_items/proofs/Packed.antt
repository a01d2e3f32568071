-- Closing the empty places up, and noting all places afresh.
use Prim.Native.Nat.{zero, suc}
use Rattle.std.proofs.Common.{◌≡◌, ℕ, ◌+◌, ◌<◌, ◌≤◌, Bool, true, false, cond, List, [], ◌∷◌, ◌++◌, length, take, refl, sym, ap, ◌∙◌, subst, arith, inl, inr, length-take}
use Rattle.std.specs.Prelude.{filter, Option, None, Some, is_some}
use Rattle.std.proofs.lemmas.Bool.{cond-true, cond-false, or_left, or_right, or_cases, cases_Bool, cases_eq, both_ways}
use Rattle.std.proofs.lemmas.List.{append-nil, take_more, length_push}
use Rattle.cq_items.specs.Item.{Item}
use Rattle.cq_items.specs.declared.outs.Held.{Held}
use Rattle.cq_items.specs.Items.{out_for, is_out_to}
use Rattle.cq_items.specs.Slots.{slot_at, passes, alive, places}
use Rattle.cq_items.specs.Line.{put_in}
use Rattle.cq_items.specs.Outs.{find}
use Rattle.cq_items.specs.Queue.{FindsOut, AreOutOnce, IsSplit}
use Rattle.cq_items.proofs.Places.{length-places, places-push, put-last, passes-within}

-- ---- nothing of the messages changes

pub alive-closed : (ss : List (Option Item)) → alive (filter is_some ss) ≡ alive ss
alive-closed [] = refl
alive-closed (None ∷ ss) = alive-closed ss
alive-closed (Some i ∷ ss) = ap (λ (is : List Item). i ∷ is) (alive-closed ss)

pub fewer-closed : (ss : List (Option Item)) → length (filter is_some ss) ≤ length ss
fewer-closed [] = omega arith
fewer-closed (None ∷ ss) = omega (arith, fewer-closed ss)
fewer-closed (Some i ∷ ss) = omega (arith, fewer-closed ss)

-- ---- what passes a test from a place on

-- how many places stand before the first one that passes
pub record IsClosed (t : Item → Bool) (ss : List (Option Item)) (f : ℕ) : Type 0 where
  pub place : ℕ
  pub counts : place + length ss ≡ length (filter is_some ss) + f
  pub split : IsSplit t (filter is_some ss) place

split-before : (t : Item → Bool) (i : Item) (ss : List (Option Item)) (f : ℕ) → t i ≡ false → IsSplit t ss f → (k : ℕ) → k < suc f → passes t (slot_at (Some i ∷ ss) k) ≡ false
split-before t i ss f n h zero l = n
split-before t i ss f n h (suc k) l = h.before k (omega arith)

split-after : (t : Item → Bool) (i : Item) (ss : List (Option Item)) (f : ℕ) → IsSplit t ss f → (k : ℕ) → suc f ≤ k → k < length (Some i ∷ ss) → passes t (slot_at (Some i ∷ ss) k) ≡ true
split-after t i ss f h zero a l = absurd (omega arith)
split-after t i ss f h (suc k) a l = h.after k (omega arith) (omega arith)

split-all : (t : Item → Bool) (i : Item) (ss : List (Option Item)) → t i ≡ true → IsSplit t ss 0 → (k : ℕ) → k < length (Some i ∷ ss) → passes t (slot_at (Some i ∷ ss) k) ≡ true
split-all t i ss u h zero l = u
split-all t i ss u h (suc k) l = h.after k (omega arith) (omega arith)

split-front : (t : Item → Bool) (i : Item) (ss : List (Option Item)) → t i ≡ true → IsSplit t ss 0 → IsSplit t (Some i ∷ ss) 0
split-front t i ss u h = record {
  within = omega arith;
  before = λ k l. absurd (omega arith);
  after = λ k a l. split-all t i ss u h k l;
}

pub more-split : (t : Item → Bool) (s : Option Item) (ss : List (Option Item)) (f : ℕ) → IsSplit t (s ∷ ss) (suc f) → IsSplit t ss f
more-split t s ss f h = record {
  within = omega (arith, h.within);
  before = λ k l. h.before (suc k) (omega arith);
  after = λ k a l. h.after (suc k) (omega arith) (omega arith);
}

split-cons : (t : Item → Bool) (i : Item) (ss : List (Option Item)) (f : ℕ) → t i ≡ false → IsSplit t ss f → IsSplit t (Some i ∷ ss) (suc f)
split-cons t i ss f n h = record {
  within = omega (arith, h.within);
  before = λ k l. split-before t i ss f n h k l;
  after = λ k a l. split-after t i ss f h k a l;
}

pub none-split : (t : Item → Bool) (s : Option Item) (ss : List (Option Item)) → IsSplit t (s ∷ ss) 0 → IsSplit t ss 0
none-split t s ss h = record {
  within = omega arith;
  before = λ k l. absurd (omega arith);
  after = λ k a l. h.after (suc k) (omega arith) (omega arith);
}

pub closed : (t : Item → Bool) (ss : List (Option Item)) (f : ℕ) → IsSplit t ss f → IsClosed t ss f
closed t [] zero h = record { place = 0; counts = refl; split = h }
closed t [] (suc f) h = absurd (omega (arith, h.within))
closed t (None ∷ ss) zero h = let n : false ≡ true = h.after 0 (omega arith) (omega arith) in cc
closed t (Some i ∷ ss) zero h =
    let c : IsClosed t ss 0 = closed t ss 0 (none-split t (Some i) ss h) in
    let none : c.place ≡ 0 = omega (arith, c.counts, fewer-closed ss) in
    record { place = 0; counts = omega (arith, c.counts); split = split-front t i (filter is_some ss) (h.after 0 (omega arith) (omega arith)) (subst (λ k. IsSplit t (filter is_some ss) k) none c.split) }
closed t (None ∷ ss) (suc f) h =
    let c : IsClosed t ss f = closed t ss f (more-split t None ss f h) in
    record { place = c.place; counts = omega (arith, c.counts); split = c.split }
closed t (Some i ∷ ss) (suc f) h =
    let c : IsClosed t ss f = closed t ss f (more-split t (Some i) ss f h) in
    record { place = suc c.place; counts = omega (arith, c.counts); split = split-cons t i (filter is_some ss) c.place (h.before 0 (omega arith)) c.split }

-- ---- who is out

out-some : (c d : ℕ) (ss : List (Option Item)) → is_out_to c d (alive ss) ≡ true → (k : ℕ) × (passes (out_for c d) (slot_at ss k) ≡ true)
out-some c d [] h = let n : false ≡ true = h in cc
out-some c d (None ∷ ss) h = let r = out-some c d ss h in (suc r.0, r.1)
out-some c d (Some i ∷ ss) h = elim (or_cases (out_for c d i) (is_out_to c d (alive ss)) h) [
  | inl here ↦ (0, here)
  | inr there ↦ (let r = out-some c d ss there in (suc r.0, r.1))
]

pub out-listed : (ss : List (Option Item)) (k c d : ℕ) → passes (out_for c d) (slot_at ss k) ≡ true → is_out_to c d (alive ss) ≡ true
out-listed [] k c d h = cc
out-listed (None ∷ ss) zero c d h = cc
out-listed (Some i ∷ ss) zero c d h = or_left _ _ h
out-listed (None ∷ ss) (suc k) c d h = out-listed ss k c d h
out-listed (Some i ∷ ss) (suc k) c d h = or_right _ _ (out-listed ss k c d h)

pub outs-known : (ss : List (Option Item)) (held : List Held) → FindsOut ss held → (c d : ℕ) → is_some (find c d held) ≡ is_out_to c d (alive ss)
outs-known ss held h c d =
    (elim (find c d held) as (λ (o : Option ℕ). find c d held ≡ o → is_some o ≡ is_out_to c d (alive ss)) [
      | Some k ↦ λ e. sym (out-listed ss k c d (h.there c d k e))
      | None ↦ λ e. elim (cases_Bool (is_out_to c d (alive ss))) [
        | inr f ↦ sym f
        | inl t ↦ (let r = out-some c d ss t in let n : Some r.0 ≡ None = sym (h.found r.0 c d r.1) ∙ e in cc)
      ]
    ]) refl

-- no two places are out for one delivery
abbrev AreApart : List (Option Item) → Type 0
AreApart ss = (j k c d : ℕ) → passes (out_for c d) (slot_at ss j) ≡ true → passes (out_for c d) (slot_at ss k) ≡ true → j ≡ k

once-apart : (ss : List (Option Item)) → AreApart ss → AreOutOnce (alive ss)
once-apart [] h = tt
once-apart (None ∷ ss) h = once-apart ss (λ j k c d p q. (let e : suc j ≡ suc k = h (suc j) (suc k) c d p q in omega arith))
once-apart (Some i ∷ ss) h = (
  λ c d p. elim (cases_Bool (is_out_to c d (alive ss))) [
    | inr f ↦ f
    | inl t ↦ (let r = out-some c d ss t in let e : 0 ≡ suc r.0 = h 0 (suc r.0) c d p r.1 in absurd (omega arith))
  ],
  once-apart ss (λ j k c d p q. (let e : suc j ≡ suc k = h (suc j) (suc k) c d p q in omega arith)),
)

pub outs-once : (ss : List (Option Item)) (held : List Held) → FindsOut ss held → AreOutOnce (alive ss)
outs-once ss held h = once-apart ss (λ j k c d p q. (let e : Some j ≡ Some k = sym (h.found j c d p) ∙ h.found k c d q in cc))

pub apart-once : (ss : List (Option Item)) → AreOutOnce (alive ss) → AreApart ss
apart-once [] h j k c d p q = let n : false ≡ true = p in cc
apart-once (None ∷ ss) h zero k c d p q = cc
apart-once (None ∷ ss) h (suc j) zero c d p q = cc
apart-once (None ∷ ss) h (suc j) (suc k) c d p q = ap (λ m. suc m) (apart-once ss h j k c d p q)
apart-once (Some i ∷ ss) h zero zero c d p q = refl
apart-once (Some i ∷ ss) h zero (suc k) c d p q = absurd (both_ways _ (h.0 c d p) (out-listed ss k c d q))
apart-once (Some i ∷ ss) h (suc j) zero c d p q = absurd (both_ways _ (h.0 c d q) (out-listed ss j c d p))
apart-once (Some i ∷ ss) h (suc j) (suc k) c d p q = ap (λ m. suc m) (apart-once ss h.1 j k c d p q)

-- ---- the places, noted one by one

pub places-more : (t : Item → Bool) (ss : List (Option Item)) (k : ℕ) → k < length ss → places t 0 (take (k + 1) ss) ≡ places t 0 (take k ss) ++ cond (passes t (slot_at ss k)) (k ∷ []) []
places-more t ss k l =
    ap (places t 0) (take_more ss k None l) ∙ places-push t 0 (take k ss) (slot_at ss k)
    ∙ ap (λ m. places t 0 (take k ss) ++ cond (passes t (slot_at ss k)) (m ∷ []) []) (omega (arith, length-take k ss))

-- one more place of those that pass, put where it belongs
pub places-put : (t : Item → Bool) (ss : List (Option Item)) (k : ℕ) → k < length ss → places t 0 (take (k + 1) ss) ≡ cond (passes t (slot_at ss k)) (put_in k (places t 0 (take k ss))) (places t 0 (take k ss))
places-put t ss k l =
    let ps : List ℕ = places t 0 (take k ss) in
    places-more t ss k l ∙ elim (passes t (slot_at ss k)) as (λ b. ps ++ cond b (k ∷ []) [] ≡ cond b (put_in k ps) ps) [
      | true ↦ sym (put-last t 0 (take k ss) k (omega (arith, length-take k ss)))
      | false ↦ append-nil ps
    ]

places-take : (t : Item → Bool) (n : ℕ) (ss : List (Option Item)) (k : ℕ) → length (places t n (take k ss)) ≤ length (places t n ss)
places-take t n [] zero = omega arith
places-take t n [] (suc k) = omega arith
places-take t n (s ∷ ss) zero = omega arith
places-take t n (s ∷ ss) (suc k) =
    let e : length (places t (n + 1) (take k ss)) ≤ length (places t (n + 1) ss) = places-take t (n + 1) ss k in
    elim (passes t s) as (λ b. length (cond b (n ∷ places t (n + 1) (take k ss)) (places t (n + 1) (take k ss))) ≤ length (cond b (n ∷ places t (n + 1) ss) (places t (n + 1) ss))) [ true ↦ omega arith | false ↦ e ]

pub places-fit : (t : Item → Bool) (ss : List (Option Item)) (k : ℕ) → k < length ss → passes t (slot_at ss k) ≡ true → length (places t 0 (take k ss)) < length (filter t (alive ss))
places-fit t ss k l h =
    let more : length (places t 0 (take (k + 1) ss)) ≡ length (places t 0 (take k ss)) + 1 =
    ap length (places-more t ss k l ∙ ap (λ b. places t 0 (take k ss) ++ cond b (k ∷ []) []) h) ∙ length_push (places t 0 (take k ss)) k in
    omega (arith, more, places-take t 0 ss (k + 1), length-places t 0 ss)

-- ---- the deliveries, noted one by one

-- before this place all that is out is found
abbrev pub FindsBelow : List (Option Item) → List Held → ℕ → Type 0
FindsBelow ss held at = (k c d : ℕ) → k < at → passes (out_for c d) (slot_at ss k) ≡ true → find c d held ≡ Some k

abbrev pub AreKnown : List (Option Item) → List Held → Type 0
AreKnown ss held = (c d : ℕ) → is_some (find c d held) ≡ is_out_to c d (alive ss)

-- the delivery at one place is noted
abbrev pub IsNoted : List (Option Item) → List Held → List Held → ℕ → Type 0
IsNoted ss old new at = (x y : ℕ) → find x y new ≡ cond (passes (out_for x y) (slot_at ss at)) (Some at) (find x y old)

pub found-more : (ss : List (Option Item)) (old new : List Held) (at : ℕ) → AreOutOnce (alive ss) → FindsBelow ss old at → IsNoted ss old new at → FindsBelow ss new (at + 1)
found-more ss old new at once below noted k c d l p =
    elim (cases_eq k at) [
      | inl here ↦ noted c d ∙ cond-true (passes (out_for c d) (slot_at ss at)) (Some at) (find c d old) (subst (λ j. passes (out_for c d) (slot_at ss j) ≡ true) here p) ∙ ap (λ (j : ℕ). Some j) (sym here)
      | inr other ↦ noted c d ∙ cond-false (passes (out_for c d) (slot_at ss at)) (Some at) (find c d old) (elim (cases_Bool (passes (out_for c d) (slot_at ss at))) [
        | inr f ↦ f
        | inl t ↦ absurd (other (apart-once ss once k at c d p t))
      ]) ∙ below k c d (omega arith) p
    ]

pub known-more : (ss : List (Option Item)) (old new : List Held) (at : ℕ) → AreKnown ss old → IsNoted ss old new at → AreKnown ss new
known-more ss old new at known noted c d =
    ap is_some (noted c d) ∙ elim (cases_Bool (passes (out_for c d) (slot_at ss at))) [
      | inl t ↦ ap is_some (cond-true (passes (out_for c d) (slot_at ss at)) (Some at) (find c d old) t) ∙ sym (out-listed ss at c d t)
      | inr f ↦ ap is_some (cond-false (passes (out_for c d) (slot_at ss at)) (Some at) (find c d old) f) ∙ known c d
    ]

pub found-all : (ss : List (Option Item)) (held : List Held) (at : ℕ) → length ss ≤ at → FindsBelow ss held at → AreKnown ss held → FindsOut ss held
found-all ss held at l below known =
    let found : (k c d : ℕ) → passes (out_for c d) (slot_at ss k) ≡ true → find c d held ≡ Some k = λ k c d p. below k c d (omega (arith, passes-within (out_for c d) ss k p)) p in
    record {
      found = found;
      there = λ c d k e. (
          let t : is_out_to c d (alive ss) ≡ true = sym (known c d) ∙ ap is_some e in
          let r = out-some c d ss t in
          let q : Some r.0 ≡ Some k = sym (found r.0 c d r.1) ∙ e in
          let same : r.0 ≡ k = cc in
          subst (λ j. passes (out_for c d) (slot_at ss j) ≡ true) same r.1);
    }
