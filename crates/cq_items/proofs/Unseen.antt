-- What was never handed out, through each call.
use Prim.Native.Nat.{zero, suc}
use Rattle.std.proofs.Common.{◌≡◌, ℕ, ◌+◌, ◌<◌, ◌≤◌, Bool, true, false, List, [], ◌∷◌, ◌++◌, length, set, refl, sym, ap, ◌∙◌, subst, arith, inl, inr}
use Rattle.std.specs.Prelude.{not, ◌&&◌, filter, max, is_some, Option, None, Some, option_map, slice_get}
use Rattle.std.proofs.lemmas.Bool.{cond-true, and_from, and_parts, and_left, and_right, cases_lt, both_ways, not-true}
use Rattle.cq_entry.specs.declared.entry.EntryKind.{EntryKind}
use Rattle.cq_items.specs.Item.{Item}
use Rattle.cq_items.specs.declared.item.Stand.{Stand}
use Rattle.cq_items.specs.declared.item.Holder.{Holder}
use Rattle.cq_items.specs.declared.outs.Held.{Held}
use Rattle.cq_items.specs.Items.{waits, committed, undecided, settles, is_fresh, fresh_items, found_item, decide}
use Rattle.cq_items.specs.Slots.{slot_at, held_by, handed_to, passes, alive, places}
use Rattle.cq_items.specs.Queue.{IsSplit, IsUnseen, IsIndexed}
use Rattle.cq_items.proofs.Places.{IsFirstPlace, places-push, filter-slot}
use Rattle.cq_items.proofs.Finds.{finds-push, splits-push, splits-past, splits-same, splits-more}
use Rattle.cq_items.proofs.Steps.{first-within}
use Rattle.cq_items.proofs.Packed.{IsClosed, closed, more-split, none-split}
use Rattle.std.proofs.lemmas.List.{append-nil}

abbrev fresh_waits : Item → Bool
fresh_waits i = i.fresh && waits i

waits-too : (s : Option Item) → passes fresh_waits s ≡ true → passes waits s ≡ true
waits-too None h = cc
waits-too (Some i) h = (and_parts i.fresh (waits i) h).1

stale : (s : Option Item) → passes is_fresh s ≡ false → passes fresh_waits s ≡ false
stale None h = refl
stale (Some i) h = and_left i.fresh (waits i) h

-- what doesn't wait was out
not-fresh : (ss : List (Option Item)) (n k : ℕ) → IsUnseen ss n → k < length ss → passes waits (slot_at ss k) ≡ false → passes is_fresh (slot_at ss k) ≡ false
not-fresh ss n k h l w = elim (cases_lt k n) [
  | inl b ↦ h.split.before k b
  | inr a ↦ absurd (both_ways _ w (waits-too (slot_at ss k) (h.waiting.after k a l)))
]

unseen-same : (ss : List (Option Item)) (n k : ℕ) (s : Option Item) → IsUnseen ss n → k < length ss → passes is_fresh s ≡ passes is_fresh (slot_at ss k)
    → passes fresh_waits s ≡ passes fresh_waits (slot_at ss k) → IsUnseen (set ss k s) n
unseen-same ss n k s h l f w = record {
  split = splits-same is_fresh ss n k s h.split l f;
  waiting = splits-same fresh_waits ss n k s h.waiting l w;
}

pub unseen-published : (ss : List (Option Item)) (n : ℕ) (i : Item) → IsUnseen ss n → i.fresh ≡ true → waits i ≡ true → IsUnseen (ss ++ Some i ∷ []) n
unseen-published ss n i h f w = record {
  split = splits-push is_fresh ss n (Some i) h.split f;
  waiting = splits-push fresh_waits ss n (Some i) h.waiting (and_from i.fresh (waits i) f w);
}

-- ---- what was out stays so

fresh-held : (o : Holder) (s : Option Item) → passes is_fresh (held_by o s) ≡ passes is_fresh s
fresh-held o None = refl
fresh-held o (Some i) = refl

pub unseen-held : (ss : List (Option Item)) (n k : ℕ) (o : Holder) → IsUnseen ss n → k < length ss → passes waits (slot_at ss k) ≡ false → IsUnseen (set ss k (held_by o (slot_at ss k))) n
unseen-held ss n k o h l w =
    let f : passes is_fresh (slot_at ss k) ≡ false = not-fresh ss n k h l w in
    let g : passes is_fresh (held_by o (slot_at ss k)) ≡ passes is_fresh (slot_at ss k) = fresh-held o (slot_at ss k) in
    unseen-same ss n k (held_by o (slot_at ss k)) h l g (stale (held_by o (slot_at ss k)) (g ∙ f) ∙ sym (stale (slot_at ss k) f))

pub unseen-left : (ss : List (Option Item)) (n k : ℕ) → IsUnseen ss n → k < length ss → passes waits (slot_at ss k) ≡ false → IsUnseen (set ss k None) n
unseen-left ss n k h l w =
    let f : passes is_fresh (slot_at ss k) ≡ false = not-fresh ss n k h l w in
    unseen-same ss n k None h l (sym f) (sym (stale (slot_at ss k) f))

-- ---- a commit doesn't ask

fresh-decided : (st : Stand) (s : Option Item) → passes is_fresh (option_map (decide st) s) ≡ passes is_fresh s
fresh-decided st None = refl
fresh-decided st (Some i) = refl

waits-decided : (st : Stand) (s : Option Item) → passes fresh_waits (option_map (decide st) s) ≡ passes fresh_waits s
waits-decided st None = refl
waits-decided st (Some i) = refl

pub unseen-committed : (ss : List (Option Item)) (n k : ℕ) (st : Stand) → IsUnseen ss n → k < length ss → IsUnseen (set ss k (option_map (decide st) (slot_at ss k))) n
unseen-committed ss n k st h l = unseen-same ss n k (option_map (decide st) (slot_at ss k)) h l (fresh-decided st (slot_at ss k)) (waits-decided st (slot_at ss k))

-- ---- a delivery

fresh-handed : (o : Holder) (s : Option Item) → passes is_fresh (handed_to o s) ≡ false
fresh-handed o None = refl
fresh-handed o (Some i) = refl

pub unseen-delivered : (ss : List (Option Item)) (n p m : ℕ) (rest : List ℕ) (o : Holder) → IsUnseen ss n → IsFirstPlace 0 ss p rest → m ≡ max n (p + 1) → IsUnseen (set ss p (handed_to o (slot_at ss p))) m
unseen-delivered ss n p m rest o h fp e =
    let s : Option Item = handed_to o (slot_at ss p) in
    let f : passes is_fresh s ≡ false = fresh-handed o (slot_at ss p) in
    let l : p < length ss = first-within ss p rest fp in
    let low : p ≤ n = elim (cases_lt n (length ss)) [
      | inl b ↦ fp.lowest n (waits-too (slot_at ss n) (h.waiting.after n (omega arith) b))
      | inr a ↦ omega (arith, l, a)
    ] in
    elim (cases_lt p n) [
      | inl b ↦ (
          let was : passes is_fresh (slot_at ss p) ≡ false = h.split.before p b in
          subst (λ k. IsUnseen (set ss p s) k) (omega (arith, b, e)) (unseen-same ss n p s h l (f ∙ sym was) (stale s f ∙ sym (stale (slot_at ss p) was))))
      | inr a ↦ (
          let same : n ≡ p = omega (arith, low, a) in
          let q : IsUnseen ss p = subst (λ k. IsUnseen ss k) same h in
          subst (λ k. IsUnseen (set ss p s) k) (omega (arith, same, e)) (record {
            split = splits-more is_fresh ss p s q.split l f;
            waiting = splits-more fresh_waits ss p s q.waiting l (stale s f);
          }))
    ]

-- ---- empty places are closed up

pub unseen-closed : (ss : List (Option Item)) (n m : ℕ) → IsUnseen ss n → m + length ss ≡ length (filter is_some ss) + n → IsUnseen (filter is_some ss) m
unseen-closed ss n m h e =
    let a : IsClosed is_fresh ss n = closed is_fresh ss n h.split in
    let b : IsClosed fresh_waits ss n = closed fresh_waits ss n h.waiting in
    record {
      split = subst (λ k. IsSplit is_fresh (filter is_some ss) k) (omega (arith, a.counts, e)) a.split;
      waiting = subst (λ k. IsSplit fresh_waits (filter is_some ss) k) (omega (arith, b.counts, e)) b.split;
    }

-- ---- a message from the files

pub indexed-restored : (ss : List (Option Item)) (ws : List ℕ) (held : List Held) (gone : List ℕ) (f id len : ℕ) (kind : EntryKind) (st : Stand) → IsIndexed ss ws held gone f → f ≡ length ss
    → IsIndexed (ss ++ Some (found_item id kind len st) ∷ []) (ws ++ length ss ∷ []) held gone (length ss + 1)
indexed-restored ss ws held gone f id len kind st h e =
    let s : Option Item = Some (found_item id kind len st) in
    record {
      waiting_is = places-push waits 0 ss s ∙ ap (λ xs. xs ++ (0 + length ss) ∷ []) h.waiting_is ∙ ap (λ k. ws ++ k ∷ []) (omega arith);
      finds_out = finds-push ss held s h.finds_out (λ c d. refl);
      gone_is = places-push settles 0 ss s ∙ append-nil (places settles 0 ss) ∙ h.gone_is;
      is_split = splits-past undecided ss f s h.is_split e refl;
    }

-- ---- the committed ones among them

not-false : (b : Bool) → not b ≡ false → b ≡ true
not-false true e = refl
not-false false e = cc

abbrev is_told : Item → Bool
is_told i = committed i && i.fresh

told : (i : Item) (is : List Item) → undecided i ≡ false → i.fresh ≡ true → fresh_items (i ∷ is) ≡ i ∷ fresh_items is
told i is u f = cond-true (is_told i) (i ∷ fresh_items is) (fresh_items is) (and_from (committed i) i.fresh (not-false (committed i) u) f)

untold : (s : Option Item) (ss : List (Option Item)) → passes is_fresh s ≡ false → fresh_items (alive (s ∷ ss)) ≡ fresh_items (alive ss)
untold None ss h = refl
untold (Some i) ss h = filter-slot is_told (Some i) ss (and_right (committed i) i.fresh h)

undecided-untold : (s : Option Item) (ss : List (Option Item)) → passes undecided s ≡ true → fresh_items (alive (s ∷ ss)) ≡ fresh_items (alive ss)
undecided-untold None ss h = refl
undecided-untold (Some i) ss h = filter-slot is_told (Some i) ss (and_left (committed i) i.fresh (not-true (committed i) h))

pub fresh-get : (ss : List (Option Item)) (f n k : ℕ) → IsSplit undecided ss f → IsSplit is_fresh ss n → n + k < f → slice_get (fresh_items (alive ss)) k ≡ slot_at ss (n + k)
fresh-get [] f n k u h l = absurd (omega (arith, u.within, l))
fresh-get (s ∷ ss) zero n k u h l = absurd (omega (arith, l))
fresh-get (None ∷ ss) (suc f) zero k u h l = let t : false ≡ true = h.after 0 (omega arith) (omega arith) in cc
fresh-get (Some i ∷ ss) (suc f) zero zero u h l = ap (λ (is : List Item). slice_get is 0) (told i (alive ss) (u.before 0 (omega arith)) (h.after 0 (omega arith) (omega arith)))
fresh-get (Some i ∷ ss) (suc f) zero (suc k) u h l =
    let e : suc (0 + k) ≡ 0 + suc k = omega arith in
    ap (λ (is : List Item). slice_get is (suc k)) (told i (alive ss) (u.before 0 (omega arith)) (h.after 0 (omega arith) (omega arith)))
    ∙ fresh-get ss f 0 k (more-split undecided (Some i) ss f u) (none-split is_fresh (Some i) ss h) (omega (arith, l))
    ∙ ap (slot_at (Some i ∷ ss)) e
fresh-get (s ∷ ss) (suc f) (suc n) k u h l =
    let e : suc (n + k) ≡ suc n + k = omega arith in
    ap (λ (is : List Item). slice_get is k) (untold s ss (h.before 0 (omega arith)))
    ∙ fresh-get ss f n k (more-split undecided s ss f u) (more-split is_fresh s ss n h) (omega (arith, l))
    ∙ ap (slot_at (s ∷ ss)) e

pub fresh-past : (ss : List (Option Item)) (f n k : ℕ) → IsSplit undecided ss f → IsSplit is_fresh ss n → f ≤ n + k → slice_get (fresh_items (alive ss)) k ≡ None
fresh-past [] f n k u h l = refl
fresh-past (s ∷ ss) zero zero k u h l =
    ap (λ (is : List Item). slice_get is k) (undecided-untold s ss (u.after 0 (omega arith) (omega arith))) ∙ fresh-past ss 0 0 k (none-split undecided s ss u) (none-split is_fresh s ss h) (omega arith)
fresh-past (s ∷ ss) zero (suc n) k u h l =
    ap (λ (is : List Item). slice_get is k) (undecided-untold s ss (u.after 0 (omega arith) (omega arith))) ∙ fresh-past ss 0 n k (none-split undecided s ss u) (more-split is_fresh s ss n h) (omega arith)
fresh-past (s ∷ ss) (suc f) zero zero u h l = absurd (omega (arith, l))
fresh-past (None ∷ ss) (suc f) zero (suc k) u h l = let t : false ≡ true = h.after 0 (omega arith) (omega arith) in cc
fresh-past (Some i ∷ ss) (suc f) zero (suc k) u h l =
    ap (λ (is : List Item). slice_get is (suc k)) (told i (alive ss) (u.before 0 (omega arith)) (h.after 0 (omega arith) (omega arith)))
    ∙ fresh-past ss f 0 k (more-split undecided (Some i) ss f u) (none-split is_fresh (Some i) ss h) (omega (arith, l))
fresh-past (s ∷ ss) (suc f) (suc n) k u h l =
    ap (λ (is : List Item). slice_get is k) (untold s ss (h.before 0 (omega arith)))
    ∙ fresh-past ss f n k (more-split undecided s ss f u) (more-split is_fresh s ss n h) (omega (arith, l))
