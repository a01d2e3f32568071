-- Where the ways of deliveries lead in a tree.
use Prim.Native.Nat.{zero, suc, max}
use Rattle.std.proofs.Common.{◌≡◌, ℕ, ◌+◌, ◌-◌, ◌^◌, ◌<◌, ◌≤◌, Bool, true, false, cond, List, length, refl, sym, ap, ◌∙◌, subst, arith, inl, inr}
use Rattle.std.specs.Prelude.{◌==◌, nat_lt, Option, None, Some, IsSome}
use Rattle.std.specs.Int.{bit_at}
use Rattle.std.proofs.lemmas.Bool.{cond-true, cond-false, and_from, and_parts, eq-eqb, eqb-true, cases_eq, cases_lt, cases_Bool, both_ways, lt-ltb, le-ltb}
use Rattle.std.proofs.lemmas.Nat.Bits.{bit_at-lt, same_from_bits_below}
use Rattle.cq_items.specs.declared.outs.Held.{Held}
use Rattle.cq_items.specs.declared.tree.Node.{Node}
use Rattle.cq_items.specs.Tree.{turn, Agree, node_at, link, some_index, step, way, is_wanted, IsBelow, IsTree, IsEnd, IsLeafBelow}

abbrev pub aim : ℕ → ℕ → Held
aim c d = record { client = c; delivery = d; at = 0 }

-- ---- deliveries with the same way

pub agree-less : (m n : ℕ) (h k : Held) → m ≤ n → Agree n h k → Agree m h k
agree-less m n h k l a x p = a x (omega arith)

pub way-agree : (ns : List Node) (h k : Held) (m : ℕ) → Agree m h k → way ns h m ≡ way ns k m
way-agree ns h k zero a = refl
way-agree ns h k (suc m) a =
    ap (λ b. step ns b (way ns h m)) (a m (omega arith)) ∙ ap (step ns (turn m k)) (way-agree ns h k m (agree-less m (suc m) h k (omega arith) a))

-- ---- a step of a way

index-from : (x j : ℕ) → some_index x ≡ Some j → (x ≡ j) × (0 < j)
index-from zero j e = cc
index-from (suc x) j e = let s : suc x ≡ j = cc in (s, omega arith)

pub step-from : (ns : List Node) (b : Bool) (o : Option ℕ) (j : ℕ) → step ns b o ≡ Some j → (i : ℕ) × (o ≡ Some i) × (link b (node_at ns i) ≡ j) × (0 < j)
step-from ns b None j e = cc
step-from ns b (Some i) j e = let s = index-from (link b (node_at ns i)) j e in (i, refl, s.0, s.1)

pub index-of : (x : ℕ) → 0 < x → some_index x ≡ Some x
index-of zero l = absurd (omega arith)
index-of (suc x) l = refl

pub way-more : (ns : List Node) (h : Held) (m i j : ℕ) → way ns h m ≡ Some i → link (turn m h) (node_at ns i) ≡ j → 0 < j → way ns h (suc m) ≡ Some j
way-more ns h m i j e f l = ap (step ns (turn m h)) e ∙ ap some_index f ∙ index-of j l

pub way-ends : (ns : List Node) (h : Held) (m i : ℕ) → way ns h m ≡ Some i → link (turn m h) (node_at ns i) ≡ 0 → way ns h (suc m) ≡ None
way-ends ns h m i e f = ap (step ns (turn m h)) e ∙ ap some_index f

pub prefix : (ns : List Node) (h : Held) (n m j : ℕ) → way ns h n ≡ Some j → m ≤ n → (i : ℕ) × (way ns h m ≡ Some i)
prefix ns h zero zero j e l = (0, refl)
prefix ns h zero (suc m) j e l = absurd (omega arith)
prefix ns h (suc n) m j e l = elim (cases_eq m (suc n)) [
  | inl same ↦ (j, ap (way ns h) same ∙ e)
  | inr other ↦ (let s = step-from ns (turn n h) (way ns h n) j e in prefix ns h n m s.0 s.1 (omega arith))
]

-- ---- what stands on a way

pub record OnWay (ns : List Node) (h : Held) (m i : ℕ) : Type 0 where
  pub within : i < length ns
  pub level : (node_at ns i).level ≡ m
  pub same : Agree m (node_at ns i).held h

pub below-way : (ns : List Node) → IsTree ns → (h : Held) (m i j : ℕ) → OnWay ns h m i → link (turn m h) (node_at ns i) ≡ j → 0 < j → OnWay ns h (suc m) j
below-way ns t h m i zero above e l = absurd (omega arith)
below-way ns t h m i (suc j) above e l =
    let w : IsBelow ns (turn m h) i (suc j) = t.links i j (turn m h) above.within e in
    record {
      within = w.within;
      level = w.level ∙ ap suc above.level;
      same = λ x p. elim (cases_lt x m) [
        | inl before ↦ sym (w.same x (omega (arith, above.level))) ∙ above.same x before
        | inr past ↦ (
            let here : x ≡ m = omega arith in
            ap (λ y. turn y (node_at ns (suc j)).held) (here ∙ sym above.level) ∙ w.turns ∙ ap (λ y. turn y h) (sym here))
      ];
    }

pub on-way : (ns : List Node) → IsTree ns → 0 < length ns → (h : Held) (m i : ℕ) → way ns h m ≡ Some i → OnWay ns h m i
on-way ns t l h zero i e =
    let s : 0 ≡ i = cc in
    subst (OnWay ns h 0) s (record { within = l; level = t.root; same = λ x p. absurd (omega arith) })
on-way ns t l h (suc m) j e =
    let s = step-from ns (turn m h) (way ns h m) j e in
    below-way ns t h m s.0 j (on-way ns t l h m s.0 s.1) s.2 s.3

-- the node above another is the one on its way
pub one-above : (ns : List Node) → IsTree ns → (i j : ℕ) (b : Bool) → i < length ns → link b (node_at ns i) ≡ j → 0 < j
    → (way ns (node_at ns j).held (node_at ns i).level ≡ Some i) × ((node_at ns j).level ≡ suc (node_at ns i).level)
one-above ns t i zero b l e p = absurd (omega arith)
one-above ns t i (suc j) b l e p =
    let w = t.links i j b l e in
    (sym (way-agree ns (node_at ns i).held (node_at ns (suc j)).held (node_at ns i).level w.same) ∙ t.on_way i l, w.level)

-- ---- what turns say of a delivery

abbrev pub reach : Bool → ℕ
reach any = cond any 32 64

bit-same : (a b : ℕ) → a < 2 → b < 2 → (a == 1) ≡ (b == 1) → a ≡ b
bit-same a b l m e = elim (cases_eq a 1) [
  | inl one ↦ one ∙ sym (eqb-true b 1 (sym e ∙ eq-eqb a 1 one))
  | inr other ↦ elim (cases_eq b 1) [
    | inl one ↦ absurd (other (eqb-true a 1 (e ∙ eq-eqb b 1 one)))
    | inr another ↦ (let p : a ≡ 0 = omega arith in let q : b ≡ 0 = omega arith in p ∙ sym q)
  ]
]

turn-client : (x : ℕ) (h : Held) → x < 32 → turn x h ≡ (bit_at h.client x == 1)
turn-client x h l = cond-true (nat_lt x 32) (bit_at h.client x == 1) (bit_at h.delivery (x - 32) == 1) (lt-ltb x 32 l)

turn-delivery : (x : ℕ) (h : Held) → turn (32 + x) h ≡ (bit_at h.delivery x == 1)
turn-delivery x h =
    let e : 32 + x - 32 ≡ x = omega arith in
    cond-false (nat_lt (32 + x) 32) (bit_at h.client (32 + x) == 1) (bit_at h.delivery (32 + x - 32) == 1) (le-ltb (32 + x) 32 (omega arith)) ∙ ap (λ y. bit_at h.delivery y == 1) e

same-client : (h k : Held) → Agree 32 h k → h.client < 2 ^ 32 → k.client < 2 ^ 32 → h.client ≡ k.client
same-client h k a l m = same_from_bits_below 32 h.client k.client l m (λ i p. bit-same (bit_at h.client i) (bit_at k.client i) (bit_at-lt h.client i) (bit_at-lt k.client i)
    (sym (turn-client i h p) ∙ a i p ∙ turn-client i k p))

same-delivery : (h k : Held) → Agree 64 h k → h.delivery < 2 ^ 32 → k.delivery < 2 ^ 32 → h.delivery ≡ k.delivery
same-delivery h k a l m = same_from_bits_below 32 h.delivery k.delivery l m (λ i p. bit-same (bit_at h.delivery i) (bit_at k.delivery i) (bit_at-lt h.delivery i) (bit_at-lt k.delivery i)
    (sym (turn-delivery i h) ∙ a (32 + i) (omega arith) ∙ turn-delivery i k))

pub reach-wanted : (any : Bool) (c d : ℕ) (h : Held) → is_wanted any c d h ≡ true → Agree (reach any) h (aim c d)
reach-wanted true c d h w x l =
    let e : h.client ≡ c = eqb-true h.client c (and_parts (h.client == c) true w).0 in
    turn-client x h l ∙ ap (λ y. bit_at y x == 1) e ∙ sym (turn-client x (aim c d) l)
reach-wanted false c d h w x l =
    let p = and_parts (h.client == c) (h.delivery == d) w in
    ap (λ y. cond (nat_lt x 32) (bit_at y x == 1) (bit_at h.delivery (x - 32) == 1)) (eqb-true h.client c p.0)
    ∙ ap (λ y. cond (nat_lt x 32) (bit_at c x == 1) (bit_at y (x - 32) == 1)) (eqb-true h.delivery d p.1)

pub wanted-reach : (any : Bool) (c d : ℕ) (h : Held) → h.client < 2 ^ 32 → h.delivery < 2 ^ 32 → c < 2 ^ 32 → d < 2 ^ 32 → Agree (reach any) h (aim c d) → is_wanted any c d h ≡ true
wanted-reach true c d h p q r s a = and_from (h.client == c) true (eq-eqb h.client c (same-client h (aim c d) a p r)) refl
wanted-reach false c d h p q r s a =
    and_from (h.client == c) (h.delivery == d) (eq-eqb h.client c (same-client h (aim c d) (agree-less 32 64 h (aim c d) (omega arith) a) p r))
    (eq-eqb h.delivery d (same-delivery h (aim c d) a q s))

reach-most : (any : Bool) → reach any ≤ 64
reach-most true = omega arith
reach-most false = omega arith

-- ---- a search

-- what a search has passed at a level
pub record HasPassed (ns : List Node) (any : Bool) (c d m i : ℕ) : Type 0 where
  pub within : i < length ns
  pub on_way : way ns (aim c d) m ≡ Some i
  pub first : (j : ℕ) → j < length ns → is_wanted any c d (node_at ns j).held ≡ true → m ≤ (node_at ns j).level

-- one that isn't wanted stands above where the wanted ones part
pub not-deep : (ns : List Node) → IsTree ns → 0 < length ns → (any : Bool) (c d m i : ℕ) → c < 2 ^ 32 → d < 2 ^ 32 → way ns (aim c d) m ≡ Some i → is_wanted any c d (node_at ns i).held ≡ false → m < reach any
not-deep ns t some any c d m i p q e n = elim (cases_lt m (reach any)) [
  | inl l ↦ l
  | inr g ↦ (
      let w = on-way ns t some (aim c d) m i e in
      let f = t.fits i in
      absurd (both_ways _ n (wanted-reach any c d (node_at ns i).held f.0 f.1 p q (agree-less (reach any) m (node_at ns i).held (aim c d) g w.same))))
]

pub shallow : (ns : List Node) → IsTree ns → 0 < length ns → (any : Bool) (c d m i : ℕ) → c < 2 ^ 32 → d < 2 ^ 32 → way ns (aim c d) m ≡ Some i → is_wanted any c d (node_at ns i).held ≡ false → m < 64
shallow ns t some any c d m i p q e n = omega (arith, not-deep ns t some any c d m i p q e n, reach-most any)

-- a wanted one is on the way down to where the wanted ones part
wanted-way : (ns : List Node) → IsTree ns → (any : Bool) (c d m j : ℕ) → m ≤ reach any → is_wanted any c d (node_at ns j).held ≡ true → way ns (node_at ns j).held m ≡ way ns (aim c d) m
wanted-way ns t any c d m j l w = way-agree ns (node_at ns j).held (aim c d) m (agree-less m (reach any) (node_at ns j).held (aim c d) l (reach-wanted any c d (node_at ns j).held w))

pub passed-more : (ns : List Node) → IsTree ns → 0 < length ns → (any : Bool) (c d m i : ℕ) → c < 2 ^ 32 → d < 2 ^ 32 → HasPassed ns any c d m i → is_wanted any c d (node_at ns i).held ≡ false
    → (j : ℕ) → j < length ns → is_wanted any c d (node_at ns j).held ≡ true → suc m ≤ (node_at ns j).level
passed-more ns t some any c d m i p q h n j l w = elim (cases_eq (node_at ns j).level m) [
  | inr other ↦ omega (arith, h.first j l w)
  | inl same ↦ (
      let deep = not-deep ns t some any c d m i p q h.on_way n in
      let e : Some j ≡ Some i = sym (t.on_way j l) ∙ ap (way ns (node_at ns j).held) same ∙ wanted-way ns t any c d m j (omega arith) w ∙ h.on_way in
      let here : j ≡ i = cc in
      absurd (both_ways _ n (ap (λ k. is_wanted any c d (node_at ns k).held) (sym here) ∙ w)))
]

pub none-wanted : (ns : List Node) → IsTree ns → 0 < length ns → (any : Bool) (c d i : ℕ) → c < 2 ^ 32 → d < 2 ^ 32 → IsEnd ns any c d i → is_wanted any c d (node_at ns i).held ≡ false
    → (j : ℕ) → j < length ns → is_wanted any c d (node_at ns j).held ≡ false
none-wanted ns t some any c d i p q h n j l = elim (cases_Bool (is_wanted any c d (node_at ns j).held)) [
  | inr f ↦ f
  | inl w ↦ (
      let passed : HasPassed ns any c d (node_at ns i).level i = record { within = h.within; on_way = h.on_way; first = h.first } in
      let more = passed-more ns t some any c d (node_at ns i).level i p q passed n j l w in
      let deep = not-deep ns t some any c d (node_at ns i).level i p q h.on_way n in
      let there = prefix ns (node_at ns j).held (node_at ns j).level (suc (node_at ns i).level) j (t.on_way j l) more in
      let e : Some there.0 ≡ None = sym there.1 ∙ wanted-way ns t any c d (suc (node_at ns i).level) j (omega arith) w ∙ way-ends ns (aim c d) (node_at ns i).level i h.on_way (h.ends n).1 in
      cc)
]

pub is-end : (ns : List Node) → IsTree ns → 0 < length ns → (any : Bool) (c d m i : ℕ) → HasPassed ns any c d m i
    → (is_wanted any c d (node_at ns i).held ≡ false → (m < 64) × (link (turn m (aim c d)) (node_at ns i) ≡ 0)) → IsEnd ns any c d i
is-end ns t some any c d m i h ends =
    let w = on-way ns t some (aim c d) m i h.on_way in
    record {
      within = w.within;
      on_way = subst (λ x. way ns (aim c d) x ≡ Some i) (sym w.level) h.on_way;
      ends = λ n. subst (λ x. (x < 64) × (link (turn x (aim c d)) (node_at ns i) ≡ 0)) (sym w.level) (ends n);
      first = λ j l v. omega (arith, w.level, h.first j l v);
    }

pub passed-next : (ns : List Node) → IsTree ns → 0 < length ns → (any : Bool) (c d m i j n : ℕ) → c < 2 ^ 32 → d < 2 ^ 32 → HasPassed ns any c d m i → is_wanted any c d (node_at ns i).held ≡ false
    → link (turn m (aim c d)) (node_at ns i) ≡ j → 0 < j → n ≡ suc m → HasPassed ns any c d n j
passed-next ns t some any c d m i j n p q h w e l same =
    subst (λ x. HasPassed ns any c d x j) (sym same) (record {
      within = (below-way ns t (aim c d) m i j (on-way ns t some (aim c d) m i h.on_way) e l).within;
      on_way = way-more ns (aim c d) m i j h.on_way e l;
      first = passed-more ns t some any c d m i p q h w;
    })

-- ---- the node above one

pub way-next : (ns : List Node) (h : Held) (n m i j x s : ℕ) → way ns h n ≡ Some x → m < n → way ns h m ≡ Some i → link (turn m h) (node_at ns i) ≡ j → s ≡ suc m → way ns h s ≡ Some j
way-next ns h n m i j x s e l f g same =
    let there = prefix ns h n (suc m) x e (omega arith) in
    let above = step-from ns (turn m h) (way ns h m) there.0 there.1 in
    let t : Some above.0 ≡ Some i = sym above.1 ∙ f in
    let here : above.0 ≡ i = cc in
    ap (way ns h) same ∙ there.1 ∙ ap Some (sym above.2 ∙ ap (λ k. link (turn m h) (node_at ns k)) here ∙ g)

-- ---- a leaf below one

pub record IsDeeper (ns : List Node) (i passed j : ℕ) : Type 0 where
  pub within : j < length ns
  pub deep : passed ≤ (node_at ns j).level
  pub above : (node_at ns i).level ≤ (node_at ns j).level
  pub same : Agree (node_at ns i).level (node_at ns i).held (node_at ns j).held

linked : (n : Node) (x : ℕ) → x ≡ max n.left n.right → 0 < x → (b : Bool) × (link b n ≡ x)
linked n x e l = elim (cases_lt n.left n.right) [
  | inl less ↦ (true, let f : n.right ≡ x = omega arith in f)
  | inr more ↦ (false, let f : n.left ≡ x = omega arith in f)
]

pub deeper : (ns : List Node) → IsTree ns → (i passed j x n : ℕ) → IsDeeper ns i passed j → x ≡ max (node_at ns j).left (node_at ns j).right → 0 < x → n ≡ suc passed → IsDeeper ns i n x
deeper ns t i passed j zero n d e l same = absurd (omega arith)
deeper ns t i passed j (suc x) n d e l same =
    let b = linked (node_at ns j) (suc x) e l in
    let w = t.links j x b.0 d.within b.1 in
    record {
      within = w.within;
      deep = omega (arith, w.level, d.deep);
      above = omega (arith, w.level, d.above);
      same = λ y p. d.same y p ∙ w.same y (omega (arith, d.above));
    }

pub leaf-here : (ns : List Node) (i passed j : ℕ) → IsDeeper ns i passed j → 0 ≡ max (node_at ns j).left (node_at ns j).right → IsLeafBelow ns i j
leaf-here ns i passed j d e = record {
  within = d.within;
  same = d.same;
  ends = λ b. elim b as (λ b. link b (node_at ns j) ≡ 0) [ true ↦ (let f : (node_at ns j).right ≡ 0 = omega arith in f) | false ↦ (let f : (node_at ns j).left ≡ 0 = omega arith in f) ];
}

no-link : (ns : List Node) → IsTree ns → (j : ℕ) (b : Bool) (x : ℕ) → j < length ns → 64 ≤ (node_at ns j).level → link b (node_at ns j) ≡ x → x ≡ 0
no-link ns t j b zero l g e = refl
no-link ns t j b (suc x) l g e = let w = t.links j x b l e in absurd (omega (arith, w.level, t.depth (suc x)))

pub leaf-last : (ns : List Node) → IsTree ns → (i passed j : ℕ) → IsDeeper ns i passed j → 64 ≤ passed → IsLeafBelow ns i j
leaf-last ns t i passed j d g = record {
  within = d.within;
  same = d.same;
  ends = λ b. no-link ns t j b (link b (node_at ns j)) d.within (omega (arith, d.deep)) refl;
}

pub some-of : (o : Option ℕ) → IsSome o → (x : ℕ) × (o ≡ Some x)
some-of None s = cc
some-of (Some x) s = (x, refl)

pub is-some : (o : Option ℕ) (x : ℕ) → o ≡ Some x → IsSome o
is-some None x e = cc
is-some (Some y) x e = refl

pub level-above : (ns : List Node) → IsTree ns → (i : ℕ) → i < length ns → IsSome (way ns (node_at ns i).held ((node_at ns i).level - 1))
level-above ns t i l =
    let there = prefix ns (node_at ns i).held (node_at ns i).level ((node_at ns i).level - 1) i (t.on_way i l) (omega arith) in
    is-some (way ns (node_at ns i).held ((node_at ns i).level - 1)) there.0 there.1
