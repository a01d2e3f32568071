-- Where a delivery is in a list that has each once, and what edits of such a list leave.
use Prim.Native.Nat.{zero, suc}
use Rattle.std.proofs.Common.{◌≡◌, ℕ, ◌+◌, ◌-◌, ◌<◌, ◌≤◌, Bool, true, false, cond, List, [], ◌∷◌, ◌++◌, length, set, refl, sym, ap, ◌∙◌, subst, arith, inl, inr, ◌⊎◌, length-append, length-set, length-take, get_or-set_same, get_or-set_other}
use Rattle.std.specs.Prelude.{◌==◌, ◌&&◌, Option, None, Some, is_some}
use Rattle.std.proofs.lemmas.Bool.{cond-true, cond-false, and_from, and_left, and_parts, eq-eqb, eqb-true, ne_eqb, cases_eq, cases_lt, cases_Bool, both_ways}
use Rattle.std.proofs.lemmas.List.{get_or_append_left, get_or_push, get_or-take}
use Rattle.cq_items.specs.declared.outs.Held.{Held}
use Rattle.cq_items.specs.OutsValue.{is_held, held_at, no_delivery, AreOnce}
use Rattle.cq_items.specs.Outs.{find, Puts, Took, TookOne}
use Rattle.cq_items.specs.Tree.{is_wanted, IsFound, IsTaken}

held-same : (c d : ℕ) (h : Held) → is_held c d h ≡ true → (h.client ≡ c) × (h.delivery ≡ d)
held-same c d h e = let parts = and_parts _ _ e in (eqb-true h.client c parts.0, eqb-true h.delivery d parts.1)

held-from : (c d : ℕ) (h : Held) → h.client ≡ c → h.delivery ≡ d → is_held c d h ≡ true
held-from c d h a b = and_from _ _ (eq-eqb h.client c a) (eq-eqb h.delivery d b)

-- two that are this delivery are the same one
held-both : (c d : ℕ) (h k : Held) → is_held c d h ≡ true → is_held c d k ≡ true → is_held k.client k.delivery h ≡ true
held-both c d h k e f =
    let p = held-same c d h e in
    let q = held-same c d k f in
    held-from k.client k.delivery h (p.0 ∙ sym q.0) (p.1 ∙ sym q.1)

-- ---- what a search of the list finds

once-tail : (h : Held) (hs : List Held) → AreOnce (h ∷ hs) → AreOnce hs
once-tail h hs a i j l m e = let s : suc i ≡ suc j = a (suc i) (suc j) (omega arith) (omega arith) e in omega arith

pub found-at : (hs : List Held) (i c d : ℕ) → AreOnce hs → i < length hs → is_held c d (held_at hs i) ≡ true → find c d hs ≡ Some (held_at hs i).at
found-at [] i c d a l e = absurd (omega arith)
found-at (h ∷ hs) zero c d a l e = cond-true (is_held c d h) (Some h.at) (find c d hs) e
found-at (h ∷ hs) (suc i) c d a l e =
    elim (cases_Bool (is_held c d h)) [
      | inl t ↦ (let s : 0 ≡ suc i = a 0 (suc i) (omega arith) l (held-both c d h (held_at hs i) t e) in absurd (omega arith))
      | inr f ↦ cond-false (is_held c d h) (Some h.at) (find c d hs) f ∙ found-at hs i c d (once-tail h hs a) (omega arith) e
    ]

pub none-find : (hs : List Held) (c d : ℕ) → ((i : ℕ) → i < length hs → is_held c d (held_at hs i) ≡ false) → find c d hs ≡ None
none-find [] c d n = refl
none-find (h ∷ hs) c d n = cond-false (is_held c d h) (Some h.at) (find c d hs) (n 0 (omega arith)) ∙ none-find hs c d (λ i l. n (suc i) (omega arith))

none-tail : (h : Held) (hs : List Held) (c d : ℕ) → is_held c d h ≡ false → ((i : ℕ) → i < length hs → is_held c d (held_at hs i) ≡ false) → (i : ℕ) → i < length (h ∷ hs) → is_held c d (held_at (h ∷ hs) i) ≡ false
none-tail h hs c d f n zero l = f
none-tail h hs c d f n (suc i) l = n i (omega arith)

pub find-none : (hs : List Held) (c d : ℕ) → find c d hs ≡ None → (i : ℕ) → i < length hs → is_held c d (held_at hs i) ≡ false
find-none [] c d e i l = absurd (omega arith)
find-none (h ∷ hs) c d e i l =
    (elim (is_held c d h) as (λ b. is_held c d h ≡ b → cond b (Some h.at) (find c d hs) ≡ None → is_held c d (held_at (h ∷ hs) i) ≡ false) [
      | true ↦ λ _ e. cc
      | false ↦ λ f e. none-tail h hs c d f (find-none hs c d e) i l
    ]) refl e

pub find-some : (hs : List Held) (c d a : ℕ) → find c d hs ≡ Some a → (i : ℕ) × (i < length hs) × (is_held c d (held_at hs i) ≡ true)
find-some [] c d a e = cc
find-some (h ∷ hs) c d a e =
    (elim (is_held c d h) as (λ b. is_held c d h ≡ b → cond b (Some h.at) (find c d hs) ≡ Some a → (i : ℕ) × (i < suc (length hs)) × (is_held c d (held_at (h ∷ hs) i) ≡ true)) [
      | true ↦ λ t e. (0, omega arith, t)
      | false ↦ λ f e. (let s = find-some hs c d a e in (suc s.0, (let l = s.1 in omega arith), s.2))
    ]) refl e

-- ---- lists that differ in one delivery

apart : (x y c d : ℕ) (z : Held) → (x == c && y == d) ≡ false → is_held x y z ≡ true → is_held c d z ≡ false
apart x y c d z n e = elim (cases_Bool (is_held c d z)) [
  | inr f ↦ f
  | inl t ↦ (
      let p = held-same x y z e in
      let q = held-same c d z t in
      absurd (both_ways _ n (and_from (x == c) (y == d) (eq-eqb x c (sym p.0 ∙ q.0)) (eq-eqb y d (sym p.1 ∙ q.1)))))
]

-- each other delivery of one list is in the other one
abbrev pub Has : ℕ → ℕ → List Held → List Held → Type 0
Has c d hs ks = (i : ℕ) → i < length hs → is_held c d (held_at hs i) ≡ false → (j : ℕ) × (j < length ks) × (held_at ks j ≡ held_at hs i)

others-by : (c d : ℕ) (old new : List Held) → AreOnce old → AreOnce new → Has c d old new → Has c d new old → (x y : ℕ) → (x == c && y == d) ≡ false → find x y new ≡ find x y old
others-by c d old new a b to from x y n =
    (elim (find x y old) as (λ (o : Option ℕ). find x y old ≡ o → find x y new ≡ o) [
      | None ↦ λ g. none-find new x y (λ j l. elim (cases_Bool (is_held x y (held_at new j))) [
        | inr f ↦ f
        | inl t ↦ (
            let s = from j l (apart x y c d (held_at new j) n t) in
            absurd (both_ways _ (find-none old x y g s.0 s.1) (ap (is_held x y) s.2 ∙ t)))
      ])
      | Some at ↦ λ g. (
          let s = find-some old x y at g in
          let r = to s.0 s.1 (apart x y c d (held_at old s.0) n s.2) in
          found-at new r.0 x y b r.1 (ap (is_held x y) r.2 ∙ s.2) ∙ ap (λ (h : Held). Some h.at) r.2 ∙ sym (found-at old s.0 x y a s.1 s.2) ∙ g)
    ]) refl

pub puts-by : (c d : ℕ) (place : Option ℕ) (old new : List Held) → AreOnce old → AreOnce new → find c d new ≡ place → Has c d old new → Has c d new old → Puts c d place old new
puts-by c d place old new a b e to from x y = elim (cases_Bool (x == c && y == d)) [
  | inl t ↦ (
      let p = and_parts (x == c) (y == d) t in
      ap (λ k. find k y new) (eqb-true x c p.0) ∙ ap (λ k. find c k new) (eqb-true y d p.1) ∙ e ∙ sym (cond-true (x == c && y == d) place (find x y old) t))
  | inr n ↦ others-by c d old new a b to from x y n ∙ sym (cond-false (x == c && y == d) place (find x y old) n)
]

-- ---- one more

push-at : (hs : List Held) (h : Held) (i : ℕ) → i < length (hs ++ h ∷ []) → ((i < length hs) × (held_at (hs ++ h ∷ []) i ≡ held_at hs i)) ⊎ ((i ≡ length hs) × (held_at (hs ++ h ∷ []) i ≡ h))
push-at hs h i l = elim (cases_lt i (length hs)) [
  | inl m ↦ inl (m, get_or_append_left hs (h ∷ []) no_delivery i m)
  | inr g ↦ (let e : i ≡ length hs = omega (arith, length-append hs (h ∷ [])) in inr (e, get_or_push hs h no_delivery i (sym e)))
]

pub once-pushed : (hs : List Held) (h : Held) → AreOnce hs → ((i : ℕ) → i < length hs → is_held h.client h.delivery (held_at hs i) ≡ false) → AreOnce (hs ++ h ∷ [])
once-pushed hs h a n i j l m e = elim (push-at hs h i l) [
  | inl p ↦ elim (push-at hs h j m) [
    | inl q ↦ a i j p.0 q.0 (subst (λ (k : Held). is_held k.client k.delivery (held_at hs i) ≡ true) q.1 (ap (is_held (held_at (hs ++ h ∷ []) j).client (held_at (hs ++ h ∷ []) j).delivery) (sym p.1) ∙ e))
    | inr q ↦ absurd (both_ways _ (n i p.0) (subst (λ (k : Held). is_held k.client k.delivery (held_at hs i) ≡ true) q.1 (ap (is_held (held_at (hs ++ h ∷ []) j).client (held_at (hs ++ h ∷ []) j).delivery) (sym p.1) ∙ e)))
  ]
  | inr p ↦ elim (push-at hs h j m) [
    | inl q ↦ (
        let f : is_held (held_at hs j).client (held_at hs j).delivery h ≡ true = subst (λ (k : Held). is_held k.client k.delivery h ≡ true) q.1 (ap (is_held (held_at (hs ++ h ∷ []) j).client (held_at (hs ++ h ∷ []) j).delivery) (sym p.1) ∙ e) in
        let s = held-same (held_at hs j).client (held_at hs j).delivery h f in
        absurd (both_ways _ (n j q.0) (held-from h.client h.delivery (held_at hs j) (sym s.0) (sym s.1))))
    | inr q ↦ p.0 ∙ sym q.0
  ]
]

pub puts-pushed : (hs : List Held) (h : Held) → AreOnce hs → ((i : ℕ) → i < length hs → is_held h.client h.delivery (held_at hs i) ≡ false) → Puts h.client h.delivery (Some h.at) hs (hs ++ h ∷ [])
puts-pushed hs h a n =
    let new = hs ++ h ∷ [] in
    let within : length hs < length new = omega (arith, length-append hs (h ∷ [])) in
    let last : held_at new (length hs) ≡ h = get_or_push hs h no_delivery (length hs) refl in
    puts-by h.client h.delivery (Some h.at) hs new a (once-pushed hs h a n)
    (found-at new (length hs) h.client h.delivery (once-pushed hs h a n) within (ap (is_held h.client h.delivery) last ∙ held-from h.client h.delivery h refl refl) ∙ ap (λ (k : Held). Some k.at) last)
    (λ i l _. (i, omega arith, get_or_append_left hs (h ∷ []) no_delivery i l))
    (λ i l f. elim (push-at hs h i l) [
      | inl p ↦ (i, p.0, sym p.1)
      | inr p ↦ absurd (both_ways _ f (ap (is_held h.client h.delivery) p.1 ∙ held-from h.client h.delivery h refl refl))
    ])

-- ---- one fewer

-- where the delivery at a place of the new list stood, and where one of the old list stands now
abbrev source : ℕ → ℕ → ℕ → ℕ → ℕ
source i leaf last k = let m = cond (k == leaf) last k in cond (m == i) leaf m

at-eq : {X : Type 0} (a b : ℕ) (x y : X) → a ≡ b → cond (a == b) x y ≡ x
at-eq a b x y e = cond-true (a == b) x y (eq-eqb a b e)

at-ne : {X : Type 0} (a b : ℕ) (x y : X) → (a ≡ b → ⊥) → cond (a == b) x y ≡ y
at-ne a b x y n = cond-false (a == b) x y (ne_eqb a b n)

set-at : (hs : List Held) (i k : ℕ) (h : Held) → i < length hs → held_at (set hs i h) k ≡ cond (k == i) h (held_at hs k)
set-at hs i k h l = elim (cases_eq k i) [
  | inl e ↦ ap (held_at (set hs i h)) e ∙ get_or-set_same hs i h no_delivery l ∙ sym (at-eq k i h (held_at hs k) e)
  | inr n ↦ get_or-set_other hs i k h no_delivery n ∙ sym (at-ne k i h (held_at hs k) n)
]

cond-ap : (b : Bool) (x y : ℕ) (hs : List Held) → held_at hs (cond b x y) ≡ cond b (held_at hs x) (held_at hs y)
cond-ap true x y hs = refl
cond-ap false x y hs = refl

-- what a source is
pub record IsSource (i leaf last k s : ℕ) : Type 0 where
  pub moved : k ≡ leaf → last ≡ i → s ≡ leaf
  pub last_one : k ≡ leaf → (last ≡ i → ⊥) → s ≡ last
  pub filled : (k ≡ leaf → ⊥) → k ≡ i → s ≡ leaf
  pub same : (k ≡ leaf → ⊥) → (k ≡ i → ⊥) → s ≡ k

source-is : (i leaf last k : ℕ) → IsSource i leaf last k (source i leaf last k)
source-is i leaf last k = record {
  moved = λ e f. ap (λ m. cond (m == i) leaf m) (at-eq k leaf last k e) ∙ at-eq last i leaf last f;
  last_one = λ e f. ap (λ m. cond (m == i) leaf m) (at-eq k leaf last k e) ∙ at-ne last i leaf last f;
  filled = λ e f. ap (λ m. cond (m == i) leaf m) (at-ne k leaf last k e) ∙ at-eq k i leaf k f;
  same = λ e f. ap (λ m. cond (m == i) leaf m) (at-ne k leaf last k e) ∙ at-ne k i leaf k f;
}

-- the four forms of a source
source-cases : (i leaf last k : ℕ) → (((k ≡ leaf) × (last ≡ i) × (source i leaf last k ≡ leaf)) ⊎ ((k ≡ leaf) × (last ≡ i → ⊥) × (source i leaf last k ≡ last)))
    ⊎ (((k ≡ leaf → ⊥) × (k ≡ i) × (source i leaf last k ≡ leaf)) ⊎ ((k ≡ leaf → ⊥) × (k ≡ i → ⊥) × (source i leaf last k ≡ k)))
source-cases i leaf last k =
    let w = source-is i leaf last k in
    elim (cases_eq k leaf) [
      | inl e ↦ inl (elim (cases_eq last i) [ inl f ↦ inl (e, f, w.moved e f) | inr f ↦ inr (e, f, w.last_one e f) ])
      | inr e ↦ inr (elim (cases_eq k i) [ inl f ↦ inl (e, f, w.filled e f) | inr f ↦ inr (e, f, w.same e f) ])
    ]

pub source-within : (i leaf last k : ℕ) → k < last → leaf ≤ last → source i leaf last k ≤ last
source-within i leaf last k l m = elim (source-cases i leaf last k) [
  | inl a ↦ elim a [ inl p ↦ omega (arith, p.2) | inr p ↦ omega (arith, p.2) ]
  | inr a ↦ elim a [ inl p ↦ omega (arith, p.2) | inr p ↦ omega (arith, p.2) ]
]

-- none has the place that was taken
pub source-other : (i leaf last k : ℕ) → k < last → leaf ≤ last → source i leaf last k ≡ i → ⊥
source-other i leaf last k l m e = elim (source-cases i leaf last k) [
  | inl a ↦ elim a [ inl p ↦ omega (arith, p.0, p.1, p.2, e) | inr p ↦ p.1 (sym p.2 ∙ e) ]
  | inr a ↦ elim a [ inl p ↦ p.0 (p.1 ∙ sym e ∙ p.2) | inr p ↦ p.1 (sym p.2 ∙ e) ]
]

-- no two places of the new list have one source
pub source-once : (i leaf last j k : ℕ) → j < last → k < last → leaf ≤ last → source i leaf last j ≡ source i leaf last k → j ≡ k
source-once i leaf last j k l m w e = elim (source-cases i leaf last j) [
  | inl a ↦ elim a [
    | inl p ↦ elim (source-cases i leaf last k) [
      | inl b ↦ elim b [ inl q ↦ p.0 ∙ sym q.0 | inr q ↦ absurd (q.1 p.1) ]
      | inr b ↦ elim b [ inl q ↦ omega (arith, p.1, q.1, m) | inr q ↦ absurd (q.0 (sym q.2 ∙ sym e ∙ p.2)) ]
    ]
    | inr p ↦ elim (source-cases i leaf last k) [
      | inl b ↦ elim b [ inl q ↦ p.0 ∙ sym q.0 | inr q ↦ p.0 ∙ sym q.0 ]
      | inr b ↦ elim b [ inl q ↦ omega (arith, p.0, p.2, q.2, e, l) | inr q ↦ omega (arith, p.2, q.2, e, m) ]
    ]
  ]
  | inr a ↦ elim a [
    | inl p ↦ elim (source-cases i leaf last k) [
      | inl b ↦ elim b [ inl q ↦ omega (arith, p.1, q.1, l) | inr q ↦ omega (arith, q.0, p.2, q.2, e, m) ]
      | inr b ↦ elim b [ inl q ↦ p.1 ∙ sym q.1 | inr q ↦ absurd (q.0 (sym q.2 ∙ sym e ∙ p.2)) ]
    ]
    | inr p ↦ elim (source-cases i leaf last k) [
      | inl b ↦ elim b [ inl q ↦ absurd (p.0 (sym p.2 ∙ e ∙ q.2)) | inr q ↦ omega (arith, p.2, q.2, e, l) ]
      | inr b ↦ elim b [ inl q ↦ absurd (p.0 (sym p.2 ∙ e ∙ q.2)) | inr q ↦ sym p.2 ∙ e ∙ q.2 ]
    ]
  ]
]

-- each place but the one that was taken is a source
pub target : (i leaf last m : ℕ) → m ≤ last → i ≤ last → leaf ≤ last → (m ≡ i → ⊥) → (k : ℕ) × (k < last) × (source i leaf last k ≡ m)
target i leaf last m w v u n = elim (cases_eq m leaf) [
  | inl e ↦ elim (cases_eq i last) [
    | inl f ↦ (leaf, omega (arith, e, f, n), (source-is i leaf last leaf).moved refl (sym f) ∙ sym e)
    | inr f ↦ (i, omega (arith, f), (source-is i leaf last i).filled (λ g. n (e ∙ sym g)) refl ∙ sym e)
  ]
  | inr e ↦ elim (cases_eq m last) [
    | inl f ↦ (leaf, omega (arith, e, f), (source-is i leaf last leaf).last_one refl (λ g. n (f ∙ g)) ∙ sym f)
    | inr f ↦ (m, omega (arith, f), (source-is i leaf last m).same e n)
  ]
]

pub taken-length : (old new : List Held) (i : ℕ) → i < length old → IsTaken old new i → length new + 1 ≡ length old
taken-length old new i l t =
    let hs = set old i (held_at old t.leaf) in
    omega (arith, ap length t.is, length-take (length hs - 1) (set hs t.leaf (held_at hs (length hs - 1))), length-set hs t.leaf (held_at hs (length hs - 1)), length-set old i (held_at old t.leaf))

pub taken-at : (old new : List Held) (i : ℕ) → i < length old → (t : IsTaken old new i) → (k : ℕ) → k < length new → held_at new k ≡ held_at old (source i t.leaf (length old - 1) k)
taken-at old new i l t k m =
    let x = held_at old t.leaf in
    let hs = set old i x in
    let last : ℕ = length hs - 1 in
    let same : length hs ≡ length old = length-set old i x in
    let y = held_at hs last in
    let below : k < last = omega (arith, taken-length old new i l t, same) in
    let in-hs : (j : ℕ) → held_at hs j ≡ held_at old (cond (j == i) t.leaf j) = λ j. set-at old i j x l ∙ sym (cond-ap (j == i) t.leaf j old) in
    let leaf : t.leaf < length hs = omega (arith, t.within, same) in
    ap (λ js. held_at js k) t.is ∙ get_or-take last (set hs t.leaf y) k no_delivery below ∙ set-at hs t.leaf k y leaf
    ∙ sym (cond-ap (k == t.leaf) last k hs) ∙ in-hs (cond (k == t.leaf) last k) ∙ ap (λ z. held_at old (source i t.leaf (z - 1) k)) same

pub once-taken : (old new : List Held) (i : ℕ) → i < length old → IsTaken old new i → AreOnce old → AreOnce new
once-taken old new i l t a j k m n e =
    let len = taken-length old new i l t in
    let last : ℕ = length old - 1 in
    let sj = source i t.leaf last j in
    let sk = source i t.leaf last k in
    let p = taken-at old new i l t j m in
    let q = taken-at old new i l t k n in
    let f : is_held (held_at old sk).client (held_at old sk).delivery (held_at old sj) ≡ true =
    subst (λ (h : Held). is_held h.client h.delivery (held_at old sj) ≡ true) q (ap (is_held (held_at new k).client (held_at new k).delivery) (sym p) ∙ e) in
    let jl : j < last = omega (arith, len) in
    let kl : k < last = omega (arith, len) in
    let w : t.leaf ≤ last = omega (arith, t.within) in
    source-once i t.leaf last j k jl kl w (a sj sk (omega (arith, source-within i t.leaf last j jl w)) (omega (arith, source-within i t.leaf last k kl w)) f)

none-left : (old new : List Held) (i c d : ℕ) → i < length old → IsTaken old new i → AreOnce old → is_held c d (held_at old i) ≡ true → (k : ℕ) → k < length new → is_held c d (held_at new k) ≡ false
none-left old new i c d l t a e k m = elim (cases_Bool (is_held c d (held_at new k))) [
  | inr f ↦ f
  | inl f ↦ (
      let len = taken-length old new i l t in
      let last : ℕ = length old - 1 in
      let sk = source i t.leaf last k in
      let kl : k < last = omega (arith, len) in
      let w : t.leaf ≤ last = omega (arith, t.within) in
      let g : is_held c d (held_at old sk) ≡ true = ap (is_held c d) (sym (taken-at old new i l t k m)) ∙ f in
      let same : i ≡ sk = a i sk l (omega (arith, source-within i t.leaf last k kl w)) (held-both c d (held_at old i) (held_at old sk) e g) in
      absurd (source-other i t.leaf last k kl w (sym same)))
]

pub puts-taken : (old new : List Held) (i c d : ℕ) → i < length old → IsTaken old new i → AreOnce old → is_held c d (held_at old i) ≡ true → Puts c d None old new
puts-taken old new i c d l t a e =
    let len = taken-length old new i l t in
    let last : ℕ = length old - 1 in
    let w : t.leaf ≤ last = omega (arith, t.within) in
    puts-by c d None old new a (once-taken old new i l t a) (none-find new c d (none-left old new i c d l t a e))
    (λ m p f. (
    let other : m ≡ i → ⊥ = λ g. both_ways _ f (ap (λ k. is_held c d (held_at old k)) g ∙ e) in
    let r = target i t.leaf last m (omega arith) (omega arith) w other in
    let within : r.0 < length new = (let x = r.1 in omega (arith, len)) in
    (r.0, within, taken-at old new i l t r.0 within ∙ ap (held_at old) r.2)))
    (λ k m f. (
    let kl : k < last = omega (arith, len) in
    (source i t.leaf last k, omega (arith, source-within i t.leaf last k kl w), sym (taken-at old new i l t k m))))

pub took : (old new : List Held) (i c d : ℕ) (h : Held) → i < length old → IsTaken old new i → AreOnce old → is_held c d (held_at old i) ≡ true → h ≡ held_at old i → Took c d (Some h.at) old new
took old new i c d h l t a e s =
    (found-at old i c d a l e ∙ ap (λ (k : Held). Some k.at) (sym s), puts-taken old new i c d l t a e, taken-length old new i l t)

pub took-one : (old new : List Held) (i c : ℕ) (h : Held) → i < length old → IsTaken old new i → AreOnce old → h ≡ held_at old i → h.client ≡ c → TookOne c (Some h) old new
took-one old new i c h l t a s mine =
    let e : is_held c h.delivery (held_at old i) ≡ true = ap (is_held c h.delivery) (sym s) ∙ held-from c h.delivery h mine refl in
    let k = took old new i c h.delivery h l t a e s in
    (mine, k.0, k.1, k.2)

pub found-some : (hs : List Held) (c d : ℕ) (o : Option ℕ) → AreOnce hs → IsFound false c d hs o → is_some o ≡ is_some (find c d hs)
found-some hs c d None a f = sym (ap is_some (none-find hs c d f))
found-some hs c d (Some i) a f = sym (ap is_some (found-at hs i c d a f.0 f.1))

client-not : (h : Held) (c : ℕ) → is_wanted true c 0 h ≡ false → (h.client == c) ≡ false
client-not h c e = elim (cases_Bool (h.client == c)) [
  | inr f ↦ f
  | inl t ↦ absurd (both_ways _ e (and_from (h.client == c) true t refl))
]

pub none-of-client : (hs : List Held) (c : ℕ) → IsFound true c 0 hs None → (d : ℕ) → find c d hs ≡ None
none-of-client hs c f d = none-find hs c d (λ i l. and_left ((held_at hs i).client == c) ((held_at hs i).delivery == d) (client-not (held_at hs i) c (f i l)))

-- ---- another place

key-set : (hs : List Held) (i : ℕ) (h : Held) (k : ℕ) → i < length hs → h.client ≡ (held_at hs i).client → h.delivery ≡ (held_at hs i).delivery
    → ((held_at (set hs i h) k).client ≡ (held_at hs k).client) × ((held_at (set hs i h) k).delivery ≡ (held_at hs k).delivery)
key-set hs i h k l ec ed = elim (cases_eq k i) [
  | inl e ↦ subst (λ j. ((held_at (set hs i h) j).client ≡ (held_at hs j).client) × ((held_at (set hs i h) j).delivery ≡ (held_at hs j).delivery)) (sym e)
      (ap (λ (x : Held). x.client) (get_or-set_same hs i h no_delivery l) ∙ ec, ap (λ (x : Held). x.delivery) (get_or-set_same hs i h no_delivery l) ∙ ed)
  | inr n ↦ (ap (λ (x : Held). x.client) (get_or-set_other hs i k h no_delivery n), ap (λ (x : Held). x.delivery) (get_or-set_other hs i k h no_delivery n))
]

pub once-moved : (hs : List Held) (i : ℕ) (h : Held) → i < length hs → h.client ≡ (held_at hs i).client → h.delivery ≡ (held_at hs i).delivery → AreOnce hs → AreOnce (set hs i h)
once-moved hs i h l ec ed a j k m n e =
    let len = length-set hs i h in
    let p = key-set hs i h j l ec ed in
    let q = key-set hs i h k l ec ed in
    let s = held-same (held_at (set hs i h) k).client (held_at (set hs i h) k).delivery (held_at (set hs i h) j) e in
    a j k (omega (arith, len)) (omega (arith, len))
    (held-from (held_at hs k).client (held_at hs k).delivery (held_at hs j) (sym p.0 ∙ s.0 ∙ q.0) (sym p.1 ∙ s.1 ∙ q.1))

pub puts-moved : (hs : List Held) (i c d : ℕ) (h : Held) → i < length hs → is_held c d (held_at hs i) ≡ true → h.client ≡ (held_at hs i).client → h.delivery ≡ (held_at hs i).delivery → AreOnce hs
    → Puts c d (Some h.at) hs (set hs i h)
puts-moved hs i c d h l e ec ed a =
    let len = length-set hs i h in
    let here : held_at (set hs i h) i ≡ h = get_or-set_same hs i h no_delivery l in
    let s = held-same c d (held_at hs i) e in
    let own : is_held c d (held_at (set hs i h) i) ≡ true = ap (is_held c d) here ∙ held-from c d h (ec ∙ s.0) (ed ∙ s.1) in
    puts-by c d (Some h.at) hs (set hs i h) a (once-moved hs i h l ec ed a)
    (found-at (set hs i h) i c d (once-moved hs i h l ec ed a) (omega (arith, len, l)) own ∙ ap (λ (k : Held). Some k.at) here)
    (λ j m f. (j, omega (arith, len, m), get_or-set_other hs i j h no_delivery (λ g. both_ways _ f (ap (λ k. is_held c d (held_at hs k)) g ∙ e))))
    (λ j m f. (j, omega (arith, len, m), sym (get_or-set_other hs i j h no_delivery (λ g. both_ways _ f (ap (λ k. is_held c d (held_at (set hs i h) k)) g ∙ own)))))

pub client-of : (hs : List Held) (i c : ℕ) (h : Held) → is_wanted true c 0 (held_at hs i) ≡ true → h ≡ held_at hs i → h.client ≡ c
client-of hs i c h w e = ap (λ (k : Held). k.client) e ∙ eqb-true (held_at hs i).client c (and_parts ((held_at hs i).client == c) true w).0
