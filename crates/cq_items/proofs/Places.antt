-- The places of a queue's messages, and what a change of one place does.
use Prim.Native.Nat.{zero, suc}
use Rattle.std.proofs.Common.{◌≡◌, ◌≢◌, ℕ, ◌+◌, ◌<◌, ◌≤◌, Bool, true, false, cond, List, [], ◌∷◌, ◌++◌, length, get_or, set, refl, sym, ap, ◌∙◌, subst, arith, inl, inr}
use Rattle.std.specs.Prelude.{nat_lt, filter, map, Option, None, Some}
use Rattle.std.specs.List.{insert}
use Rattle.std.proofs.lemmas.Bool.{cond-true, cond-false, cases_eq, lt-ltb, le-ltb, both_ways}
use Rattle.cq_items.specs.Item.{Item}
use Rattle.cq_items.specs.declared.item.Holder.{Holder}
use Rattle.cq_items.specs.Items.{taken_by, waits, put_first, waiting_items}
use Rattle.cq_items.specs.Line.{put_in}
use Rattle.cq_items.specs.Slots.{slot_at, passes, alive, places}

-- ---- tests of a place

pub passes-within : (t : Item → Bool) (ss : List (Option Item)) (k : ℕ) → passes t (slot_at ss k) ≡ true → k < length ss
passes-within t [] k h = cc
passes-within t (s ∷ ss) zero h = omega arith
passes-within t (s ∷ ss) (suc k) h = omega (arith, passes-within t ss k h)

-- the message of a place that passes a test
pub record IsPassing (t : Item → Bool) (s : Option Item) : Type 0 where
  pub item : Item
  pub stands : s ≡ Some item
  pub passing : t item ≡ true

pub passing : (t : Item → Bool) (s : Option Item) → passes t s ≡ true → IsPassing t s
passing t None h = cc
passing t (Some x) h = record { item = x; stands = refl; passing = h }

-- ---- the places of those that pass a test

pub length-places : (t : Item → Bool) (n : ℕ) (ss : List (Option Item)) → length (places t n ss) ≡ length (filter t (alive ss))
length-places t n [] = refl
length-places t n (None ∷ ss) = length-places t (n + 1) ss
length-places t n (Some i ∷ ss) =
    elim (t i) as (λ b. length (cond b (n ∷ places t (n + 1) ss) (places t (n + 1) ss)) ≡ length (cond b (i ∷ filter t (alive ss)) (filter t (alive ss))))
    [ true ↦ ap (λ k. suc k) (length-places t (n + 1) ss) | false ↦ length-places t (n + 1) ss ]

pub places-push : (t : Item → Bool) (n : ℕ) (ss : List (Option Item)) (s : Option Item) → places t n (ss ++ s ∷ []) ≡ places t n ss ++ cond (passes t s) ((n + length ss) ∷ []) []
places-push t n [] s = ap (λ k. cond (passes t s) (k ∷ []) []) (omega arith)
places-push t n (x ∷ ss) s =
    let last : List ℕ = cond (passes t s) ((n + suc (length ss)) ∷ []) [] in
    let e : places t (n + 1) (ss ++ s ∷ []) ≡ places t (n + 1) ss ++ last = places-push t (n + 1) ss s ∙ ap (λ k. places t (n + 1) ss ++ cond (passes t s) (k ∷ []) []) (omega arith) in
    ap (λ ys. cond (passes t x) (n ∷ ys) ys) e
    ∙ elim (passes t x) as (λ b. cond b (n ∷ (places t (n + 1) ss ++ last)) (places t (n + 1) ss ++ last) ≡ cond b (n ∷ places t (n + 1) ss) (places t (n + 1) ss) ++ last)
    [ true ↦ refl | false ↦ refl ]

pub places-set : (t : Item → Bool) (n : ℕ) (ss : List (Option Item)) (k : ℕ) (s : Option Item) → passes t s ≡ passes t (slot_at ss k) → places t n (set ss k s) ≡ places t n ss
places-set t n [] k s h = refl
places-set t n (x ∷ ss) zero s h = ap (λ b. cond b (n ∷ places t (n + 1) ss) (places t (n + 1) ss)) h
places-set t n (x ∷ ss) (suc k) s h = ap (λ ys. cond (passes t x) (n ∷ ys) ys) (places-set t (n + 1) ss k s h)

-- the first place of those that wait
pub record IsFirstPlace (n : ℕ) (ss : List (Option Item)) (k : ℕ) (rest : List ℕ) : Type 0 where
  pub item : Item
  pub others : List Item
  pub stands : slot_at ss k ≡ Some item
  pub waiting : waits item ≡ true
  pub left : (s : Option Item) → passes waits s ≡ false → places waits n (set ss k s) ≡ rest
  pub handed : (h : Holder) → alive (set ss k (Some (taken_by h item))) ≡ put_first h (alive ss)
  pub first : waiting_items (alive ss) ≡ item ∷ others
  pub lowest : (j : ℕ) → passes waits (slot_at ss j) ≡ true → k ≤ j

lowest-more : (s : Option Item) (ss : List (Option Item)) (k : ℕ) → passes waits s ≡ false → ((j : ℕ) → passes waits (slot_at ss j) ≡ true → k ≤ j)
    → (j : ℕ) → passes waits (slot_at (s ∷ ss) j) ≡ true → suc k ≤ j
lowest-more s ss k n low zero h = absurd (both_ways _ n h)
lowest-more s ss k n low (suc j) h = omega (arith, low j h)

first-place : (n : ℕ) (ss : List (Option Item)) (p : ℕ) (rest : List ℕ) → places waits n ss ≡ p ∷ rest → (k : ℕ) × ((p ≡ n + k) × IsFirstPlace n ss k rest)
first-place n [] p rest e = cc
first-place n (None ∷ ss) p rest e =
    let f = first-place (n + 1) ss p rest e in
    let g : IsFirstPlace (n + 1) ss f.0 rest = f.1.1 in
    (suc f.0, (omega (arith, f.1.0), record { item = g.item; others = g.others; stands = g.stands; waiting = g.waiting; left = g.left; handed = g.handed; first = g.first; lowest = lowest-more None ss f.0 refl g.lowest }))
first-place n (Some i ∷ ss) p rest e =
    (elim (waits i) as (λ b. waits i ≡ b → cond b (n ∷ places waits (n + 1) ss) (places waits (n + 1) ss) ≡ p ∷ rest → (k : ℕ) × ((p ≡ n + k) × IsFirstPlace n (Some i ∷ ss) k rest)) [
      | true ↦ λ w e. (
          let same : n ≡ p = cc in
          let after : places waits (n + 1) ss ≡ rest = cc in (
            0,
            (
              omega arith,
              record {
                item = i;
                others = waiting_items (alive ss);
                stands = refl;
                waiting = w;
                left = λ s h. cond-false (passes waits s) (n ∷ places waits (n + 1) ss) (places waits (n + 1) ss) h ∙ after;
                handed = λ h. sym (cond-true (waits i) (taken_by h i ∷ alive ss) (i ∷ put_first h (alive ss)) w);
                first = cond-true (waits i) (i ∷ waiting_items (alive ss)) (waiting_items (alive ss)) w;
                lowest = λ j h. omega arith;
              },
            ),
          ))
      | false ↦ λ w e. (
          let f = first-place (n + 1) ss p rest e in
          let g : IsFirstPlace (n + 1) ss f.0 rest = f.1.1 in (
            suc f.0,
            (
              omega (arith, f.1.0),
              record {
                item = g.item;
                others = g.others;
                stands = g.stands;
                waiting = g.waiting;
                left = λ s h. cond-false (waits i) (n ∷ places waits (n + 1) (set ss f.0 s)) (places waits (n + 1) (set ss f.0 s)) w ∙ g.left s h;
                handed = λ h. ap (λ (ys : List Item). i ∷ ys) (g.handed h) ∙ sym (cond-false (waits i) (taken_by h i ∷ alive ss) (i ∷ put_first h (alive ss)) w);
                first = cond-false (waits i) (i ∷ waiting_items (alive ss)) (waiting_items (alive ss)) w ∙ g.first;
                lowest = lowest-more (Some i) ss f.0 w g.lowest;
              },
            ),
          ))
    ]) refl e

pub first-at : (ss : List (Option Item)) (p : ℕ) (rest : List ℕ) → places waits 0 ss ≡ p ∷ rest → IsFirstPlace 0 ss p rest
first-at ss p rest e = let f = first-place 0 ss p rest e in let same : f.0 ≡ p = omega (arith, f.1.0) in subst (λ k. IsFirstPlace 0 ss k rest) same f.1.1

-- ---- the places rise, and one more stands at its place

low-head : (n m : ℕ) (xs : List ℕ) (j : ℕ) → n < m → ((k : ℕ) → k < length xs → m ≤ get_or xs k 0) → j < length (n ∷ xs) → n ≤ get_or (n ∷ xs) j 0
low-head n m xs zero b low l = omega arith
low-head n m xs (suc j) b low l = omega (arith, low j (omega arith))

pub places-low : (t : Item → Bool) (n : ℕ) (ss : List (Option Item)) (j : ℕ) → j < length (places t n ss) → n ≤ get_or (places t n ss) j 0
places-low t n [] j l = absurd (omega arith)
places-low t n (s ∷ ss) j l =
    (elim (passes t s) as (λ b. j < length (cond b (n ∷ places t (n + 1) ss) (places t (n + 1) ss)) → n ≤ get_or (cond b (n ∷ places t (n + 1) ss) (places t (n + 1) ss)) j 0) [
      | true ↦ λ l. low-head n (n + 1) (places t (n + 1) ss) j (omega arith) (places-low t (n + 1) ss) l
      | false ↦ λ l. omega (arith, places-low t (n + 1) ss j l)
    ]) l

rise-head : (n m : ℕ) (xs : List ℕ) (i j : ℕ) → n < m → ((k : ℕ) → k < length xs → m ≤ get_or xs k 0) → ((a b : ℕ) → a ≤ b → b < length xs → get_or xs a 0 ≤ get_or xs b 0) → i ≤ j → j < length (n ∷ xs) → get_or (n ∷ xs) i 0 ≤ get_or (n ∷ xs) j 0
rise-head n m xs zero j b low rise le l = low-head n m xs j b low l
rise-head n m xs (suc i) zero b low rise le l = absurd (omega arith)
rise-head n m xs (suc i) (suc j) b low rise le l = rise i j (omega arith) (omega arith)

pub places-rise : (t : Item → Bool) (n : ℕ) (ss : List (Option Item)) (i j : ℕ) → i ≤ j → j < length (places t n ss) → get_or (places t n ss) i 0 ≤ get_or (places t n ss) j 0
places-rise t n [] i j le l = absurd (omega arith)
places-rise t n (s ∷ ss) i j le l =
    (elim (passes t s) as (λ b. j < length (cond b (n ∷ places t (n + 1) ss) (places t (n + 1) ss)) → get_or (cond b (n ∷ places t (n + 1) ss) (places t (n + 1) ss)) i 0 ≤ get_or (cond b (n ∷ places t (n + 1) ss) (places t (n + 1) ss)) j 0) [
      | true ↦ λ l. rise-head n (n + 1) (places t (n + 1) ss) i j (omega arith) (places-low t (n + 1) ss) (places-rise t (n + 1) ss) le l
      | false ↦ λ l. places-rise t (n + 1) ss i j le l
    ]) l

insert-head : (n : ℕ) (ps qs : List ℕ) (i p : ℕ) → n < p → i ≤ length (n ∷ ps) → ((j : ℕ) → i ≤ j → j < length (n ∷ ps) → p ≤ get_or (n ∷ ps) j 0)
    → ((m : ℕ) → m ≤ length ps → ((j : ℕ) → j < m → get_or ps j 0 ≤ p) → ((j : ℕ) → m ≤ j → j < length ps → p ≤ get_or ps j 0) → qs ≡ insert ps m p)
    → ((j : ℕ) → j < i → get_or (n ∷ ps) j 0 ≤ p) → n ∷ qs ≡ insert (n ∷ ps) i p
insert-head n ps qs zero p l b high rest low = absurd (omega (arith, high 0 (omega arith) (omega arith)))
insert-head n ps qs (suc i) p l b high rest low = ap (λ ys. n ∷ ys) (rest i (omega arith) (λ j m. low (suc j) (omega arith)) (λ j m k. high (suc j) (omega arith) (omega arith)))

pub insert-place : (t : Item → Bool) (n : ℕ) (ss : List (Option Item)) (k : ℕ) (s : Option Item) (i p : ℕ) → p ≡ n + k → k < length ss → passes t s ≡ true → passes t (slot_at ss k) ≡ false
    → i ≤ length (places t n ss) → ((j : ℕ) → j < i → get_or (places t n ss) j 0 ≤ p) → ((j : ℕ) → i ≤ j → j < length (places t n ss) → p ≤ get_or (places t n ss) j 0)
    → places t n (set ss k s) ≡ insert (places t n ss) i p
insert-place t n [] k s i p e l w f b low high = absurd (omega arith)
insert-place t n (y ∷ ss) zero s i p e l w f b low high =
    let ps : List ℕ = places t (n + 1) ss in
    let here : places t n (y ∷ ss) ≡ ps = cond-false (passes t y) (n ∷ ps) ps f in
    let none : i ≡ 0 = elim (cases_eq i 0) [
      | inl z ↦ z
      | inr z ↦ (
          let first : get_or ps 0 0 ≤ p = subst (λ xs. get_or xs 0 0 ≤ p) here (low 0 (omega arith)) in
          let some : 0 < length ps = subst (λ xs. 0 < length xs) here (omega arith) in
          absurd (omega (arith, places-low t (n + 1) ss 0 some)))
    ] in
    cond-true (passes t s) (n ∷ ps) ps w ∙ ap (λ m. m ∷ ps) (omega arith) ∙ sym (ap (λ xs. insert xs i p) here ∙ ap (λ m. insert ps m p) none)
insert-place t n (y ∷ ss) (suc k) s i p e l w f b low high =
    let ps : List ℕ = places t (n + 1) ss in
    let qs : List ℕ = places t (n + 1) (set ss k s) in
    (elim (passes t y) as (λ c. i ≤ length (cond c (n ∷ ps) ps) → ((j : ℕ) → j < i → get_or (cond c (n ∷ ps) ps) j 0 ≤ p) → ((j : ℕ) → i ≤ j → j < length (cond c (n ∷ ps) ps) → p ≤ get_or (cond c (n ∷ ps) ps) j 0)
    → cond c (n ∷ qs) qs ≡ insert (cond c (n ∷ ps) ps) i p) [
      | true ↦ λ b low high. insert-head n ps qs i p (omega arith) b high (λ m mb ml mh. insert-place t (n + 1) ss k s m p (omega arith) (omega arith) w f mb ml mh) low
      | false ↦ λ b low high. insert-place t (n + 1) ss k s i p (omega arith) (omega arith) w f b low high
    ]) b low high

-- one more passes, at any place, and at the end
put-low : (n : ℕ) (xs : List ℕ) → (0 < length xs → n < get_or xs 0 0) → put_in n xs ≡ n ∷ xs
put-low n [] low = refl
put-low n (x ∷ xs) low = cond-false (nat_lt x n) (x ∷ put_in n xs) (n ∷ x ∷ xs) (le-ltb x n (omega (arith, low (omega arith))))

pub put-place : (t : Item → Bool) (n : ℕ) (ss : List (Option Item)) (k : ℕ) (s : Option Item) (p : ℕ) → p ≡ n + k → k < length ss → passes t s ≡ true → passes t (slot_at ss k) ≡ false
    → places t n (set ss k s) ≡ put_in p (places t n ss)
put-place t n [] k s p e l w f = absurd (omega arith)
put-place t n (y ∷ ss) zero s p e l w f =
    let ps : List ℕ = places t (n + 1) ss in
    let low : put_in p ps ≡ p ∷ ps = put-low p ps (λ m. omega (arith, e, places-low t (n + 1) ss 0 m)) in
    cond-true (passes t s) (n ∷ ps) ps w ∙ ap (λ m. m ∷ ps) (omega (arith, e)) ∙ sym (ap (put_in p) (cond-false (passes t y) (n ∷ ps) ps f) ∙ low)
put-place t n (y ∷ ss) (suc k) s p e l w f =
    let ps : List ℕ = places t (n + 1) ss in
    let qs : List ℕ = places t (n + 1) (set ss k s) in
    let more : qs ≡ put_in p ps = put-place t (n + 1) ss k s p (omega (arith, e)) (omega arith) w f in
    elim (passes t y) as (λ c. cond c (n ∷ qs) qs ≡ put_in p (cond c (n ∷ ps) ps)) [
      | true ↦ ap (λ ys. n ∷ ys) more ∙ sym (cond-true (nat_lt n p) (n ∷ put_in p ps) (p ∷ n ∷ ps) (lt-ltb n p (omega (arith, e))))
      | false ↦ more
    ]

pub put-last : (t : Item → Bool) (n : ℕ) (ss : List (Option Item)) (p : ℕ) → n + length ss ≤ p → put_in p (places t n ss) ≡ places t n ss ++ p ∷ []
put-last t n [] p l = refl
put-last t n (y ∷ ss) p l =
    let ps : List ℕ = places t (n + 1) ss in
    let more : put_in p ps ≡ ps ++ p ∷ [] = put-last t (n + 1) ss p (omega (arith, l)) in
    elim (passes t y) as (λ c. put_in p (cond c (n ∷ ps) ps) ≡ cond c (n ∷ ps) ps ++ p ∷ []) [
      | true ↦ cond-true (nat_lt n p) (n ∷ put_in p ps) (p ∷ n ∷ ps) (lt-ltb n p (omega (arith, l))) ∙ ap (λ ys. n ∷ ys) more
      | false ↦ more
    ]

-- ---- the messages that stand there

pub alive-push : (ss : List (Option Item)) (i : Item) → alive (ss ++ Some i ∷ []) ≡ alive ss ++ i ∷ []
alive-push [] i = refl
alive-push (None ∷ ss) i = alive-push ss i
alive-push (Some x ∷ ss) i = ap (λ (ys : List Item). x ∷ ys) (alive-push ss i)

-- a map that changes nothing, one that changes one message alone, and one that doesn't see a change
pub alive-none : (g : Item → Item) (ss : List (Option Item)) → ((j : ℕ) (y : Item) → slot_at ss j ≡ Some y → g y ≡ y) → map g (alive ss) ≡ alive ss
alive-none g [] h = refl
alive-none g (None ∷ ss) h = alive-none g ss (λ j y e. h (suc j) y e)
alive-none g (Some x ∷ ss) h = ap (λ (z : Item). z ∷ map g (alive ss)) (h 0 x refl) ∙ ap (λ (zs : List Item). x ∷ zs) (alive-none g ss (λ j y e. h (suc j) y e))

pub alive-one : (g : Item → Item) (ss : List (Option Item)) (k : ℕ) (x : Item) → slot_at ss k ≡ Some x → ((j : ℕ) (y : Item) → j ≢ k → slot_at ss j ≡ Some y → g y ≡ y)
    → map g (alive ss) ≡ alive (set ss k (Some (g x)))
alive-one g [] k x e h = cc
alive-one g (None ∷ ss) zero x e h = cc
alive-one g (Some y ∷ ss) zero x e h =
    let same : y ≡ x = cc in
    ap (λ (z : Item). g z ∷ map g (alive ss)) same ∙ ap (λ (zs : List Item). g x ∷ zs) (alive-none g ss (λ j z f. h (suc j) z (λ q. omega arith) f))
alive-one g (None ∷ ss) (suc k) x e h = alive-one g ss k x e (λ j y n f. h (suc j) y (λ q. n (omega arith)) f)
alive-one g (Some y ∷ ss) (suc k) x e h =
    ap (λ (z : Item). z ∷ map g (alive ss)) (h 0 y (λ q. omega arith) refl)
    ∙ ap (λ (zs : List Item). y ∷ zs) (alive-one g ss k x e (λ j z n f. h (suc j) z (λ q. n (omega arith)) f))

pub map-alive-set : (g : Item → Item) (ss : List (Option Item)) (k : ℕ) (x y : Item) → slot_at ss k ≡ Some x → g y ≡ g x → map g (alive (set ss k (Some y))) ≡ map g (alive ss)
map-alive-set g [] k x y e h = cc
map-alive-set g (None ∷ ss) zero x y e h = cc
map-alive-set g (Some z ∷ ss) zero x y e h = let same : x ≡ z = cc in ap (λ (w : Item). w ∷ map g (alive ss)) (h ∙ ap g same)
map-alive-set g (None ∷ ss) (suc k) x y e h = map-alive-set g ss k x y e h
map-alive-set g (Some z ∷ ss) (suc k) x y e h = ap (λ (ws : List Item). g z ∷ ws) (map-alive-set g ss k x y e h)

-- ---- how many pass a test, and which

pub filter-slot : (t : Item → Bool) (s : Option Item) (ss : List (Option Item)) → passes t s ≡ false → filter t (alive (s ∷ ss)) ≡ filter t (alive ss)
filter-slot t None ss h = refl
filter-slot t (Some i) ss h = cond-false (t i) (i ∷ filter t (alive ss)) (filter t (alive ss)) h

-- a change that the test fails before and after
pub filter-set : (t : Item → Bool) (ss : List (Option Item)) (k : ℕ) (s : Option Item) → passes t (slot_at ss k) ≡ false → passes t s ≡ false → filter t (alive (set ss k s)) ≡ filter t (alive ss)
filter-set t [] k s h n = refl
filter-set t (x ∷ ss) zero s h n = filter-slot t s ss n ∙ sym (filter-slot t x ss h)
filter-set t (None ∷ ss) (suc k) s h n = filter-set t ss k s h n
filter-set t (Some i ∷ ss) (suc k) s h n = ap (λ (ys : List Item). cond (t i) (i ∷ ys) ys) (filter-set t ss k s h n)

count-slot : (t : Item → Bool) (s : Option Item) (ss : List (Option Item)) → passes t s ≡ true → length (filter t (alive (s ∷ ss))) ≡ length (filter t (alive ss)) + 1
count-slot t None ss h = cc
count-slot t (Some i) ss h = rw h (omega arith)

-- one fewer passes, one more, and as many
pub count-fewer : (t : Item → Bool) (ss : List (Option Item)) (k : ℕ) (s : Option Item) → passes t (slot_at ss k) ≡ true → passes t s ≡ false
    → length (filter t (alive (set ss k s))) + 1 ≡ length (filter t (alive ss))
count-fewer t [] k s h n = cc
count-fewer t (x ∷ ss) zero s h n = ap (λ (ys : List Item). length ys + 1) (filter-slot t s ss n) ∙ sym (count-slot t x ss h)
count-fewer t (None ∷ ss) (suc k) s h n = count-fewer t ss k s h n
count-fewer t (Some i ∷ ss) (suc k) s h n =
    let e : length (filter t (alive (set ss k s))) + 1 ≡ length (filter t (alive ss)) = count-fewer t ss k s h n in
    elim (t i) as (λ b. length (cond b (i ∷ filter t (alive (set ss k s))) (filter t (alive (set ss k s)))) + 1 ≡ length (cond b (i ∷ filter t (alive ss)) (filter t (alive ss)))) [ true ↦ omega arith | false ↦ e ]

pub count-more : (t : Item → Bool) (ss : List (Option Item)) (k : ℕ) (s : Option Item) → k < length ss → passes t (slot_at ss k) ≡ false → passes t s ≡ true
    → length (filter t (alive (set ss k s))) ≡ length (filter t (alive ss)) + 1
count-more t [] k s l h n = absurd (omega arith)
count-more t (x ∷ ss) zero s l h n = count-slot t s ss n ∙ ap (λ (ys : List Item). length ys + 1) (sym (filter-slot t x ss h))
count-more t (None ∷ ss) (suc k) s l h n = count-more t ss k s (omega arith) h n
count-more t (Some i ∷ ss) (suc k) s l h n =
    let e : length (filter t (alive (set ss k s))) ≡ length (filter t (alive ss)) + 1 = count-more t ss k s (omega arith) h n in
    elim (t i) as (λ b. length (cond b (i ∷ filter t (alive (set ss k s))) (filter t (alive (set ss k s)))) ≡ length (cond b (i ∷ filter t (alive ss)) (filter t (alive ss))) + 1) [ true ↦ omega arith | false ↦ e ]

pub count-same : (t : Item → Bool) (ss : List (Option Item)) (k : ℕ) (s : Option Item) → passes t s ≡ passes t (slot_at ss k) → length (filter t (alive (set ss k s))) ≡ length (filter t (alive ss))
count-same t ss k s h = sym (length-places t 0 (set ss k s)) ∙ ap length (places-set t 0 ss k s h) ∙ length-places t 0 ss
