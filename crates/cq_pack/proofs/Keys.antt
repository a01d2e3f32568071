-- Holes by the keys of their sizes.
use Rattle.std.proofs.Common.{◌≡◌, ◌≢◌, ℕ, zero, suc, ◌+◌, ◌*◌, ◌/◌, ◌%◌, ◌^◌, ◌≤◌, ◌<◌, Bool, true, false, cond, nat_eq, List, [], ◌∷◌, ◌++◌, length, get_or, set, ◌⊎◌, inl, inr, refl, sym, ap, ◌∙◌, arith, length-append}
use Rattle.std.specs.Prelude.{nat_lt, ◌==◌, ◌&&◌}
use Rattle.std.specs.Ordering.{nat_cmp}
use Rattle.std.specs.BTreeSet.{BTreeSet, contains}
use Rattle.std.proofs.lemmas.Bool.{cases_eq}
use Rattle.std.proofs.lemmas.Bool.Decides.{nat_tests}
use Rattle.std.proofs.lemmas.List.{length-set, get_or-set_same, get_or-set_other}
use Rattle.cq_pack.proofs.Spaced.{before_it, not_before}
use Rattle.cq_pack.specs.Holes.{hole_key, is_key, IsFirstOf, NoneIs, AreIndexed}

both_true : (a b : Bool) → a ≡ true → b ≡ true → (a && b) ≡ true
both_true a b x y = grind (arith, nat_tests)

first_true : (a b : Bool) → (a && b) ≡ true → a ≡ true
first_true true b h = refl
first_true false b h = h

second_true : (a b : Bool) → (a && b) ≡ true → b ≡ true
second_true true b h = h
second_true false b h = let e : false ≡ true = h in cc

is_less : (a b : ℕ) → nat_lt a b ≡ true → a < b
is_less a b h = grind (arith, nat_tests)

at_least : (a b : ℕ) → nat_lt a b ≡ false → b ≤ a
at_least a b h = grind (arith, nat_tests)

is_same : (a b : ℕ) → (a == b) ≡ true → a ≡ b
is_same a b h = grind (arith, nat_tests)

same_is : (a b : ℕ) → a ≡ b → (a == b) ≡ true
same_is a b h = grind (arith, nat_tests)

place_of : (size hole : ℕ) → hole < 2 ^ 64 → hole_key size hole % 2 ^ 64 ≡ hole
place_of size hole few = omega arith

size_of : (size hole : ℕ) → hole < 2 ^ 64 → hole_key size hole / 2 ^ 64 ≡ size
size_of size hole few = omega arith

-- the key of a hole is among the keys
key_there : (sizes values : List ℕ) (keys : BTreeSet ℕ) (hole : ℕ) → AreIndexed sizes values keys → hole < length sizes → contains nat_cmp keys (hole_key (get_or sizes hole 0) hole) ≡ true
key_there sizes values keys hole are within =
    let size = get_or sizes hole 0 in
    let few : hole < 2 ^ 64 = omega (arith, are.few, within) in
    let place = place_of size hole few in
    are.keyed (hole_key size hole)
    ∙ both_true (nat_lt (hole_key size hole % 2 ^ 64) (length sizes)) (get_or sizes (hole_key size hole % 2 ^ 64) 0 == hole_key size hole / 2 ^ 64)
    (before_it (hole_key size hole % 2 ^ 64) (length sizes) (omega (arith, place, within)))
    (same_is (get_or sizes (hole_key size hole % 2 ^ 64) 0) (hole_key size hole / 2 ^ 64) (ap (λ n. get_or sizes n 0) place ∙ sym (size_of size hole few)))

-- a key is that of a hole
pub record IsKeyOf (sizes : List ℕ) (q : ℕ) : Type 0 where
  pub within : q % 2 ^ 64 < length sizes
  pub size : get_or sizes (q % 2 ^ 64) 0 ≡ q / 2 ^ 64

key_of : (sizes values : List ℕ) (keys : BTreeSet ℕ) (q : ℕ) → AreIndexed sizes values keys → contains nat_cmp keys q ≡ true → IsKeyOf sizes q
key_of sizes values keys q are there =
    let is = sym (are.keyed q) ∙ there in
    record {
      within = is_less (q % 2 ^ 64) (length sizes) (first_true (nat_lt (q % 2 ^ 64) (length sizes)) (get_or sizes (q % 2 ^ 64) 0 == q / 2 ^ 64) is);
      size = is_same (get_or sizes (q % 2 ^ 64) 0) (q / 2 ^ 64) (second_true (nat_lt (q % 2 ^ 64) (length sizes)) (get_or sizes (q % 2 ^ 64) 0 == q / 2 ^ 64) is);
    }

-- the first key from a size on is that of the first hole of the size
pub exact_found : (sizes values : List ℕ) (keys : BTreeSet ℕ) (size k : ℕ) → AreIndexed sizes values keys → contains nat_cmp keys k ≡ true → ((q : ℕ) → hole_key size 0 ≤ q → contains nat_cmp keys q ≡ true → k ≤ q) → k / 2 ^ 64 ≡ size
    → IsFirstOf size sizes (k % 2 ^ 64)
exact_found sizes values keys size k are there least is =
    let key = key_of sizes values keys k are there in
    record {
      within = key.within;
      is = key.size ∙ is;
      lower = λ j before same.
          let below : k ≤ hole_key size j = least (hole_key size j) (omega arith) (ap (λ n. contains nat_cmp keys (hole_key n j)) (sym same) ∙ key_there sizes values keys j are (omega (arith, before, key.within))) in
          omega (arith, below, before, is);
    }

-- or no hole has the size
pub exact_other : (sizes values : List ℕ) (keys : BTreeSet ℕ) (size k : ℕ) → AreIndexed sizes values keys → hole_key size 0 ≤ k → ((q : ℕ) → hole_key size 0 ≤ q → contains nat_cmp keys q ≡ true → k ≤ q) → k / 2 ^ 64 ≢ size → NoneIs size sizes
exact_other sizes values keys size k are from least other j within same =
    let below : k ≤ hole_key size j = least (hole_key size j) (omega arith) (ap (λ n. contains nat_cmp keys (hole_key n j)) (sym same) ∙ key_there sizes values keys j are within) in
    other (omega (arith, from, below, within, are.few))

pub exact_none : (sizes values : List ℕ) (keys : BTreeSet ℕ) (size : ℕ) → AreIndexed sizes values keys → ((q : ℕ) → hole_key size 0 ≤ q → contains nat_cmp keys q ≡ false) → NoneIs size sizes
exact_none sizes values keys size are none j within same =
    let both : true ≡ false = sym (ap (λ n. contains nat_cmp keys (hole_key n j)) (sym same) ∙ key_there sizes values keys j are within) ∙ none (hole_key size j) (omega arith) in
    cc

-- keys by their tests

apart_place : (q size hole : ℕ) → hole < 2 ^ 64 → q % 2 ^ 64 ≢ hole → nat_eq (hole_key size hole) q ≡ false
apart_place q size hole few apart = by (nat_eq (hole_key size hole) q) refl
  where
    by : (b : Bool) → nat_eq (hole_key size hole) q ≡ b → nat_eq (hole_key size hole) q ≡ false
    by true e = let same : hole_key size hole ≡ q = grind (arith, nat_tests) in absurd (apart (sym (ap (λ n. n % 2 ^ 64) same) ∙ place_of size hole few))
    by false e = e

-- of two numbers at the same place, the key of a size is the one with this size
at_place : (q size hole : ℕ) → hole < 2 ^ 64 → q % 2 ^ 64 ≡ hole → nat_eq (hole_key size hole) q ≡ (size == q / 2 ^ 64)
at_place q size hole few at = by (size == q / 2 ^ 64) refl
  where
    whole : q ≡ (q / 2 ^ 64) * 2 ^ 64 + hole
    whole = omega (arith, at)

    by : (b : Bool) → (size == q / 2 ^ 64) ≡ b → nat_eq (hole_key size hole) q ≡ b
    by true e = let same = is_same size (q / 2 ^ 64) e in let key : hole_key size hole ≡ q = omega (arith, whole, same) in grind (arith, nat_tests)
    by false e =
        let other : size ≢ q / 2 ^ 64 = λ h. let both : true ≡ false = sym (same_is size (q / 2 ^ 64) h) ∙ e in cc in
        let key : hole_key size hole ≢ q = λ h. other (omega (arith, whole, h)) in
        grind (arith, nat_tests)

-- whether a number is a key, where it stands at a place
key_at : (sizes : List ℕ) (q hole : ℕ) → q % 2 ^ 64 ≡ hole → is_key sizes q ≡ (nat_lt hole (length sizes) && get_or sizes hole 0 == q / 2 ^ 64)
key_at sizes q hole at = ap (λ n. nat_lt n (length sizes) && get_or sizes n 0 == q / 2 ^ 64) at

and_true : (a b : Bool) → a ≡ true → (a && b) ≡ b
and_true true b h = refl
and_true false b h = let e : false ≡ true = h in cc

and_false : (a b : Bool) → a ≡ false → (a && b) ≡ false
and_false true b h = let e : true ≡ false = h in cc
and_false false b h = refl

not_same : (a b : ℕ) → a ≢ b → (a == b) ≡ false
not_same a b h = grind (arith, nat_tests)

-- a hole that has another size now has another key
pub changed_indexed : (sizes values : List ℕ) (keys keys' : BTreeSet ℕ) (hole new : ℕ) → AreIndexed sizes values keys → hole < length sizes → new ≢ get_or sizes hole 0
    → ((q : ℕ) → contains nat_cmp keys' q ≡ cond (nat_eq (hole_key (get_or sizes hole 0) hole) q) false (cond (nat_eq (hole_key new hole) q) true (contains nat_cmp keys q)))
    → AreIndexed (set sizes hole new) (set values hole new) keys'
changed_indexed sizes values keys keys' hole new are within other changed = record {
  few = omega (arith, are.few, length-set sizes hole new);
  room = omega (arith, are.room, length-set sizes hole new, length-set values hole new);
  valued = λ k. values_at k (cases_eq k hole);
  keyed = λ q. keyed_at q (cases_eq (q % 2 ^ 64) hole);
}
  where
    old : ℕ
    old = get_or sizes hole 0

    few : hole < 2 ^ 64
    few = omega (arith, within, are.few)

    values_at : (k : ℕ) → (k ≡ hole) ⊎ (k ≡ hole → ⊥) → get_or (set values hole new) k 0 ≡ get_or (set sizes hole new) k 0
    values_at k (inl e) =
        ap (λ n. get_or (set values hole new) n 0) e ∙ get_or-set_same values hole new 0 (omega (arith, within, are.room))
        ∙ sym (ap (λ n. get_or (set sizes hole new) n 0) e ∙ get_or-set_same sizes hole new 0 within)
    values_at k (inr apart) = get_or-set_other values hole k new 0 apart ∙ are.valued k ∙ sym (get_or-set_other sizes hole k new 0 apart)

    -- at the hole itself
    here : (q : ℕ) → q % 2 ^ 64 ≡ hole → (b : Bool) → (new == q / 2 ^ 64) ≡ b → (c : Bool) → (old == q / 2 ^ 64) ≡ c → contains nat_cmp keys' q ≡ b
    here q at true e true f = absurd (other (is_same new (q / 2 ^ 64) e ∙ sym (is_same old (q / 2 ^ 64) f)))
    here q at true e false f =
        changed q
        ∙ ap (λ t. cond t false (cond (nat_eq (hole_key new hole) q) true (contains nat_cmp keys q))) (at_place q old hole few at ∙ f)
        ∙ ap (λ t. cond t true (contains nat_cmp keys q)) (at_place q new hole few at ∙ e)
    here q at false e true f = changed q ∙ ap (λ t. cond t false (cond (nat_eq (hole_key new hole) q) true (contains nat_cmp keys q))) (at_place q old hole few at ∙ f)
    here q at false e false f =
        changed q
        ∙ ap (λ t. cond t false (cond (nat_eq (hole_key new hole) q) true (contains nat_cmp keys q))) (at_place q old hole few at ∙ f)
        ∙ ap (λ t. cond t true (contains nat_cmp keys q)) (at_place q new hole few at ∙ e)
        ∙ are.keyed q ∙ key_at sizes q hole at ∙ and_true (nat_lt hole (length sizes)) (old == q / 2 ^ 64) (before_it hole (length sizes) within) ∙ f

    keyed_at : (q : ℕ) → (q % 2 ^ 64 ≡ hole) ⊎ (q % 2 ^ 64 ≡ hole → ⊥) → contains nat_cmp keys' q ≡ is_key (set sizes hole new) q
    keyed_at q (inl at) =
        here q at (new == q / 2 ^ 64) refl (old == q / 2 ^ 64) refl
        ∙ sym (key_at (set sizes hole new) q hole at
        ∙ and_true (nat_lt hole (length (set sizes hole new))) (get_or (set sizes hole new) hole 0 == q / 2 ^ 64) (before_it hole (length (set sizes hole new)) (omega (arith, within, length-set sizes hole new)))
        ∙ ap (λ n. n == q / 2 ^ 64) (get_or-set_same sizes hole new 0 within))
    keyed_at q (inr apart) =
        changed q
        ∙ ap (λ t. cond t false (cond (nat_eq (hole_key new hole) q) true (contains nat_cmp keys q))) (apart_place q old hole few apart)
        ∙ ap (λ t. cond t true (contains nat_cmp keys q)) (apart_place q new hole few apart)
        ∙ are.keyed q
        ∙ (λ i. nat_lt (q % 2 ^ 64) (sym (length-set sizes hole new) i) && sym (get_or-set_other sizes hole (q % 2 ^ 64) new 0 apart) i == q / 2 ^ 64)

get_or-past : (xs : List ℕ) → get_or xs (length xs) 0 ≡ 0
get_or-past [] = refl
get_or-past (x ∷ xs) = get_or-past xs

or_itself : (t : Bool) → cond t true false ≡ t
or_itself true = refl
or_itself false = refl

get_or-end : (xs : List ℕ) (x : ℕ) → get_or (xs ++ x ∷ []) (length xs) 0 ≡ x
get_or-end [] x = refl
get_or-end (y ∷ ys) x = get_or-end ys x

get_or-before : (xs : List ℕ) (x k : ℕ) → (k ≡ length xs → ⊥) → get_or (xs ++ x ∷ []) k 0 ≡ get_or xs k 0
get_or-before [] x zero apart = absurd (apart refl)
get_or-before [] x (suc k) apart = refl
get_or-before (y ∷ ys) x zero apart = refl
get_or-before (y ∷ ys) x (suc k) apart = get_or-before ys x k (λ e. apart (ap suc e))

less_more : (n k m : ℕ) → m ≡ k + 1 → (n ≡ k → ⊥) → nat_lt n k ≡ nat_lt n m
less_more n k m e apart = by (nat_lt n k) refl
  where
    by : (b : Bool) → nat_lt n k ≡ b → b ≡ nat_lt n m
    by true h = sym (before_it n m (omega (arith, e, is_less n k h)))
    by false h = sym (not_before n m (omega (arith, e, apart, at_least n k h)))

-- a hole more at the end has its key
pub pushed_indexed : (sizes values : List ℕ) (keys keys' : BTreeSet ℕ) (size : ℕ) → AreIndexed sizes values keys → length sizes < length values → length sizes < 2 ^ 64
    → ((q : ℕ) → contains nat_cmp keys' q ≡ cond (nat_eq (hole_key size (length sizes)) q) true (contains nat_cmp keys q))
    → AreIndexed (sizes ++ size ∷ []) (set values (length sizes) size) keys'
pushed_indexed sizes values keys keys' size are room few changed = record {
  few = omega (arith, few, more);
  room = omega (arith, room, more, length-set values hole size);
  valued = λ k. values_at k (cases_eq k hole);
  keyed = λ q. keyed_at q (cases_eq (q % 2 ^ 64) hole);
}
  where
    hole : ℕ
    hole = length sizes

    more : length (sizes ++ size ∷ []) ≡ hole + 1
    more = length-append sizes (size ∷ [])

    values_at : (k : ℕ) → (k ≡ hole) ⊎ (k ≡ hole → ⊥) → get_or (set values hole size) k 0 ≡ get_or (sizes ++ size ∷ []) k 0
    values_at k (inl e) =
        ap (λ n. get_or (set values hole size) n 0) e ∙ get_or-set_same values hole size 0 room
        ∙ sym (ap (λ n. get_or (sizes ++ size ∷ []) n 0) e ∙ get_or-end sizes size)
    values_at k (inr apart) = get_or-set_other values hole k size 0 apart ∙ are.valued k ∙ sym (get_or-before sizes size k apart)

    keyed_at : (q : ℕ) → (q % 2 ^ 64 ≡ hole) ⊎ (q % 2 ^ 64 ≡ hole → ⊥) → contains nat_cmp keys' q ≡ is_key (sizes ++ size ∷ []) q
    keyed_at q (inl at) =
        changed q
        ∙ ap (λ t. cond (nat_eq (hole_key size hole) q) true t) (are.keyed q ∙ key_at sizes q hole at ∙ and_false (nat_lt hole hole) (get_or sizes hole 0 == q / 2 ^ 64) (not_before hole hole (omega arith)))
        ∙ or_itself (nat_eq (hole_key size hole) q) ∙ at_place q size hole few at
        ∙ sym (key_at (sizes ++ size ∷ []) q hole at
        ∙ and_true (nat_lt hole (length (sizes ++ size ∷ []))) (get_or (sizes ++ size ∷ []) hole 0 == q / 2 ^ 64) (before_it hole (length (sizes ++ size ∷ [])) (omega (arith, more)))
        ∙ ap (λ n. n == q / 2 ^ 64) (get_or-end sizes size))
    keyed_at q (inr apart) =
        changed q
        ∙ ap (λ t. cond t true (contains nat_cmp keys q)) (apart_place q size hole few apart)
        ∙ are.keyed q
        ∙ (λ i. less_more (q % 2 ^ 64) hole (length (sizes ++ size ∷ [])) more apart i && sym (get_or-before sizes size (q % 2 ^ 64) apart) i == q / 2 ^ 64)

-- the last hole that is dropped has no key
pub dropped_indexed : (sizes values : List ℕ) (keys keys' : BTreeSet ℕ) (front : List ℕ) (size : ℕ) → AreIndexed sizes values keys → sizes ≡ front ++ size ∷ []
    → ((q : ℕ) → contains nat_cmp keys' q ≡ cond (nat_eq (hole_key size (length front)) q) false (contains nat_cmp keys q))
    → AreIndexed front (set values (length front) 0) keys'
dropped_indexed sizes values keys keys' front size are is changed = record {
  few = omega (arith, are.few, more);
  room = omega (arith, are.room, more, length-set values hole 0);
  valued = λ k. values_at k (cases_eq k hole);
  keyed = λ q. keyed_at q (cases_eq (q % 2 ^ 64) hole);
}
  where
    hole : ℕ
    hole = length front

    more : length sizes ≡ hole + 1
    more = ap length is ∙ length-append front (size ∷ [])

    few : hole < 2 ^ 64
    few = omega (arith, are.few, more)

    values_at : (k : ℕ) → (k ≡ hole) ⊎ (k ≡ hole → ⊥) → get_or (set values hole 0) k 0 ≡ get_or front k 0
    values_at k (inl e) =
        ap (λ n. get_or (set values hole 0) n 0) e ∙ get_or-set_same values hole 0 0 (omega (arith, are.room, more))
        ∙ sym (ap (λ n. get_or front n 0) e ∙ get_or-past front)
    values_at k (inr apart) = get_or-set_other values hole k 0 0 apart ∙ are.valued k ∙ ap (λ l. get_or l k 0) is ∙ get_or-before front size k apart

    -- at the hole itself
    here : (q : ℕ) → q % 2 ^ 64 ≡ hole → (b : Bool) → (size == q / 2 ^ 64) ≡ b → contains nat_cmp keys' q ≡ false
    here q at true e = changed q ∙ ap (λ t. cond t false (contains nat_cmp keys q)) (at_place q size hole few at ∙ e)
    here q at false e =
        changed q ∙ ap (λ t. cond t false (contains nat_cmp keys q)) (at_place q size hole few at ∙ e)
        ∙ are.keyed q ∙ key_at sizes q hole at
        ∙ and_true (nat_lt hole (length sizes)) (get_or sizes hole 0 == q / 2 ^ 64) (before_it hole (length sizes) (omega (arith, more)))
        ∙ ap (λ n. n == q / 2 ^ 64) (ap (λ l. get_or l hole 0) is ∙ get_or-end front size) ∙ e

    keyed_at : (q : ℕ) → (q % 2 ^ 64 ≡ hole) ⊎ (q % 2 ^ 64 ≡ hole → ⊥) → contains nat_cmp keys' q ≡ is_key front q
    keyed_at q (inl at) =
        here q at (size == q / 2 ^ 64) refl
        ∙ sym (key_at front q hole at ∙ and_false (nat_lt hole hole) (get_or front hole 0 == q / 2 ^ 64) (not_before hole hole (omega arith)))
    keyed_at q (inr apart) =
        changed q
        ∙ ap (λ t. cond t false (contains nat_cmp keys q)) (apart_place q size hole few apart)
        ∙ are.keyed q
        ∙ (λ i. sym (less_more (q % 2 ^ 64) hole (length sizes) more apart) i && (ap (λ l. get_or l (q % 2 ^ 64) 0) is ∙ get_or-before front size (q % 2 ^ 64) apart) i == q / 2 ^ 64)
