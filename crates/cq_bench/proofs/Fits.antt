-- The file that is made can be packed.
use Rattle.std.proofs.Common.{◌≡◌, ℕ, zero, suc, ◌+◌, ◌-◌, ◌*◌, ◌^◌, ◌≤◌, ◌<◌, Bool, true, false, cond, List, [], ◌∷◌, ◌++◌, map, length, ◌⊎◌, inl, inr, refl, sym, ap, subst, ◌∙◌, arith, append_assoc}
use Rattle.std.specs.Prelude.{filter, nat_lt, ◌&&◌, ◌||◌, ◌==◌}
use Rattle.std.specs.List.{list_any}
use Rattle.std.proofs.lemmas.Bool.Decides.{nat_tests}
use Rattle.std.proofs.lemmas.List.{append-nil}
use Rattle.cq_block.specs.declared.layout.Block.{Block}
use Rattle.cq_bytes.specs.Numbers.{contains}
use Rattle.cq_pack.specs.Packing.{standing, live_of, AreBlocks, AreNamed, AreWhole, AreShort, AreSpaced, CanPack}
use Rattle.cq_bench.specs.Made.{dead_len, live_len, blocks_from, ids_from}

-- blocks one after another from a place on, none too short or too long
abbrev AreDense : ℕ → List Block → Type 0
AreDense start [] = Unit {0}
AreDense start (b ∷ bs) = (b.at ≡ start) × (25 ≤ b.len) × (b.len ≤ 1048601) × AreDense (b.at + b.len) bs

dense : (n k at : ℕ) → AreDense at (blocks_from n k at)
dense zero k at = tt
dense (suc n) k at = (refl, omega arith, omega arith, (refl, omega arith, omega arith, dense n (k + 1) (at + dead_len k + live_len k)))

spaced : (p : Block → Bool) (before start : ℕ) (bs : List Block) → (start ≡ before) ⊎ (before + 25 ≤ start) → AreDense start bs → AreSpaced before (map standing (filter p bs))
spaced p before start [] gap are = tt
spaced p before start (b ∷ bs) gap are =
    let at = are.0 in
    let below : before ≤ b.at = elim gap [ inl e ↦ omega (arith, at, e) | inr h ↦ omega (arith, at, h) ] in
    let here : (b.at ≡ before) ⊎ (before + 25 ≤ b.at) = elim gap [ inl e ↦ inl (at ∙ e) | inr h ↦ inr (omega (arith, at, h)) ] in
    elim (p b) as (λ t. AreSpaced before (map standing (cond t (b ∷ filter p bs) (filter p bs)))) [
      | true ↦ (below, here, spaced p (b.at + b.len) (b.at + b.len) bs (inl refl) are.3)
      | false ↦ spaced p before (b.at + b.len) bs (inr (omega (arith, below, are.1))) are.3
    ]

whole : (p : Block → Bool) (start : ℕ) (bs : List Block) → AreDense start bs → AreWhole (map standing (filter p bs))
whole p start [] are = tt
whole p start (b ∷ bs) are = elim (p b) as (λ t. AreWhole (map standing (cond t (b ∷ filter p bs) (filter p bs)))) [ true ↦ (are.1, whole p (b.at + b.len) bs are.3) | false ↦ whole p (b.at + b.len) bs are.3 ]

short : (p : Block → Bool) (start : ℕ) (bs : List Block) → AreDense start bs → AreShort (map standing (filter p bs))
short p start [] are = tt
short p start (b ∷ bs) are = elim (p b) as (λ t. AreShort (map standing (cond t (b ∷ filter p bs) (filter p bs)))) [ true ↦ (are.2, short p (b.at + b.len) bs are.3) | false ↦ short p (b.at + b.len) bs are.3 ]

in_order : (n k at : ℕ) → at + n * 8048 ≤ 2 ^ 62 → AreBlocks at (blocks_from n k at)
in_order zero k at below = tt
in_order (suc n) k at below = (omega arith, omega (arith, below), (omega arith, omega (arith, below), in_order n (k + 1) (at + dead_len k + live_len k) (omega (arith, below))))

not_same : (a b : ℕ) → b < a → (a == b) ≡ false
not_same a b h = grind (arith, nat_tests)

neither : (a b : Bool) → a ≡ false → b ≡ false → (a || b) ≡ false
neither a b x y = grind (arith, nat_tests)

-- ids below those of the blocks aren't among them
not_among : (n k at id : ℕ) → id ≤ 2 * k → list_any (λ (x : Block). x.id == id) (blocks_from n k at) ≡ false
not_among zero k at id below = refl
not_among (suc n) k at id below =
    neither (2 * k + 1 == id) ((2 * k + 2 == id) || list_any (λ (x : Block). x.id == id) (blocks_from n (k + 1) (at + dead_len k + live_len k))) (not_same (2 * k + 1) id (omega arith))
    (neither (2 * k + 2 == id) (list_any (λ (x : Block). x.id == id) (blocks_from n (k + 1) (at + dead_len k + live_len k))) (not_same (2 * k + 2) id (omega arith)) (not_among n (k + 1) (at + dead_len k + live_len k) id (omega arith)))

named : (n k at : ℕ) → AreNamed (blocks_from n k at)
named zero k at = tt
named (suc n) k at =
    let rest = blocks_from n (k + 1) (at + dead_len k + live_len k) in (
      (λ some. neither (2 * k + 2 == 2 * k + 1) (list_any (λ (x : Block). x.id == 2 * k + 1) rest) (not_same (2 * k + 2) (2 * k + 1) (omega arith)) (not_among n (k + 1) (at + dead_len k + live_len k) (2 * k + 1) (omega arith))),
      ((λ some. not_among n (k + 1) (at + dead_len k + live_len k) (2 * k + 2) (omega arith)), named n (k + 1) (at + dead_len k + live_len k)),
    )

-- the first live record is live
some_kept : (p : Block → Bool) (a b : Block) (bs : List Block) → p b ≡ true → 0 < length (map standing (filter p (a ∷ b ∷ bs)))
some_kept p a b bs there = by (p a) (p b) there
  where
    by : (s t : Bool) → t ≡ true → 0 < length (map standing (cond s (a ∷ cond t (b ∷ filter p bs) (filter p bs)) (cond t (b ∷ filter p bs) (filter p bs))))
    by true t is = omega arith
    by false true is = omega arith
    by false false is = let e : false ≡ true = is in cc

some : (n at : ℕ) → 0 < n → 0 < length (live_of (ids_from n 0) (blocks_from n 0 at))
some zero at none = absurd (omega arith)
some (suc n) at there = some_kept (λ (b : Block). nat_lt 0 b.id && contains (ids_from (suc n) 0) b.id) (record { at = at; len = dead_len 0; id = 1 }) (record { at = at + dead_len 0; len = live_len 0; id = 2 }) (blocks_from n 1 (at + dead_len 0 + live_len 0)) refl

pub fits : (n : ℕ) → 0 < n → n ≤ 1000000 → CanPack (blocks_from n 0 128) (ids_from n 0)
fits n there few =
    let p : Block → Bool = λ (b : Block). nat_lt 0 b.id && contains (ids_from n 0) b.id in
    record {
      in_order = in_order n 0 128 (omega (arith, few));
      named = named n 0 128;
      some = some n 128 there;
      whole = whole p 128 (blocks_from n 0 128) (dense n 0 128);
      short = short p 128 (blocks_from n 0 128) (dense n 0 128);
      spaced = spaced p 128 128 (blocks_from n 0 128) (inl refl) (dense n 0 128);
    }

-- what is made so far
pub record AreMade (count k at : ℕ) (blocks : List Block) (ids : List ℕ) : Type 0 where
  pub blocks_are : blocks ++ blocks_from (count - k) k at ≡ blocks_from count 0 128
  pub ids_are : ids ++ ids_from (count - k) k ≡ ids_from count 0
  pub below : at ≤ 128 + k * 8048

pub made_more : (count k at : ℕ) (blocks : List Block) (ids : List ℕ) → AreMade count k at blocks ids → k < count
    → AreMade count (k + 1) (at + dead_len k + live_len k) ((blocks ++ record { at = at; len = dead_len k; id = 2 * k + 1 } ∷ []) ++ record { at = at + dead_len k; len = live_len k; id = 2 * k + 2 } ∷ []) (ids ++ (2 * k + 2) ∷ [])
made_more count k at blocks ids made within =
    let left : count - k ≡ suc (count - (k + 1)) = omega arith in
    let a : Block = record { at = at; len = dead_len k; id = 2 * k + 1 } in
    let b : Block = record { at = at + dead_len k; len = live_len k; id = 2 * k + 2 } in
    let rest = blocks_from (count - (k + 1)) (k + 1) (at + dead_len k + live_len k) in
    record {
      blocks_are = append_assoc (blocks ++ a ∷ []) (b ∷ []) rest ∙ append_assoc blocks (a ∷ []) (b ∷ rest) ∙ ap (λ n. blocks ++ blocks_from n k at) (sym left) ∙ made.blocks_are;
      ids_are = append_assoc ids ((2 * k + 2) ∷ []) (ids_from (count - (k + 1)) (k + 1)) ∙ ap (λ n. ids ++ ids_from n k) (sym left) ∙ made.ids_are;
      below = omega (arith, made.below);
    }

-- one turn of the loop, as the code makes it
pub made_next : (count k at hole len id : ℕ) (blocks one two : List Block) (ids more : List ℕ) → AreMade count k at blocks ids → k < count → hole ≡ dead_len k → len ≡ live_len k → id ≡ 2 * k + 1
    → one ≡ blocks ++ record { at = at; len = hole; id = id } ∷ [] → two ≡ one ++ record { at = at + hole; len = len; id = id + 1 } ∷ [] → more ≡ ids ++ (id + 1) ∷ [] → AreMade count (k + 1) (at + hole + len) two more
made_next count k at hole len id blocks one two ids more made within h l n first second third =
    let next : id + 1 ≡ 2 * k + 2 = omega (arith, n) in
    let all : two ≡ (blocks ++ record { at = at; len = dead_len k; id = 2 * k + 1 } ∷ []) ++ record { at = at + dead_len k; len = live_len k; id = 2 * k + 2 } ∷ [] =
    second ∙ (λ i. first i ++ record { at = at + hole; len = len; id = id + 1 } ∷ []) ∙ (λ i. (blocks ++ record { at = at; len = h i; id = n i } ∷ []) ++ record { at = at + h i; len = l i; id = next i } ∷ []) in
    subst (λ x. AreMade count (k + 1) x two more) (λ i. at + sym h i + sym l i)
    (subst (λ x. AreMade count (k + 1) (at + dead_len k + live_len k) x more) (sym all)
    (subst (AreMade count (k + 1) (at + dead_len k + live_len k) ((blocks ++ record { at = at; len = dead_len k; id = 2 * k + 1 } ∷ []) ++ record { at = at + dead_len k; len = live_len k; id = 2 * k + 2 } ∷ [])) (sym (third ∙ ap (λ x. ids ++ x ∷ []) next))
    (made_more count k at blocks ids made within)))

pub made_all : (count k at : ℕ) (blocks : List Block) (ids : List ℕ) → AreMade count k at blocks ids → k ≡ count → 0 < count → count ≤ 1000000 → CanPack blocks ids
made_all count k at blocks ids made end there few =
    let none : count - k ≡ 0 = omega (arith, end) in
    let all : blocks ≡ blocks_from count 0 128 = sym (append-nil blocks) ∙ ap (λ n. blocks ++ blocks_from n k at) (sym none) ∙ made.blocks_are in
    let live : ids ≡ ids_from count 0 = sym (append-nil ids) ∙ ap (λ n. ids ++ ids_from n k) (sym none) ∙ made.ids_are in
    subst (λ l. CanPack l ids) (sym all) (subst (CanPack (blocks_from count 0 128)) (sym live) (fits count there few))
