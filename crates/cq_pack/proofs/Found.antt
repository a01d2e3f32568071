-- Walks over lists of records and blocks.
use Rattle.std.proofs.Common.{◌≡◌, ℕ, suc, ◌+◌, ◌-◌, ◌≤◌, ◌<◌, ◌^◌, Bool, true, false, cond, List, [], ◌∷◌, ◌++◌, map, length, get_or, take, drop, nat_eq, refl, sym, ap, subst, ◌∙◌, arith, append_assoc, drop-cons, add-one}
use Rattle.std.specs.Prelude.{filter, nat_lt, ◌==◌, ◌&&◌, ◌||◌}
use Rattle.std.specs.List.{list_any}
use Rattle.std.proofs.lemmas.Bool.Decides.{nat_tests}
use Rattle.std.proofs.lemmas.List.{take_more, map-append}
use Rattle.cq_bytes.specs.Numbers.{contains}
use Rattle.cq_block.specs.declared.layout.Block.{Block}
use Rattle.cq_block.specs.declared.layout.Move.{Move}
use Rattle.cq_pack.specs.Packing.{last_of, end_of, standing, live_of, AreSpaced, AreBelow}
use Rattle.cq_pack.specs.Holes.{starts_before, sizes_before}

-- the holes before the first records were found
pub record AreFound (records : List Move) (i start : ℕ) (starts sizes : List ℕ) : Type 0 where
  pub starts_are : starts ++ starts_before start (drop i records) ≡ starts_before 128 records
  pub sizes_are : sizes ++ sizes_before start (drop i records) ≡ sizes_before 128 records
  pub spaced : AreSpaced start (drop i records)
  pub below : AreBelow (drop i records)

-- what the next record says
pub record NextFound (records : List Move) (i start : ℕ) (starts sizes : List ℕ) (m : Move) : Type 0 where
  pub before : start ≤ m.to
  pub ends : m.to + m.len ≤ 2 ^ 62
  pub found : AreFound records (i + 1) (m.to + m.len) (starts ++ start ∷ []) (sizes ++ (m.to - start) ∷ [])

at_list : (records : List Move) (i start : ℕ) (starts sizes : List ℕ) (m : Move) (ms : List Move) → drop i records ≡ m ∷ ms → drop (i + 1) records ≡ ms → AreFound records i start starts sizes → NextFound records i start starts sizes m
at_list records i start starts sizes m ms here next found =
    let spaced = subst (AreSpaced start) here found.spaced in
    let below = subst AreBelow here found.below in
    record {
      before = spaced.0;
      ends = below.0;
      found = record {
        starts_are = append_assoc starts (start ∷ []) (starts_before (m.to + m.len) (drop (i + 1) records)) ∙ ap (λ l. starts ++ (start ∷ starts_before (m.to + m.len) l)) next ∙ sym (ap (λ l. starts ++ starts_before start l) here) ∙ found.starts_are;
        sizes_are = append_assoc sizes ((m.to - start) ∷ []) (sizes_before (m.to + m.len) (drop (i + 1) records)) ∙ ap (λ l. sizes ++ ((m.to - start) ∷ sizes_before (m.to + m.len) l)) next ∙ sym (ap (λ l. sizes ++ sizes_before start l) here) ∙ found.sizes_are;
        spaced = subst (AreSpaced (m.to + m.len)) (sym next) spaced.2;
        below = subst AreBelow (sym next) below.1;
      };
    }

pub found_next : (records : List Move) (i start : ℕ) (starts sizes : List ℕ) (m : Move) → i < length records → m ≡ get_or records i m → AreFound records i start starts sizes → NextFound records i start starts sizes m
found_next records i start starts sizes m within is found =
    at_list records i start starts sizes m (drop (i + 1) records)
    (drop-cons records i m within ∙ (λ k. sym is k ∷ drop (suc i) records) ∙ ap (λ n. m ∷ drop n records) (sym (add-one i))) refl found

last_get : (m : Move) (ms : List Move) (d : Move) → get_or (m ∷ ms) (length ms) d ≡ last_of m ms
last_get m [] d = refl
last_get m (x ∷ xs) d = last_get x xs d

-- the end of records by their last one
pub end_of-last : (records : List Move) (d : Move) → 0 < length records → end_of records ≡ (get_or records (length records - 1) d).to + (get_or records (length records - 1) d).len
end_of-last [] d some = absurd (omega arith)
end_of-last (m ∷ ms) d some =
    let at : length (m ∷ ms) - 1 ≡ length ms = omega arith in
    sym (ap (λ (x : Move). x.to + x.len) (ap (λ n. get_or (m ∷ ms) n d) at ∙ last_get m ms d))

pub end_of-none : (records : List Move) → length records ≡ 0 → end_of records ≡ 128
end_of-none [] e = refl
end_of-none (m ∷ ms) e = absurd (omega arith)

turned : (a b : ℕ) → nat_eq a b ≡ (b == a)
turned a b = grind (arith, nat_tests)

-- a number stands in a list, by either test
pub any_turned : (xs : List ℕ) (q : ℕ) → list_any (nat_eq q) xs ≡ contains xs q
any_turned [] q = refl
any_turned (x ∷ xs) q = (λ i. turned q x i || any_turned xs q i)

filter_more : (p : Block → Bool) (xs : List Block) (b : Block) → filter p (xs ++ b ∷ []) ≡ filter p xs ++ cond (p b) (b ∷ []) []
filter_more p [] b = refl
filter_more p (x ∷ xs) b = by (p x) (filter_more p xs b)
  where
    by : (t : Bool) → filter p (xs ++ b ∷ []) ≡ filter p xs ++ cond (p b) (b ∷ []) [] → cond t (x ∷ filter p (xs ++ b ∷ [])) (filter p (xs ++ b ∷ [])) ≡ cond t (x ∷ filter p xs) (filter p xs) ++ cond (p b) (b ∷ []) []
    by true rest = ap (λ l. x ∷ l) rest
    by false rest = rest

-- the live records among one block more
pub live_of-more : (live : List ℕ) (blocks : List Block) (i : ℕ) (b : Block) → i < length blocks → b ≡ get_or blocks i b
    → live_of live (take (i + 1) blocks) ≡ live_of live (take i blocks) ++ map standing (cond (nat_lt 0 b.id && contains live b.id) (b ∷ []) [])
live_of-more live blocks i b within is =
    let p : Block → Bool = λ b. nat_lt 0 b.id && contains live b.id in
    ap (live_of live) (take_more blocks i b within ∙ ap (λ x. take i blocks ++ x ∷ []) (sym is))
    ∙ ap (map standing) (filter_more p (take i blocks) b)
    ∙ map-append standing (filter p (take i blocks)) (cond (p b) (b ∷ []) [])
