-- What follows of every packing.
use Rattle.std.proofs.Common.{◌≡◌, ℕ, zero, suc, ◌+◌, ◌≤◌, ◌<◌, Bool, true, false, List, [], ◌∷◌, map, length, get_or, Result, Ok, Err, IfOk, inl, inr, refl, sym, ap, subst, arith}
use Rattle.std.specs.Prelude.{filter, nat_lt, ◌&&◌}
use Rattle.std.specs.List.{All}
use Rattle.std.specs.declared.alloc.AllocError.{AllocError}
use Rattle.std.proofs.lemmas.Bool.Decides.{nat_tests}
use Rattle.std.proofs.lemmas.List.Sorted.{All-permutation}
use Rattle.cq_bytes.specs.Numbers.{contains}
use Rattle.cq_block.specs.declared.layout.Block.{Block}
use Rattle.cq_block.specs.declared.layout.Move.{Move}
use Rattle.cq_pack.specs.declared.Packing.{Packing}
use Rattle.cq_pack.specs.Packing.{standing, live_of, end_of, last_of, AreSpaced, AreParted, AreApart, IsSettled, CanPack, IsPacking, IsPacked}
use Rattle.cq_pack.proofs.Spaced.{Kept, ComeFrom, EndBy, kept_end, end_stops, last_after}

come_standing : (end : ℕ) (bs : List Block) → ComeFrom end (map standing bs)
come_standing end [] = tt
come_standing end (b ∷ bs) = (inl refl, come_standing end bs)

all_end : (start : ℕ) (m : Move) (ms : List Move) → AreSpaced start (m ∷ ms) → EndBy ((last_of m ms).to + (last_of m ms).len) (m ∷ ms)
all_end start m [] spaced = (omega arith, tt)
all_end start m (x ∷ xs) spaced = (omega (arith, last_after (m.to + m.len) x xs spaced.2), all_end (m.to + m.len) x xs spaced.2)

ends : (ms : List Move) → AreSpaced 128 ms → EndBy (end_of ms) ms
ends [] spaced = tt
ends (m ∷ ms) spaced = all_end 128 m ms spaced

settled_at : (end : ℕ) (ms : List Move) → ComeFrom end ms → EndBy end ms → All (IsSettled end) ms
settled_at end [] come by k d within = absurd (omega (arith, within))
settled_at end (m ∷ ms) come by zero d within = record { ends = by.0; down = elim come.0 [ inl e ↦ omega (arith, e) | inr h ↦ h.1 ]; from = elim come.0 [ inl e ↦ inl e | inr h ↦ inr h.0 ] }
settled_at end (m ∷ ms) come by (suc k) d within = settled_at end ms come.1 by.1 k d (omega (arith, within))

first_after : (start : ℕ) (ms : List Move) (k : ℕ) (d : Move) → AreSpaced start ms → k < length ms → start ≤ (get_or ms k d).to
first_after start [] k d spaced within = absurd (omega (arith, within))
first_after start (m ∷ ms) zero d spaced within = spaced.0
first_after start (m ∷ ms) (suc k) d spaced within = omega (arith, spaced.0, first_after (m.to + m.len) ms k d spaced.2 (omega (arith, within)))

-- a record ends before a later one begins
in_order : (start : ℕ) (ms : List Move) (i j : ℕ) (d e : Move) → AreSpaced start ms → i < j → j < length ms → (get_or ms i d).to + (get_or ms i d).len ≤ (get_or ms j e).to
in_order start [] i j d e spaced before within = absurd (omega (arith, within))
in_order start (m ∷ ms) i zero d e spaced before within = absurd (omega (arith, before))
in_order start (m ∷ ms) zero (suc j) d e spaced before within = first_after (m.to + m.len) ms j e spaced.2 (omega (arith, within))
in_order start (m ∷ ms) (suc i) (suc j) d e spaced before within = in_order (m.to + m.len) ms i j d e spaced.2 (omega (arith, before)) (omega (arith, within))

same_at : (ms : List Move) (i j : ℕ) (d e : Move) → i ≡ j → j < length ms → get_or ms i d ≡ get_or ms j e
same_at [] i j d e same within = absurd (omega (arith, within))
same_at (m ∷ ms) zero zero d e same within = refl
same_at (m ∷ ms) zero (suc j) d e same within = absurd (omega (arith, same))
same_at (m ∷ ms) (suc i) zero d e same within = absurd (omega (arith, same))
same_at (m ∷ ms) (suc i) (suc j) d e same within = same_at ms i j d e (omega (arith, same)) (omega (arith, within))

parted : (ms : List Move) (i j : ℕ) (d e : Move) → AreSpaced 128 ms → i < length ms → j < length ms → (get_or ms i d).from < (get_or ms j e).from
    → AreParted (get_or ms i d).to (get_or ms i d).len (get_or ms j e).to (get_or ms j e).len
parted ms i j d e spaced first second below = by (nat_lt i j) (nat_lt j i) refl refl
  where
    by : (a b : Bool) → nat_lt i j ≡ a → nat_lt j i ≡ b → AreParted (get_or ms i d).to (get_or ms i d).len (get_or ms j e).to (get_or ms j e).len
    by true b x y = inl (in_order 128 ms i j d e spaced (grind (arith, nat_tests)) second)
    by false true x y = inr (in_order 128 ms j i e d spaced (grind (arith, nat_tests)) first)
    by false false x y =
        let same : i ≡ j = grind (arith, nat_tests) in
        absurd (omega (arith, below, ap (λ (m : Move). m.from) (same_at ms i j d e same second)))

apart_of : (end : ℕ) (a b : Move) → IsSettled end a → IsSettled end b → AreParted a.to a.len b.to b.len → AreApart a b
apart_of end a b one other targets = record {
  targets = targets;
  first = elim other.from [ inl e ↦ subst (λ n. AreParted a.to a.len n b.len) e targets | inr h ↦ inl (omega (arith, one.ends, h)) ];
  second = elim one.from [ inl e ↦ subst (λ n. AreParted b.to b.len n a.len) e (turned targets) | inr h ↦ inl (omega (arith, other.ends, h)) ];
}
  where
    turned : AreParted a.to a.len b.to b.len → AreParted b.to b.len a.to a.len
    turned (inl h) = inr h
    turned (inr h) = inl h

-- what follows for the layers above
pub packed : (blocks : List Block) (live : List ℕ) (moves : List Move) (new_end : ℕ) → CanPack blocks live → IsPacking (live_of live blocks) moves new_end → IsPacked moves new_end
packed blocks live moves new_end can p =
    let first : Kept (live_of live blocks) = record { spaced = can.spaced; whole = can.whole; come = come_standing (end_of (live_of live blocks)) (filter (λ (b : Block). nat_lt 0 b.id && contains live b.id) blocks) } in
    let last = kept_end (live_of live blocks) p.placed p.packs first in
    let settled : All (IsSettled new_end) p.placed = subst (λ n. All (IsSettled n) p.placed) (sym p.end) (settled_at (end_of p.placed) p.placed last.come (ends p.placed last.spaced)) in
    let apart : All (λ a. All (λ b. a.from < b.from → AreApart a b) p.placed) p.placed =
    λ i d first j e second below. apart_of new_end (get_or p.placed i d) (get_or p.placed j e) (settled i d first) (settled j e second) (parted p.placed i j d e last.spaced first second below)
    in
    record {
      settled = All-permutation (IsSettled new_end) p.placed moves p.all settled;
      apart = All-permutation (λ a. All (λ b. a.from < b.from → AreApart a b) moves) p.placed moves p.all (λ i d within. All-permutation (λ b. (get_or p.placed i d).from < b.from → AreApart (get_or p.placed i d) b) p.placed moves p.all (apart i d within));
      placed = p.placed;
      all = p.all;
      spaced = last.spaced;
      stops = end_stops (live_of live blocks) p.placed p.packs;
      end = p.end;
    }

pub packed_answer : (r : Result Packing AllocError) (blocks : List Block) (live : List ℕ) → CanPack blocks live → IfOk r (λ p. IsPacking (live_of live blocks) p.moves.items p.new_end) → IfOk r (λ p. IsPacked p.moves.items p.new_end)
packed_answer (Ok p) blocks live can is = packed blocks live p.moves.items p.new_end can is
packed_answer (Err e) blocks live can is = tt
