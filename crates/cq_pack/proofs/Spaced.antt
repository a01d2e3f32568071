-- A record that goes into the lowest hole that may take it leaves the records spaced.
use Rattle.std.proofs.Common.{◌≡◌, ℕ, ◌+◌, ◌-◌, ◌≤◌, ◌<◌, Bool, true, false, cond, List, [], ◌∷◌, map, None, Some, ◌⊎◌, inl, inr, refl, sym, ap, subst, ◌∙◌, arith}
use Rattle.std.specs.Prelude.{nat_lt, ◌==◌}
use Rattle.std.specs.List.Sorted.{IsPermutation}
use Rattle.std.proofs.lemmas.Bool.Decides.{nat_tests}
use Rattle.std.proofs.lemmas.List.Sorted.{IsPermutation-refl, IsPermutation-sym, IsPermutation-cons, IsPermutation-trans, IsPermutation-map, IsPermutation-middle}
use Rattle.cq_block.specs.declared.layout.Move.{Move}
use Rattle.cq_pack.specs.Packing.{fits_hole, lowest_hole, with_placed, last_of, front_of, target_of_last, Packs, done, more, end_of, AreSpaced, AreWhole, source, Stops}

some_one : (x y : ℕ) → Some x ≡ Some y → x ≡ y
some_one x y e = cc

no_some : {P : Type 0} (x : ℕ) → None ≡ Some x → P
no_some x e = cc

-- a hole that takes a record is as large as it, or leaves at least 25 bytes
pub hole_size : (len size : ℕ) → fits_hole len size ≡ true → (size ≡ len) ⊎ (len + 25 ≤ size)
hole_size len size fits = by (size == len) refl
  where
    by : (b : Bool) → (size == len) ≡ b → (size ≡ len) ⊎ (len + 25 ≤ size)
    by true e = inl (grind (arith, nat_tests))
    by false e = inr (grind (arith, nat_tests))

-- what is known where the lowest hole was found from a start on
pub record Found (start : ℕ) (m : Move) (ms : List Move) (r : Move) : Type 0 where
  pub from : start ≤ r.to
  pub within : r.to + r.len ≤ (last_of m ms).to
  pub spaced : AreSpaced start (with_placed r (front_of m ms))

front_spaced : (start : ℕ) (m : Move) (ms : List Move) → AreSpaced start (m ∷ ms) → AreSpaced start (front_of m ms)
front_spaced start m [] spaced = tt
front_spaced start m (x ∷ xs) spaced = (spaced.0, spaced.1, front_spaced (m.to + m.len) x xs spaced.2)

pub last_after : (start : ℕ) (m : Move) (ms : List Move) → AreSpaced start (m ∷ ms) → start ≤ (last_of m ms).to
last_after start m [] spaced = spaced.0
last_after start m (x ∷ xs) spaced = omega (arith, spaced.0, last_after (m.to + m.len) x xs spaced.2)

pub before_it : (a b : ℕ) → a < b → nat_lt a b ≡ true
before_it a b h = grind (arith, nat_tests)

pub not_before : (a b : ℕ) → b ≤ a → nat_lt a b ≡ false
not_before a b h = grind (arith, nat_tests)

first_hole : (start : ℕ) (m : Move) (ms : List Move) (r : Move) → 25 ≤ r.len → AreSpaced start (m ∷ ms) → AreWhole (m ∷ ms) → r.to ≡ start → (m.to - start ≡ r.len) ⊎ (r.len + 25 ≤ m.to - start) → Found start m ms r
first_hole start m [] r long spaced whole at size = record {
  from = omega arith;
  within = elim size [ inl e ↦ omega (arith, spaced.0) | inr e ↦ omega (arith, spaced.0) ];
  spaced = (omega arith, inl at, tt);
}
first_hole start m (x ∷ xs) r long spaced whole at size =
    let below : r.to + r.len ≤ m.to = elim size [ inl e ↦ omega (arith, spaced.0) | inr e ↦ omega (arith, spaced.0) ] in
    let gap : (m.to ≡ r.to + r.len) ⊎ (r.to + r.len + 25 ≤ m.to) = elim size [ inl e ↦ inl (omega (arith, spaced.0)) | inr e ↦ inr (omega (arith, spaced.0)) ] in
    let rest = front_spaced (m.to + m.len) x xs spaced.2 in
    let after = last_after (m.to + m.len) x xs spaced.2 in
    let placed : AreSpaced start (r ∷ m ∷ front_of x xs) = (omega arith, inl at, (below, gap, rest)) in
    record {
      from = omega arith;
      within = omega (arith, below, after);
      spaced = subst (λ (b : Bool). AreSpaced start (cond b (r ∷ m ∷ front_of x xs) (m ∷ with_placed r (front_of x xs)))) (sym (before_it r.to m.to (omega (arith, below, long)))) placed;
    }

later : (start : ℕ) (m : Move) (x : Move) (xs : List Move) (r : Move) → AreSpaced start (m ∷ x ∷ xs) → Found (m.to + m.len) x xs r → Found start m (x ∷ xs) r
later start m x xs r spaced found =
    let placed : AreSpaced start (m ∷ with_placed r (front_of x xs)) = (spaced.0, spaced.1, found.spaced) in
    record {
      from = omega (arith, spaced.0, found.from);
      within = found.within;
      spaced = subst (λ (b : Bool). AreSpaced start (cond b (r ∷ m ∷ front_of x xs) (m ∷ with_placed r (front_of x xs)))) (sym (not_before r.to m.to (omega (arith, found.from)))) placed;
    }

-- the lowest hole that may take a record leaves the others and it spaced, and lies before the last one
pub found : (start : ℕ) (m : Move) (ms : List Move) (r : Move) → 25 ≤ r.len → AreSpaced start (m ∷ ms) → AreWhole (m ∷ ms) → lowest_hole r.len start (m ∷ ms) ≡ Some r.to → Found start m ms r
found start m [] r long spaced whole is = by (fits_hole r.len (m.to - start)) refl
  where
    by : (b : Bool) → fits_hole r.len (m.to - start) ≡ b → Found start m [] r
    by true e = first_hole start m [] r long spaced whole (sym (some_one start r.to (sym (ap (λ (b : Bool). cond b (Some start) None) e) ∙ is))) (hole_size r.len (m.to - start) e)
    by false e = no_some r.to (sym (ap (λ (b : Bool). cond b (Some start) None) e) ∙ is)
found start m (x ∷ xs) r long spaced whole is = by (fits_hole r.len (m.to - start)) refl (found (m.to + m.len) x xs r long spaced.2 whole.1)
  where
    by : (b : Bool) → fits_hole r.len (m.to - start) ≡ b → (lowest_hole r.len (m.to + m.len) (x ∷ xs) ≡ Some r.to → Found (m.to + m.len) x xs r) → Found start m (x ∷ xs) r
    by true e rest = first_hole start m (x ∷ xs) r long spaced whole (sym (some_one start r.to (sym (ap (λ (b : Bool). cond b (Some start) (lowest_hole r.len (m.to + m.len) (x ∷ xs))) e) ∙ is))) (hole_size r.len (m.to - start) e)
    by false e rest = later start m x xs r spaced (rest (sym (ap (λ (b : Bool). cond b (Some start) (lowest_hole r.len (m.to + m.len) (x ∷ xs))) e) ∙ is))

-- the records of a list stay whole when one of them is placed anew
placed_whole : (r : Move) (ms : List Move) → 25 ≤ r.len → AreWhole ms → AreWhole (with_placed r ms)
placed_whole r [] long whole = (long, tt)
placed_whole r (x ∷ xs) long whole = elim (nat_lt r.to x.to) as (λ b. AreWhole (cond b (r ∷ x ∷ xs) (x ∷ with_placed r xs))) [ true ↦ (long, whole) | false ↦ (whole.0, placed_whole r xs long whole.1) ]

front_whole : (m : Move) (ms : List Move) → AreWhole (m ∷ ms) → AreWhole (front_of m ms)
front_whole m [] whole = tt
front_whole m (x ∷ xs) whole = (whole.0, front_whole x xs whole.1)

last_whole : (m : Move) (ms : List Move) → AreWhole (m ∷ ms) → 25 ≤ (last_of m ms).len
last_whole m [] whole = whole.0
last_whole m (x ∷ xs) whole = last_whole x xs whole.1

-- each record is where it was, or comes from this place or further on and went down
abbrev pub ComeFrom : ℕ → List Move → Type 0
ComeFrom end [] = Unit {0}
ComeFrom end (m ∷ ms) = ((m.to ≡ m.from) ⊎ ((end ≤ m.from) × (m.to ≤ m.from))) × ComeFrom end ms

-- a place at or before the one from which they come
come_lower : (end lower : ℕ) (ms : List Move) → lower ≤ end → ComeFrom end ms → ComeFrom lower ms
come_lower end lower [] below come = tt
come_lower end lower (m ∷ ms) below come = (elim come.0 [ inl e ↦ inl e | inr h ↦ inr (omega (arith, h.0), h.1) ], come_lower end lower ms below come.1)

front_come : (end : ℕ) (m : Move) (ms : List Move) → ComeFrom end (m ∷ ms) → ComeFrom end (front_of m ms)
front_come end m [] come = tt
front_come end m (x ∷ xs) come = (come.0, front_come end x xs come.1)

last_come : (end : ℕ) (m : Move) (ms : List Move) → ComeFrom end (m ∷ ms) → ((last_of m ms).to ≡ (last_of m ms).from) ⊎ ((end ≤ (last_of m ms).from) × ((last_of m ms).to ≤ (last_of m ms).from))
last_come end m [] come = come.0
last_come end m (x ∷ xs) come = last_come end x xs come.1

placed_come : (end : ℕ) (r : Move) (ms : List Move) → (r.to ≡ r.from) ⊎ ((end ≤ r.from) × (r.to ≤ r.from)) → ComeFrom end ms → ComeFrom end (with_placed r ms)
placed_come end r [] one come = (one, tt)
placed_come end r (x ∷ xs) one come = elim (nat_lt r.to x.to) as (λ b. ComeFrom end (cond b (r ∷ x ∷ xs) (x ∷ with_placed r xs))) [ true ↦ (one, come) | false ↦ (come.0, placed_come end r xs one come.1) ]

-- each record ends at a place or before it
abbrev pub EndBy : ℕ → List Move → Type 0
EndBy end [] = Unit {0}
EndBy end (m ∷ ms) = (m.to + m.len ≤ end) × EndBy end ms

front_ends : (start : ℕ) (m : Move) (ms : List Move) → AreSpaced start (m ∷ ms) → EndBy (last_of m ms).to (front_of m ms)
front_ends start m [] spaced = tt
front_ends start m (x ∷ xs) spaced = (last_after (m.to + m.len) x xs spaced.2, front_ends (m.to + m.len) x xs spaced.2)

placed_ends : (end : ℕ) (r : Move) (ms : List Move) → r.to + r.len ≤ end → EndBy end ms → EndBy end (with_placed r ms)
placed_ends end r [] one ends = (one, tt)
placed_ends end r (x ∷ xs) one ends = elim (nat_lt r.to x.to) as (λ b. EndBy end (cond b (r ∷ x ∷ xs) (x ∷ with_placed r xs))) [ true ↦ (one, ends) | false ↦ (ends.0, placed_ends end r xs one ends.1) ]

last_ends : (end : ℕ) (m : Move) (ms : List Move) → EndBy end (m ∷ ms) → (last_of m ms).to + (last_of m ms).len ≤ end
last_ends end m [] ends = ends.0
last_ends end m (x ∷ xs) ends = last_ends end x xs ends.1

end_by : (end : ℕ) (ms : List Move) → 128 ≤ end → EndBy end ms → end_of ms ≤ end
end_by end [] some ends = some
end_by end (m ∷ ms) some ends = last_ends end m ms ends

-- records of which the last one was placed before it end where it stood, or before
end_front : (m : Move) (ms : List Move) (r : Move) → AreSpaced 128 (m ∷ ms) → r.to + r.len ≤ (last_of m ms).to → end_of (with_placed r (front_of m ms)) ≤ (last_of m ms).to
end_front m ms r spaced before = end_by (last_of m ms).to (with_placed r (front_of m ms)) (last_after 128 m ms spaced) (placed_ends (last_of m ms).to r (front_of m ms) before (front_ends 128 m ms spaced))

-- what holds of the records after each move
pub record Kept (ms : List Move) : Type 0 where
  pub spaced : AreSpaced 128 ms
  pub whole : AreWhole ms
  pub come : ComeFrom (end_of ms) ms

-- a move keeps it
kept_more : (m : Move) (ms : List Move) (at : ℕ) → target_of_last m ms ≡ Some at → Kept (m ∷ ms) → Kept (with_placed (record (last_of m ms) { to = at }) (front_of m ms))
kept_more m ms at is kept =
    let r : Move = record (last_of m ms) { to = at } in
    let long = last_whole m ms kept.whole in
    let f = found 128 m ms r long kept.spaced kept.whole is in
    let below = end_front m ms r kept.spaced f.within in
    let lower : end_of (with_placed r (front_of m ms)) ≤ end_of (m ∷ ms) = omega (arith, below) in
    let one : (r.to ≡ r.from) ⊎ ((end_of (with_placed r (front_of m ms)) ≤ r.from) × (r.to ≤ r.from)) =
    elim (last_come (end_of (m ∷ ms)) m ms kept.come) [
      | inl e ↦ inr (omega (arith, below, e), omega (arith, f.within, e))
      | inr h ↦ inr (omega (arith, lower, h.0), omega (arith, f.within, h.1))
    ]
    in
    record {
      spaced = f.spaced;
      whole = placed_whole r (front_of m ms) long (front_whole m ms kept.whole);
      come = placed_come _ r (front_of m ms) one (come_lower (end_of (m ∷ ms)) _ (front_of m ms) lower (front_come (end_of (m ∷ ms)) m ms kept.come));
    }

-- what holds of the records at the end of all moves
pub kept_end : (ms end : List Move) → Packs ms end → Kept ms → Kept end
kept_end ms end (done m xs stops) kept = kept
kept_end ms end (more m xs at last is packs) kept = kept_end _ end packs (kept_more m xs at is kept)

placed_permuted : (r : Move) (ms : List Move) → IsPermutation (r ∷ ms) (with_placed r ms)
placed_permuted r [] = IsPermutation-refl (r ∷ [])
placed_permuted r (x ∷ xs) = elim (nat_lt r.to x.to) as (λ b. IsPermutation (r ∷ x ∷ xs) (cond b (r ∷ x ∷ xs) (x ∷ with_placed r xs))) [
  | true ↦ IsPermutation-refl (r ∷ x ∷ xs)
  | false ↦ IsPermutation-trans (r ∷ x ∷ xs) (x ∷ r ∷ xs) (x ∷ with_placed r xs) (IsPermutation-sym (x ∷ r ∷ xs) (r ∷ x ∷ xs) (IsPermutation-middle (x ∷ []) r xs)) (IsPermutation-cons x (r ∷ xs) (with_placed r xs) (placed_permuted r xs))
]

last_permuted : (m : Move) (ms : List Move) → IsPermutation (m ∷ ms) (last_of m ms ∷ front_of m ms)
last_permuted m [] = IsPermutation-refl (m ∷ [])
last_permuted m (x ∷ xs) =
    IsPermutation-trans (m ∷ x ∷ xs) (m ∷ last_of x xs ∷ front_of x xs) (last_of x xs ∷ m ∷ front_of x xs) (IsPermutation-cons m (x ∷ xs) (last_of x xs ∷ front_of x xs) (last_permuted x xs)) (IsPermutation-middle (m ∷ []) (last_of x xs) (front_of x xs))

-- each record stands among those at the end once, with its own id, place and length
pub sources_kept : (ms end : List Move) → Packs ms end → IsPermutation (map source ms) (map source end)
sources_kept ms end (done m xs stops) = IsPermutation-refl (map source (m ∷ xs))
sources_kept ms end (more m xs at last is packs) =
    let r : Move = record (last_of m xs) { to = at } in
    IsPermutation-trans (map source (m ∷ xs)) (map source (with_placed r (front_of m xs))) (map source end)
    (IsPermutation-trans (map source (m ∷ xs)) (map source (r ∷ front_of m xs)) (map source (with_placed r (front_of m xs)))
    (IsPermutation-map source (m ∷ xs) (last_of m xs ∷ front_of m xs) (last_permuted m xs))
    (IsPermutation-map source (r ∷ front_of m xs) (with_placed r (front_of m xs)) (placed_permuted r (front_of m xs))))
    (sources_kept _ end packs)

-- the last record at the end fits no hole before it
pub end_stops : (ms end : List Move) → Packs ms end → Stops end
end_stops ms end (done m xs stops) = stops
end_stops ms end (more m xs at last is packs) = end_stops _ end packs
