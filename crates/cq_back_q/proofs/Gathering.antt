-- What the segments of a queue list is what its indexes hold.
use Prim.Native.Nat.{zero, suc}
use Rattle.std.proofs.Common.{◌≡◌, ◌≢◌, ⊎_elim, ℕ, ◌≤◌, ◌<◌, Bool, false, List, [], ◌∷◌, ◌++◌, refl, sym, ◌∙◌, ap, subst, append-nil, arith}
use Rattle.std.specs.Prelude.{◌||◌}
use Rattle.std.specs.List.{AllByRecursion}
use Rattle.std.proofs.lemmas.Bool.{cases_lt, ne_eqb}
use Rattle.std.proofs.lemmas.List.{append_assoc}
use Rattle.cq_disk.specs.declared.name.Name.{Name}
use Rattle.cq_disk.specs.Call.{Image}
use Rattle.cq_index.specs.Places.{index_name}
use Rattle.cq_index.specs.declared.segment.Segment.{Segment}
use Rattle.cq_index.specs.Segments.{name_of, present_of}
use Rattle.cq_folder.specs.Folder.{present, Spot, spots, below}
use Rattle.cq_folder.specs.Held.{contents_of}
use Rattle.cq_folder.specs.Queue.{RiseAs, has_number, indexes_of, listed_in}
use Rattle.cq_back_q.specs.declared.found.HeldEntry.{HeldEntry}
use Rattle.cq_back_q.specs.Found.{listed, places_of}
use Rattle.cq_back_q.proofs.Entries.{all_wider}
use Rattle.cq_back_q.proofs.Listing.{IsKnown, IsOwn, entries_of, listed_present, nil_cons, parts_of, seen_in, spots_of, stand_at}

-- what is empty in between adds nothing
below_cut : {A : Type 0} (f : ℕ → List A) (a b : ℕ) → a ≤ b → ((n : ℕ) → a ≤ n → n < b → f n ≡ []) → below f b ≡ below f a
below_cut f a zero le none = let e : 0 ≡ a = omega (arith, le) in ap (below f) e
below_cut f a (suc b) le none = ⊎_elim
    (λ (more : a < suc b).
    ap (λ (xs : List _). below f b ++ xs) (none b (omega (arith, more)) (omega arith)) ∙ append-nil (below f b) ∙ below_cut f a b (omega (arith, more)) (λ n ge lt. none n ge (omega (arith, lt))))
    (λ (here : suc b ≤ a). let e : suc b ≡ a = omega (arith, le, here) in ap (below f) e)
    (cases_lt a (suc b))

spots_append : (xs ys : List HeldEntry) → spots_of (xs ++ ys) ≡ spots_of xs ++ spots_of ys
spots_append [] ys = refl
spots_append (x ∷ xs) ys = ap (λ (l : List Spot). record { segment = x.segment; entry = x.entry } ∷ l) (spots_append xs ys)

all_front : {A : Type 0} (P : A → Type 0) (xs ys : List A) → AllByRecursion P (xs ++ ys) → AllByRecursion P xs
all_front P [] ys all = tt
all_front P (x ∷ xs) ys all = (all.0, all_front P xs ys all.1)

all_back : {A : Type 0} (P : A → Type 0) (xs ys : List A) → AllByRecursion P (xs ++ ys) → AllByRecursion P ys
all_back P [] ys all = all
all_back P (x ∷ xs) ys all = all_back P xs ys all.1

-- a number below all of these
none_has : (names : List Name) (n : ℕ) → AllByRecursion (λ (m : Name). n < m.number) names → has_number names n ≡ false
none_has [] n above = refl
none_has (m ∷ names) n above =
    let lt = above.0 in
    ap (λ (b : Bool). b || has_number names n) (ne_eqb m.number n (λ same. omega (arith, lt, same))) ∙ none_has names n above.1

-- one past the last number of these
abbrev pub past : ℕ → List Segment → ℕ
past next [] = next
past next (s ∷ segments) = past (suc (name_of s).number) segments

above_next : (n : ℕ) (names : List Name) → AllByRecursion (λ (m : Name). n < m.number) names → AllByRecursion (λ (m : Name). suc n ≤ m.number) names
above_next n names above = all_wider (λ (m : Name). n < m.number) (λ (m : Name). suc n ≤ m.number) names (λ m lt. omega (arith, lt)) above

past_from : (name_at : ℕ → Name) (next : ℕ) (segments : List Segment) → RiseAs name_at (indexes_of segments) → AllByRecursion (λ (m : Name). next ≤ m.number) (indexes_of segments) → next ≤ past next segments
past_from name_at next [] rise low = omega arith
past_from name_at next (s ∷ segments) rise low =
    let le = low.0 in
    let rest = past_from name_at (suc (name_of s).number) segments rise.2 (above_next (name_of s).number (indexes_of segments) rise.1) in
    omega (arith, le, rest)

-- from there on no index is there
pub none_past : (name_at : ℕ → Name) (next : ℕ) (segments : List Segment) → RiseAs name_at (indexes_of segments) → (n : ℕ) → past next segments ≤ n → has_number (indexes_of segments) n ≡ false
none_past name_at next [] rise n ge = refl
none_past name_at next (s ∷ segments) rise n ge =
    let rest = past_from name_at (suc (name_of s).number) segments rise.2 (above_next (name_of s).number (indexes_of segments) rise.1) in
    ap (λ (b : Bool). b || has_number (indexes_of segments) n) (ne_eqb (name_of s).number n (λ same. omega (arith, ge, rest, same)))
    ∙ none_past name_at (suc (name_of s).number) segments rise.2 n ge

module _ (queue : ℕ) (image : Image) where
  -- the present entries of the queue's index of a number
  abbrev pub held_in : ℕ → List Spot
  held_in n = spots n (present (seen_in (contents_of image (index_name queue n))))

  -- one segment more
  module _ (next : ℕ) (s : Segment) (segments : List Segment) (front : List HeldEntry) (rise : RiseAs (index_name queue) (indexes_of (s ∷ segments))) (low : next ≤ (name_of s).number) (known : IsKnown (contents_of image (name_of s)) s)
      (none : (n : ℕ) → next ≤ n → has_number (indexes_of (s ∷ segments)) n ≡ false → held_in n ≡ []) where
    off : (n : ℕ) → (name_of s).number ≢ n → has_number (indexes_of segments) n ≡ false → has_number (indexes_of (s ∷ segments)) n ≡ false
    off n other rest = ap (λ (b : Bool). b || has_number (indexes_of segments) n) (ne_eqb (name_of s).number n other) ∙ rest

    gap : (n : ℕ) → next ≤ n → n < (name_of s).number → held_in n ≡ []
    gap n from to = none n from (off n (λ same. omega (arith, same, to)) (none_has (indexes_of segments) n
        (all_wider (λ (m : Name). (name_of s).number < m.number) (λ (m : Name). n < m.number) (indexes_of segments) (λ m lt. omega (arith, lt, to)) rise.1)))

    later : (n : ℕ) → suc (name_of s).number ≤ n → has_number (indexes_of segments) n ≡ false → held_in n ≡ []
    later n from rest = none n (omega (arith, from, low)) (off n (λ same. omega (arith, same, from)) rest)

    one_more : places_of front ≡ listed_in (name_of s).number (present_of s) → AllByRecursion (IsOwn queue image) front → below held_in (suc (name_of s).number) ≡ below held_in next ++ spots_of front
    one_more is own =
        let stand = stand_at queue image (name_of s).number (present_of s) front is own in
        let known_here = subst (λ (m : Name). IsKnown (contents_of image m) s) rise.0 known in
        let this : held_in (name_of s).number ≡ spots_of front = ap (spots (name_of s).number) (listed_present (contents_of image (index_name queue (name_of s).number)) s known_here (entries_of front) stand.0) ∙ sym stand.1 in
        let before = below_cut held_in next (name_of s).number low gap in
        λ i. before i ++ this i

  -- below the last number stand those that are held, in order
  pub gathered : (next : ℕ) (segments : List Segment) (held : List HeldEntry) → RiseAs (index_name queue) (indexes_of segments) → AllByRecursion (λ (m : Name). next ≤ m.number) (indexes_of segments)
      → AllByRecursion (λ (s : Segment). IsKnown (contents_of image (name_of s)) s) segments → ((n : ℕ) → next ≤ n → has_number (indexes_of segments) n ≡ false → held_in n ≡ [])
      → places_of held ≡ listed segments → AllByRecursion (IsOwn queue image) held → below held_in (past next segments) ≡ below held_in next ++ spots_of held
  gathered next [] [] rise low known none is own = sym (append-nil (below held_in next))
  gathered next [] (h ∷ held) rise low known none is own = absurd (nil_cons (h.segment, h.at) (places_of held) (sym is))
  gathered next (s ∷ segments) held rise low known none is own =
      let parts = parts_of held (listed_in (name_of s).number (present_of s)) (listed segments) is in
      let whole = subst (AllByRecursion (IsOwn queue image)) parts.is own in
      gathered (suc (name_of s).number) segments parts.back rise.2 (above_next (name_of s).number (indexes_of segments) rise.1) known.1 (later next s segments parts.front rise low.0 known.0 none) parts.rest
      (all_back (IsOwn queue image) parts.front parts.back whole)
      ∙ ap (λ (l : List Spot). l ++ spots_of parts.back) (one_more next s segments parts.front rise low.0 known.0 none parts.first (all_front (IsOwn queue image) parts.front parts.back whole))
      ∙ append_assoc (below held_in next) (spots_of parts.front) (spots_of parts.back)
      ∙ ap (λ (l : List Spot). below held_in next ++ l) (sym (spots_append parts.front parts.back) ∙ ap spots_of (sym parts.is))
