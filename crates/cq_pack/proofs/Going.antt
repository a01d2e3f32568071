-- What holds while the records of a file are packed, one move after another.
use Rattle.std.proofs.Common.{◌≡◌, ◌≢◌, ℕ, zero, suc, ◌+◌, ◌-◌, ◌≤◌, ◌<◌, Bool, true, false, List, [], ◌∷◌, ◌++◌, map, length, reverse, get_or, set, None, Some, refl, sym, ap, subst, ◌∙◌, arith, append_assoc}
use Rattle.std.proofs.lemmas.List.{append-nil, map-append, reverse-append, length-map}
use Rattle.std.specs.List.Sorted.{IsPermutation}
use Rattle.std.proofs.lemmas.List.Sorted.{IsPermutation-refl, IsPermutation-sym, IsPermutation-cons, IsPermutation-trans, IsPermutation-middle, IsPermutation-append_left, IsPermutation-append_right, IsPermutation-append_comm, IsPermutation-to_front, IsPermutation-reverse}
use Rattle.cq_block.specs.declared.layout.Move.{Move}
use Rattle.cq_pack.specs.Packing.{fits_hole, lowest_hole, with_placed, last_of, Packs, end_of, source, IsPacking}
use Rattle.cq_pack.specs.Holes.{IsLowest}
use Rattle.cq_pack.proofs.Ends.{ends, same_ends, end_of-snoc, more_end, done_end}
use Rattle.cq_pack.proofs.Groups.{Group, Split, size, flat_on, end_on, takes_on, inners_on, none, Fills, AreBarred, AreGroups, Are, Takes, Refuse, filled, reach, lowest_takes, lowest_refused, lowest_barred, placed, kept, starts_of-filled, sizes_of-filled, recs_of-filled, inners_of-filled, some_left}

abbrev pub rec_of : Group → Move
rec_of g = g.rec

abbrev pub start_of : Group → ℕ
start_of g = g.start

-- the records that stand and those that were moved, and the holes before those that stand
pub record Going (records standing moved : List Move) (starts sizes : List ℕ) : Type 0 where
  pub groups : List Group
  pub some : 0 < length standing
  pub are : AreGroups 128 none groups
  pub standing_are : map rec_of groups ≡ standing
  pub starts_are : map start_of groups ≡ starts
  pub sizes_are : map size groups ≡ sizes
  pub moved_are : IsPermutation (inners_on groups []) moved
  pub packs : (end : List Move) → Packs (flat_on groups []) end → Packs records end
  pub sources : map source (standing ++ reverse moved) ≡ map source records

-- the same, by the last record that stands
pub record Open (records front : List Move) (x : Move) (moved : List Move) (starts sizes : List ℕ) : Type 0 where
  pub init : List Group
  pub last : Group
  pub are : Are 128 none (record { init = init; last = last })
  pub rec : last.rec ≡ x
  pub standing_are : map rec_of init ≡ front
  pub starts_are : map start_of init ++ last.start ∷ [] ≡ starts
  pub sizes_are : map size init ++ size last ∷ [] ≡ sizes
  pub moved_are : IsPermutation (inners_on init last.inner) moved
  pub packs : (end : List Move) → Packs (flat_on init last.inner ++ last.rec ∷ []) end → Packs records end
  pub sources : map source ((front ++ x ∷ []) ++ reverse moved) ≡ map source records

-- groups and a last one

split_groups : (prev : ℕ) (takes : ℕ → Bool) (init : List Group) (g : Group) → AreGroups prev takes (init ++ g ∷ []) → Are prev takes (record { init = init; last = g })
split_groups prev takes [] g are = record { init = tt; last = are.0 }
split_groups prev takes (h ∷ hs) g are = let rest = split_groups (h.rec.to + h.rec.len) _ hs g are.1 in record { init = (are.0, rest.init); last = rest.last }

flat_on-append : (gs : List Group) (xs ys : List Move) → flat_on gs (xs ++ ys) ≡ flat_on gs xs ++ ys
flat_on-append [] xs ys = refl
flat_on-append (g ∷ gs) xs ys = ap (λ l. g.inner ++ (g.rec ∷ l)) (flat_on-append gs xs ys) ∙ sym (append_assoc g.inner (g.rec ∷ flat_on gs xs) ys)

flat_on-snoc : (gs : List Group) (g : Group) → flat_on (gs ++ g ∷ []) [] ≡ flat_on gs (g.inner ++ g.rec ∷ [])
flat_on-snoc [] g = refl
flat_on-snoc (h ∷ hs) g = ap (λ l. h.inner ++ (h.rec ∷ l)) (flat_on-snoc hs g)

inners_on-snoc : (gs : List Group) (g : Group) → inners_on (gs ++ g ∷ []) [] ≡ inners_on gs g.inner
inners_on-snoc [] g = append-nil g.inner
inners_on-snoc (h ∷ hs) g = ap (λ l. h.inner ++ l) (inners_on-snoc hs g)

pub opened : (records standing moved front : List Move) (x : Move) (starts sizes : List ℕ) → Going records standing moved starts sizes → standing ≡ front ++ x ∷ [] → Open records front x moved starts sizes
opened records standing moved front x starts sizes going is =
    let s = ends going.groups (omega (arith, going.some, ap length going.standing_are, length-map going.groups rec_of)) in
    let same = same_ends (map rec_of s.init) front s.last.rec x (sym (map-append rec_of s.init (s.last ∷ [])) ∙ sym (ap (map rec_of) s.is) ∙ going.standing_are ∙ is) in
    record {
      init = s.init;
      last = s.last;
      are = split_groups 128 none s.init s.last (subst (AreGroups 128 none) s.is going.are);
      rec = same.last;
      standing_are = same.init;
      starts_are = sym (map-append start_of s.init (s.last ∷ [])) ∙ sym (ap (map start_of) s.is) ∙ going.starts_are;
      sizes_are = sym (map-append size s.init (s.last ∷ [])) ∙ sym (ap (map size) s.is) ∙ going.sizes_are;
      moved_are = subst (λ l. IsPermutation l moved) (ap (λ gs. inners_on gs []) s.is ∙ inners_on-snoc s.init s.last) going.moved_are;
      packs = λ end packs. going.packs end (subst (λ l. Packs l end) (sym (ap (λ gs. flat_on gs []) s.is ∙ flat_on-snoc s.init s.last ∙ flat_on-append s.init s.last.inner (s.last.rec ∷ []))) packs);
      sources = ap (λ l. map source (l ++ reverse moved)) (sym is) ∙ going.sources;
    }

-- what the holes take, by their sizes

pub takes_from : (j len : ℕ) (init : List Group) (g : Group) → j < length (map size init ++ size g ∷ []) → fits_hole len (get_or (map size init ++ size g ∷ []) j 0) ≡ true
    → ((k : ℕ) → k < j → fits_hole len (get_or (map size init ++ size g ∷ []) k 0) ≡ false) → Takes j len (get_or (map start_of init ++ g.start ∷ []) j 0) init g
takes_from zero len [] g within fits lower = (refl, fits)
takes_from (suc j) len [] g within fits lower = absurd (omega (arith, within))
takes_from zero len (h ∷ hs) g within fits lower = (refl, fits)
takes_from (suc j) len (h ∷ hs) g within fits lower =
    (lower 0 (omega arith), takes_from j len hs g (omega (arith, within)) fits (λ k below. lower (suc k) (omega (arith, below))))

pub refuse_from : (len : ℕ) (init : List Group) (g : Group) → ((k : ℕ) → k < length (map size init ++ size g ∷ []) → fits_hole len (get_or (map size init ++ size g ∷ []) k 0) ≡ false) → Refuse len init g
refuse_from len [] g unfit = unfit 0 (omega arith)
refuse_from len (h ∷ hs) g unfit = (unfit 0 (omega arith), refuse_from len hs g (λ k within. unfit (suc k) (omega (arith, within))))

-- the records at the end are the moves

exchange : (xs ys zs : List Move) → IsPermutation (xs ++ (ys ++ zs)) (ys ++ (xs ++ zs))
exchange xs ys zs =
    subst (λ l. IsPermutation l (ys ++ (xs ++ zs))) (append_assoc xs ys zs)
    (subst (IsPermutation ((xs ++ ys) ++ zs)) (append_assoc ys xs zs) (IsPermutation-append_left zs (xs ++ ys) (ys ++ xs) (IsPermutation-append_comm xs ys)))

flat_permuted : (gs : List Group) (tail : List Move) → IsPermutation (flat_on gs tail) (map rec_of gs ++ inners_on gs tail)
flat_permuted [] tail = IsPermutation-refl tail
flat_permuted (g ∷ gs) tail =
    let rest = inners_on gs tail in
    IsPermutation-trans (g.inner ++ (g.rec ∷ flat_on gs tail)) (g.rec ∷ (g.inner ++ flat_on gs tail)) (g.rec ∷ (map rec_of gs ++ (g.inner ++ rest)))
    (IsPermutation-middle g.inner g.rec (flat_on gs tail))
    (IsPermutation-cons g.rec (g.inner ++ flat_on gs tail) (map rec_of gs ++ (g.inner ++ rest))
    (IsPermutation-trans (g.inner ++ flat_on gs tail) (g.inner ++ (map rec_of gs ++ rest)) (map rec_of gs ++ (g.inner ++ rest))
    (IsPermutation-append_right g.inner (flat_on gs tail) (map rec_of gs ++ rest) (flat_permuted gs tail))
    (exchange g.inner (map rec_of gs) rest)))

all_moves : (gs : List Group) (tail front moved : List Move) → map rec_of gs ≡ front → IsPermutation (inners_on gs tail) moved → IsPermutation (flat_on gs tail) (front ++ reverse moved)
all_moves gs tail front moved is inner =
    subst (λ l. IsPermutation (flat_on gs tail) (l ++ reverse moved)) is
    (IsPermutation-trans (flat_on gs tail) (map rec_of gs ++ inners_on gs tail) (map rec_of gs ++ reverse moved) (flat_permuted gs tail)
    (IsPermutation-append_right (map rec_of gs) (inners_on gs tail) (reverse moved) (IsPermutation-trans (inners_on gs tail) moved (reverse moved) inner (IsPermutation-reverse moved))))

with_last : (xs ys zs : List Move) (x : Move) → IsPermutation xs (ys ++ zs) → IsPermutation (xs ++ x ∷ []) ((ys ++ x ∷ []) ++ zs)
with_last xs ys zs x same =
    subst (IsPermutation (xs ++ x ∷ [])) (sym (append_assoc ys (x ∷ []) zs))
    (IsPermutation-trans (xs ++ x ∷ []) (x ∷ (ys ++ zs)) (ys ++ (x ∷ zs))
    (IsPermutation-trans (xs ++ x ∷ []) (x ∷ xs) (x ∷ (ys ++ zs)) (IsPermutation-to_front xs x) (IsPermutation-cons x xs (ys ++ zs) same))
    (IsPermutation-sym (ys ++ (x ∷ zs)) (x ∷ (ys ++ zs)) (IsPermutation-middle ys x zs)))

-- where the last record that stands fits no hole, all is packed
pub stopped : (records front : List Move) (x : Move) (moved : List Move) (starts sizes : List ℕ) → Open records front x moved starts sizes → ((k : ℕ) → k < length sizes → fits_hole x.len (get_or sizes k 0) ≡ false)
    → IsPacking records ((front ++ x ∷ []) ++ reverse moved) (x.to + x.len)
stopped records front x moved starts sizes o unfit =
    let xs = flat_on o.init o.last.inner in
    let refused : Refuse o.last.rec.len o.init o.last =
    refuse_from o.last.rec.len o.init o.last (λ k within.
    let at : k < length sizes = omega (arith, within, ap length o.sizes_are) in
    ap (λ (m : Move). fits_hole m.len (get_or (map size o.init ++ size o.last ∷ []) k 0)) o.rec ∙ ap (λ l. fits_hole x.len (get_or l k 0)) o.sizes_are ∙ unfit k at)
    in
    let fits_none : lowest_hole o.last.rec.len 128 (xs ++ o.last.rec ∷ []) ≡ None =
    ap (lowest_hole o.last.rec.len 128) (sym (flat_on-append o.init o.last.inner (o.last.rec ∷ []))) ∙ lowest_refused o.last.rec.len 128 none o.init o.last o.are.last.long o.are.init o.are.last refused
    in
    record {
      placed = xs ++ x ∷ [];
      packs = o.packs (xs ++ x ∷ []) (subst (λ (m : Move). Packs (xs ++ o.last.rec ∷ []) (xs ++ m ∷ [])) o.rec (done_end xs o.last.rec fits_none));
      all = with_last xs front (reverse moved) x (all_moves o.init o.last.inner front moved o.standing_are o.moved_are);
      sources = o.sources;
      end = sym (end_of-snoc xs x);
    }

-- after a move of the last record that stood
pub record After (records front moved : List Move) (starts sizes : List ℕ) : Type 0 where
  pub split : Split
  pub are : Are 128 none split
  pub standing_are : map rec_of split.init ≡ front
  pub starts_are : map start_of split.init ++ split.last.start ∷ [] ≡ starts
  pub sizes_are : map size split.init ++ size split.last ∷ [] ≡ sizes
  pub moved_are : IsPermutation (inners_on split.init split.last.inner) moved
  pub packs : (end : List Move) → Packs (flat_on split.init split.last.inner) end → Packs records end
  pub sources : map source (front ++ reverse moved) ≡ map source records
  pub some : length split.last.inner ≡ 0 → 0 < length split.init

sources_kept : (front moved : List Move) (x r : Move) → source r ≡ source x → map source (front ++ reverse (moved ++ r ∷ [])) ≡ map source ((front ++ x ∷ []) ++ reverse moved)
sources_kept front moved x r same =
    ap (λ l. map source (front ++ l)) (reverse-append moved (r ∷ []))
    ∙ map-append source front (r ∷ reverse moved)
    ∙ ap (λ b. map source front ++ (b ∷ map source (reverse moved))) same
    ∙ sym (map-append source front (x ∷ reverse moved))
    ∙ ap (map source) (sym (append_assoc front (x ∷ []) (reverse moved)))

pub after : (records front : List Move) (x : Move) (moved : List Move) (starts sizes : List ℕ) (j : ℕ) → Open records front x moved starts sizes → IsLowest x.len sizes j
    → After records front (moved ++ record x { to = get_or starts j 0 } ∷ []) (set starts j (get_or starts j 0 + x.len)) (set sizes j (get_or sizes j 0 - x.len))
after records front x moved starts sizes j o lowest =
    let at = get_or starts j 0 in
    let r : Move = record x { to = at } in
    let sizes_is = o.sizes_are in
    let t : Takes j r.len r.to o.init o.last =
    subst (λ (l : List ℕ). Takes j x.len (get_or l j 0) o.init o.last) o.starts_are
    (takes_from j x.len o.init o.last
    (omega (arith, lowest.within, ap length o.sizes_are))
    (ap (λ l. fits_hole x.len (get_or l j 0)) o.sizes_are ∙ lowest.takes)
    (λ k below. ap (λ l. fits_hole x.len (get_or l k 0)) o.sizes_are ∙ lowest.lower k below))
    in
    let long : 25 ≤ r.len = subst (λ (m : Move). 25 ≤ m.len) o.rec o.are.last.long in
    let xs = flat_on o.init o.last.inner in
    let finds : lowest_hole o.last.rec.len 128 (xs ++ o.last.rec ∷ []) ≡ Some at =
    ap (lowest_hole o.last.rec.len 128) (sym (flat_on-append o.init o.last.inner (o.last.rec ∷ [])))
    ∙ lowest_takes j o.last.rec.len at 128 none o.init o.last o.are.last.long o.are.init o.are.last (subst (λ (m : Move). Takes j m.len at o.init o.last) (sym o.rec) t)
    in
    let here : with_placed r xs ≡ flat_on (filled j r o.init o.last).init (filled j r o.init o.last).last.inner = placed j r 128 none o.init o.last long o.are.init o.are.last t in
    record {
      split = filled j r o.init o.last;
      are = kept j r 128 none o.init o.last long o.are.init o.are.last t refl;
      standing_are = recs_of-filled j r o.init o.last ∙ o.standing_are;
      starts_are = starts_of-filled j at r o.init o.last t ∙ ap (λ l. set l j (get_or l j 0 + x.len)) o.starts_are;
      sizes_are = sizes_of-filled j at r o.init o.last t ∙ ap (λ l. set l j (get_or l j 0 - x.len)) o.sizes_are;
      moved_are =
          let inner = inners_on o.init o.last.inner in
          let new = inners_on (filled j r o.init o.last).init (filled j r o.init o.last).last.inner in
          IsPermutation-trans new (r ∷ inner) (moved ++ r ∷ []) (IsPermutation-sym (r ∷ inner) new (inners_of-filled j r.len at r o.init o.last t))
          (IsPermutation-trans (r ∷ inner) (r ∷ moved) (moved ++ r ∷ []) (IsPermutation-cons r inner moved o.moved_are) (IsPermutation-sym (moved ++ r ∷ []) (r ∷ moved) (IsPermutation-to_front moved r)));
      packs = λ end packs. o.packs end (more_end xs o.last.rec at end finds
          (subst (λ (m : Move). Packs (with_placed (record m { to = at }) xs) end) (sym o.rec) (subst (λ l. Packs l end) (sym here) packs)));
      sources = sources_kept front moved x r refl ∙ o.sources;
      some = some_left j r.len at r o.init o.last t;
    }

-- the end of the last record

last_end : (g : Group) (gs : List Group) → end_on (g.rec.to + g.rec.len) gs ≡ (last_of g.rec (map rec_of gs)).to + (last_of g.rec (map rec_of gs)).len
last_end g [] = refl
last_end g (h ∷ hs) = last_end h hs

pub end_of-recs : (gs : List Group) → end_on 128 gs ≡ end_of (map rec_of gs)
end_of-recs [] = refl
end_of-recs (g ∷ gs) = last_end g gs

fills_nothing : (prev start : ℕ) (ms : List Move) → Fills prev ms start → start ≡ prev → length ms ≡ 0
fills_nothing prev start [] fills e = refl
fills_nothing prev start (m ∷ ms) fills e = absurd (omega (arith, fills.0, fills.1, reach (m.to + m.len) start ms fills.2, e))

nothing : {A : Type 0} (xs : List A) → length xs ≡ 0 → xs ≡ []
nothing [] e = refl
nothing (x ∷ xs) e = absurd (omega arith)

-- where nothing stands behind the last record that still stands, packing goes on
pub goes_on : (records front moved : List Move) (starts sizes starts' sizes' : List ℕ) (end left : ℕ) → After records front moved starts sizes → starts ≡ starts' ++ end ∷ [] → sizes ≡ sizes' ++ left ∷ [] → end ≡ end_of front
    → Going records front moved starts' sizes'
goes_on records front moved starts sizes starts' sizes' end left a starts_is sizes_is here =
    let s = a.split in
    let first = same_ends (map start_of s.init) starts' s.last.start end (a.starts_are ∙ starts_is) in
    let second = same_ends (map size s.init) sizes' (size s.last) left (a.sizes_are ∙ sizes_is) in
    let empty : length s.last.inner ≡ 0 = fills_nothing (end_on 128 s.init) s.last.start s.last.inner a.are.last.fills (first.last ∙ here ∙ sym (end_of-recs s.init ∙ ap end_of a.standing_are)) in
    let none_in = nothing s.last.inner empty in
    record {
      groups = s.init;
      some = omega (arith, a.some empty, ap length a.standing_are, length-map s.init rec_of);
      are = a.are.init;
      standing_are = a.standing_are;
      starts_are = first.init;
      sizes_are = second.init;
      moved_are = subst (λ l. IsPermutation (inners_on s.init l) moved) none_in a.moved_are;
      packs = λ end packs. a.packs end (subst (λ l. Packs (flat_on s.init l) end) (sym none_in) packs);
      sources = a.sources;
    }

-- the last of the records without a gap

last_long : (prev start : ℕ) (ms : List Move) (m : Move) → Fills prev (ms ++ m ∷ []) start → (25 ≤ m.len) × (m.to + m.len ≡ start)
last_long prev start [] m fills = (fills.1, fills.2)
last_long prev start (x ∷ xs) m fills = last_long (x.to + x.len) start xs m fills.2

last_barred : (takes : ℕ → Bool) (ms : List Move) (m : Move) → AreBarred takes (ms ++ m ∷ []) → takes m.len ≡ false
last_barred takes [] m barred = barred.0
last_barred takes (x ∷ xs) m barred = last_barred takes xs m barred.1

pub some_there : (prev start : ℕ) (ms : List Move) → Fills prev ms start → start ≢ prev → 0 < length ms
some_there prev start [] fills apart = absurd (apart (sym fills))
some_there prev start (m ∷ ms) fills apart = omega arith

-- where a moved record is the last one, it fits no hole, and all is packed
pub moved_last : (records front moved : List Move) (starts sizes starts' : List ℕ) (end : ℕ) → After records front moved starts sizes → starts ≡ starts' ++ end ∷ [] → end ≢ end_of front
    → IsPacking records (front ++ reverse moved) end
moved_last records front moved starts sizes starts' end a starts_is apart =
    let s = a.split in
    let first = same_ends (map start_of s.init) starts' s.last.start end (a.starts_are ∙ starts_is) in
    let v = ends s.last.inner (some_there (end_on 128 s.init) s.last.start s.last.inner a.are.last.fills (λ e. apart (sym first.last ∙ e ∙ end_of-recs s.init ∙ ap end_of a.standing_are))) in
    let facts = last_long (end_on 128 s.init) s.last.start v.init v.last (subst (λ l. Fills (end_on 128 s.init) l s.last.start) v.is a.are.last.fills) in
    let barred = last_barred (takes_on none s.init) v.init v.last (subst (AreBarred (takes_on none s.init)) v.is a.are.last.barred) in
    let xs = flat_on s.init v.init in
    let all_is : flat_on s.init s.last.inner ≡ xs ++ v.last ∷ [] = ap (flat_on s.init) v.is ∙ flat_on-append s.init v.init (v.last ∷ []) in
    let fits_none : lowest_hole v.last.len 128 (xs ++ v.last ∷ []) ≡ None =
    ap (lowest_hole v.last.len 128) (sym all_is) ∙ lowest_barred v.last.len 128 s.last.start none s.init s.last.inner facts.0 a.are.init a.are.last.fills barred
    in
    record {
      placed = xs ++ v.last ∷ [];
      packs = a.packs (xs ++ v.last ∷ []) (subst (λ l. Packs l (xs ++ v.last ∷ [])) (sym all_is) (done_end xs v.last fits_none));
      all = subst (λ l. IsPermutation l (front ++ reverse moved)) all_is (all_moves s.init s.last.inner front moved a.standing_are a.moved_are);
      sources = a.sources;
      end = sym first.last ∙ sym facts.1 ∙ sym (end_of-snoc xs v.last);
    }
