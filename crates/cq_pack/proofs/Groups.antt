-- The records of a file while they are packed: in each hole the records that were moved into it, and behind the hole the
-- record that stands where it was.
use Rattle.std.proofs.Common.{◌≡◌, ℕ, zero, suc, ◌+◌, ◌-◌, ◌≤◌, ◌<◌, ◌^◌, Bool, true, false, cond, List, [], ◌∷◌, ◌++◌, map, length, get_or, set, None, Some, inl, inr, refl, sym, ap, subst, ◌∙◌, arith, append_assoc, length-append}
use Rattle.std.specs.Prelude.{◌||◌}
use Rattle.std.specs.List.Sorted.{IsPermutation}
use Rattle.std.proofs.lemmas.Bool.Decides.{nat_tests}
use Rattle.std.proofs.lemmas.List.Sorted.{IsPermutation-sym, IsPermutation-trans, IsPermutation-middle, IsPermutation-append_right, IsPermutation-to_front}
use Rattle.cq_block.specs.declared.layout.Move.{Move}
use Rattle.cq_pack.proofs.Spaced.{hole_size, before_it, not_before}
use Rattle.cq_pack.specs.Packing.{fits_hole, lowest_hole, with_placed}

-- what was moved into a hole, where the rest of the hole begins, and the record behind it
pub record Group : Type 0 where
  pub inner : List Move
  pub start : ℕ
  pub rec : Move

-- the size of the rest of the hole
abbrev pub size : Group → ℕ
size g = g.rec.to - g.start

-- the records of groups, and then others
abbrev pub flat_on : List Group → List Move → List Move
flat_on [] tail = tail
flat_on (g ∷ gs) tail = g.inner ++ (g.rec ∷ flat_on gs tail)

-- the end of the last record of groups that begin at a place
abbrev pub end_on : ℕ → List Group → ℕ
end_on prev [] = prev
end_on prev (g ∷ gs) = end_on (g.rec.to + g.rec.len) gs

-- the lengths that some hole takes: those before, or those of groups
abbrev pub takes_on : (ℕ → Bool) → List Group → ℕ → Bool
takes_on takes [] = takes
takes_on takes (g ∷ gs) = takes_on (λ len. takes len || fits_hole len (size g)) gs

-- records one after another from a place to another, without a gap
abbrev pub Fills : ℕ → List Move → ℕ → Type 0
Fills prev [] start = prev ≡ start
Fills prev (m ∷ ms) start = (m.to ≡ prev) × (25 ≤ m.len) × Fills (m.to + m.len) ms start

-- no hole before takes these records
abbrev pub AreBarred : (ℕ → Bool) → List Move → Type 0
AreBarred takes [] = Unit {0}
AreBarred takes (m ∷ ms) = (takes m.len ≡ false) × AreBarred takes ms

-- a group behind a place, where holes before take some lengths
pub record IsGroup (prev : ℕ) (takes : ℕ → Bool) (g : Group) : Type 0 where
  pub fills : Fills prev g.inner g.start
  pub barred : AreBarred takes g.inner
  pub before : g.start ≤ g.rec.to
  pub long : 25 ≤ g.rec.len
  pub short : g.rec.to + g.rec.len ≤ 2 ^ 62

abbrev pub AreGroups : ℕ → (ℕ → Bool) → List Group → Type 0
AreGroups prev takes [] = Unit {0}
AreGroups prev takes (g ∷ gs) = IsGroup prev takes g × AreGroups (g.rec.to + g.rec.len) (λ len. takes len || fits_hole len (size g)) gs

-- no hole takes any length
abbrev pub none : ℕ → Bool
none len = false

-- the hole that takes a record is the lowest one that may, and begins at this place
abbrev pub Takes : ℕ → ℕ → ℕ → List Group → Group → Type 0
Takes zero len at [] g = (at ≡ g.start) × (fits_hole len (size g) ≡ true)
Takes (suc j) len at [] g = ⊥
Takes zero len at (h ∷ hs) g = (at ≡ h.start) × (fits_hole len (size h) ≡ true)
Takes (suc j) len at (h ∷ hs) g = (fits_hole len (size h) ≡ false) × Takes j len at hs g

-- no hole takes it
abbrev pub Refuse : ℕ → List Group → Group → Type 0
Refuse len [] g = fits_hole len (size g) ≡ false
Refuse len (h ∷ hs) g = (fits_hole len (size h) ≡ false) × Refuse len hs g

-- a group with a record more at the start of its hole
abbrev pub put : Move → Group → Group
put r g = record { inner = g.inner ++ r ∷ []; start = g.start + r.len; rec = g.rec }

pub record Split : Type 0 where
  pub init : List Group
  pub last : Group

-- groups with a record moved into the hole at this place
abbrev pub filled : ℕ → Move → List Group → Group → Split
filled zero r [] g = record { init = []; last = put r g }
filled (suc j) r [] g = record { init = []; last = g }
filled zero r (h ∷ hs) g = record { init = put r h ∷ hs; last = g }
filled (suc j) r (h ∷ hs) g = let rest = filled j r hs g in record { init = h ∷ rest.init; last = rest.last }

-- tests

or_false : (a b : Bool) → a ≡ false → b ≡ false → (a || b) ≡ false
or_false a b x y = grind (arith, nat_tests)

or_left : (a b : Bool) → (a || b) ≡ false → a ≡ false
or_left true b h = h
or_left false b h = refl

or_right : (a b : Bool) → (a || b) ≡ false → b ≡ false
or_right true b h = let e : true ≡ false = h in cc
or_right false b h = h

-- a hole that takes a record isn't smaller
pub fits_within : (len size : ℕ) → fits_hole len size ≡ true → len ≤ size
fits_within len size fits = elim (hole_size len size fits) [ inl e ↦ omega arith | inr h ↦ omega arith ]

no_room : (len size : ℕ) → 25 ≤ len → size ≡ 0 → fits_hole len size ≡ false
no_room len size long none = grind (arith, nat_tests)

-- what doesn't fit a hole doesn't fit what is left of it
shrunk : (len size gone : ℕ) → 25 ≤ len → 25 ≤ gone → gone ≤ size → fits_hole len size ≡ false → fits_hole len (size - gone) ≡ false
shrunk len size gone long some within h = grind (arith, nat_tests)

-- the lowest hole

through : (len prev start : ℕ) (inner rest : List Move) → 25 ≤ len → Fills prev inner start → lowest_hole len prev (inner ++ rest) ≡ lowest_hole len start rest
through len prev start [] rest long fills = ap (λ p. lowest_hole len p rest) fills
through len prev start (m ∷ ms) rest long fills =
    ap (λ b. cond b (Some prev) (lowest_hole len (m.to + m.len) (ms ++ rest))) (no_room len (m.to - prev) long (omega (arith, fills.0)))
    ∙ through len (m.to + m.len) start ms rest long fills.2

-- where a hole takes it
pub lowest_takes : (j len at prev : ℕ) (takes : ℕ → Bool) (init : List Group) (g : Group) → 25 ≤ len → AreGroups prev takes init → IsGroup (end_on prev init) (takes_on takes init) g → Takes j len at init g
    → lowest_hole len prev (flat_on init (g.inner ++ g.rec ∷ [])) ≡ Some at
lowest_takes zero len at prev takes [] g long are is t =
    through len prev g.start g.inner (g.rec ∷ []) long is.fills ∙ ap (λ b. cond b (Some g.start) None) t.1 ∙ ap Some (sym t.0)
lowest_takes (suc j) len at prev takes [] g long are is t = absurd t
lowest_takes zero len at prev takes (h ∷ hs) g long are is t =
    through len prev h.start h.inner (h.rec ∷ flat_on hs (g.inner ++ g.rec ∷ [])) long are.0.fills
    ∙ ap (λ b. cond b (Some h.start) (lowest_hole len (h.rec.to + h.rec.len) (flat_on hs (g.inner ++ g.rec ∷ [])))) t.1 ∙ ap Some (sym t.0)
lowest_takes (suc j) len at prev takes (h ∷ hs) g long are is t =
    through len prev h.start h.inner (h.rec ∷ flat_on hs (g.inner ++ g.rec ∷ [])) long are.0.fills
    ∙ ap (λ b. cond b (Some h.start) (lowest_hole len (h.rec.to + h.rec.len) (flat_on hs (g.inner ++ g.rec ∷ [])))) t.0
    ∙ lowest_takes j len at (h.rec.to + h.rec.len) (λ n. takes n || fits_hole n (size h)) hs g long are.1 is t.1

-- where no hole takes it
pub lowest_refused : (len prev : ℕ) (takes : ℕ → Bool) (init : List Group) (g : Group) → 25 ≤ len → AreGroups prev takes init → IsGroup (end_on prev init) (takes_on takes init) g → Refuse len init g
    → lowest_hole len prev (flat_on init (g.inner ++ g.rec ∷ [])) ≡ None
lowest_refused len prev takes [] g long are is unfit =
    through len prev g.start g.inner (g.rec ∷ []) long is.fills ∙ ap (λ b. cond b (Some g.start) None) unfit
lowest_refused len prev takes (h ∷ hs) g long are is unfit =
    through len prev h.start h.inner (h.rec ∷ flat_on hs (g.inner ++ g.rec ∷ [])) long are.0.fills
    ∙ ap (λ b. cond b (Some h.start) (lowest_hole len (h.rec.to + h.rec.len) (flat_on hs (g.inner ++ g.rec ∷ [])))) unfit.0
    ∙ lowest_refused len (h.rec.to + h.rec.len) (λ n. takes n || fits_hole n (size h)) hs g long are.1 is unfit.1

takes_less : (takes : ℕ → Bool) (init : List Group) (len : ℕ) → takes_on takes init len ≡ false → takes len ≡ false
takes_less takes [] len h = h
takes_less takes (g ∷ gs) len h = or_left (takes len) (fits_hole len (size g)) (takes_less (λ n. takes n || fits_hole n (size g)) gs len h)

-- a record that no hole of these groups takes, where records without a gap come behind them
pub lowest_barred : (len prev start : ℕ) (takes : ℕ → Bool) (init : List Group) (inner : List Move) → 25 ≤ len → AreGroups prev takes init → Fills (end_on prev init) inner start → takes_on takes init len ≡ false
    → lowest_hole len prev (flat_on init inner) ≡ None
lowest_barred len prev start takes [] [] long are fills unfit = refl
lowest_barred len prev start takes [] (m ∷ ms) long are fills unfit =
    ap (λ b. cond b (Some prev) (lowest_hole len (m.to + m.len) ms)) (no_room len (m.to - prev) long (omega (arith, fills.0)))
    ∙ lowest_barred len (m.to + m.len) start takes [] ms long tt fills.2 unfit
lowest_barred len prev start takes (h ∷ hs) inner long are fills unfit =
    through len prev h.start h.inner (h.rec ∷ flat_on hs inner) long are.0.fills
    ∙ ap (λ b. cond b (Some h.start) (lowest_hole len (h.rec.to + h.rec.len) (flat_on hs inner))) (or_right (takes len) (fits_hole len (size h)) (takes_less (λ n. takes n || fits_hole n (size h)) hs len unfit))
    ∙ lowest_barred len (h.rec.to + h.rec.len) start (λ n. takes n || fits_hole n (size h)) hs inner long are.1 fills unfit

-- the place of a record that moves

pub reach : (from start : ℕ) (ms : List Move) → Fills from ms start → from ≤ start
reach from start [] fills = omega (arith, fills)
reach from start (m ∷ ms) fills = omega (arith, fills.0, reach (m.to + m.len) start ms fills.2)

behind : (r : Move) (prev start : ℕ) (inner rest : List Move) → Fills prev inner start → start ≤ r.to → with_placed r (inner ++ rest) ≡ inner ++ with_placed r rest
behind r prev start [] rest fills below = refl
behind r prev start (m ∷ ms) rest fills below =
    ap (λ b. cond b (r ∷ m ∷ (ms ++ rest)) (m ∷ with_placed r (ms ++ rest))) (not_before r.to m.to (omega (arith, fills.0, reach (m.to + m.len) start ms fills.2)))
    ∙ ap (λ l. m ∷ l) (behind r (m.to + m.len) start ms rest fills.2 below)

last_behind : (r : Move) (prev start : ℕ) (inner : List Move) → Fills prev inner start → start ≤ r.to → with_placed r inner ≡ inner ++ r ∷ []
last_behind r prev start [] fills below = refl
last_behind r prev start (m ∷ ms) fills below =
    ap (λ b. cond b (r ∷ m ∷ ms) (m ∷ with_placed r ms)) (not_before r.to m.to (omega (arith, fills.0, reach (m.to + m.len) start ms fills.2)))
    ∙ ap (λ l. m ∷ l) (last_behind r (m.to + m.len) start ms fills.2 below)

-- a hole of groups begins behind the place where they begin
beyond : (j len at prev : ℕ) (takes : ℕ → Bool) (init : List Group) (g : Group) → AreGroups prev takes init → IsGroup (end_on prev init) (takes_on takes init) g → Takes j len at init g → prev ≤ at
beyond zero len at prev takes [] g are is t = omega (arith, t.0, reach prev g.start g.inner is.fills)
beyond (suc j) len at prev takes [] g are is t = absurd t
beyond zero len at prev takes (h ∷ hs) g are is t = omega (arith, t.0, reach prev h.start h.inner are.0.fills)
beyond (suc j) len at prev takes (h ∷ hs) g are is t =
    omega (arith, reach prev h.start h.inner are.0.fills, are.0.before, beyond j len at (h.rec.to + h.rec.len) (λ n. takes n || fits_hole n (size h)) hs g are.1 is t.1)

-- the record that moves stands among the others where its hole began
pub placed : (j : ℕ) (r : Move) (prev : ℕ) (takes : ℕ → Bool) (init : List Group) (g : Group) → 25 ≤ r.len → AreGroups prev takes init → IsGroup (end_on prev init) (takes_on takes init) g → Takes j r.len r.to init g
    → with_placed r (flat_on init g.inner) ≡ flat_on (filled j r init g).init (filled j r init g).last.inner
placed zero r prev takes [] g long are is t = last_behind r prev g.start g.inner is.fills (omega (arith, t.0))
placed (suc j) r prev takes [] g long are is t = absurd t
placed zero r prev takes (h ∷ hs) g long are is t =
    let within = fits_within r.len (size h) t.1 in
    behind r prev h.start h.inner (h.rec ∷ flat_on hs g.inner) are.0.fills (omega (arith, t.0))
    ∙ ap (λ b. h.inner ++ cond b (r ∷ h.rec ∷ flat_on hs g.inner) (h.rec ∷ with_placed r (flat_on hs g.inner))) (before_it r.to h.rec.to (omega (arith, t.0, within, long)))
    ∙ sym (append_assoc h.inner (r ∷ []) (h.rec ∷ flat_on hs g.inner))
placed (suc j) r prev takes (h ∷ hs) g long are is t =
    let later = beyond j r.len r.to (h.rec.to + h.rec.len) (λ n. takes n || fits_hole n (size h)) hs g are.1 is t.1 in
    behind r prev h.start h.inner (h.rec ∷ flat_on hs g.inner) are.0.fills (omega (arith, are.0.before, later))
    ∙ ap (λ b. h.inner ++ cond b (r ∷ h.rec ∷ flat_on hs g.inner) (h.rec ∷ with_placed r (flat_on hs g.inner))) (not_before r.to h.rec.to (omega (arith, later)))
    ∙ ap (λ l. h.inner ++ (h.rec ∷ l)) (placed j r (h.rec.to + h.rec.len) (λ n. takes n || fits_hole n (size h)) hs g long are.1 is t.1)

-- what holds of the groups after a move

more_fills : (r : Move) (prev start : ℕ) (ms : List Move) → Fills prev ms start → r.to ≡ start → 25 ≤ r.len → Fills prev (ms ++ r ∷ []) (start + r.len)
more_fills r prev start [] fills at long = (at ∙ sym fills, long, ap (λ n. n + r.len) at)
more_fills r prev start (m ∷ ms) fills at long = (fills.0, fills.1, more_fills r (m.to + m.len) start ms fills.2 at long)

more_barred : (r : Move) (takes : ℕ → Bool) (ms : List Move) → AreBarred takes ms → takes r.len ≡ false → AreBarred takes (ms ++ r ∷ [])
more_barred r takes [] barred unfit = (unfit, tt)
more_barred r takes (m ∷ ms) barred unfit = (barred.0, more_barred r takes ms barred.1 unfit)

put_group : (r : Move) (prev : ℕ) (takes : ℕ → Bool) (g : Group) → IsGroup prev takes g → r.to ≡ g.start → 25 ≤ r.len → r.len ≤ size g → takes r.len ≡ false → IsGroup prev takes (put r g)
put_group r prev takes g is at long within unfit = record {
  fills = more_fills r prev g.start g.inner is.fills at long;
  barred = more_barred r takes g.inner is.barred unfit;
  before = omega (arith, within, is.before, long);
  long = is.long;
  short = is.short;
}

-- lengths that holes don't take, others don't take either
abbrev TakeLess : (ℕ → Bool) → (ℕ → Bool) → Type 0
TakeLess a b = (len : ℕ) → 25 ≤ len → a len ≡ false → b len ≡ false

fewer_barred : (a b : ℕ → Bool) (prev start : ℕ) (ms : List Move) → TakeLess a b → Fills prev ms start → AreBarred a ms → AreBarred b ms
fewer_barred a b prev start [] less fills barred = tt
fewer_barred a b prev start (m ∷ ms) less fills barred = (less m.len fills.1 barred.0, fewer_barred a b (m.to + m.len) start ms less fills.2 barred.1)

fewer_group : (a b : ℕ → Bool) (prev : ℕ) (g : Group) → TakeLess a b → IsGroup prev a g → IsGroup prev b g
fewer_group a b prev g less is = record {
  fills = is.fills;
  barred = fewer_barred a b prev g.start g.inner less is.fills is.barred;
  before = is.before;
  long = is.long;
  short = is.short;
}

with_hole : (a b : ℕ → Bool) (one other : ℕ) → TakeLess a b → ((len : ℕ) → 25 ≤ len → fits_hole len one ≡ false → fits_hole len other ≡ false) → TakeLess (λ n. a n || fits_hole n one) (λ n. b n || fits_hole n other)
with_hole a b one other less hole len long unfit =
    or_false (b len) (fits_hole len other) (less len long (or_left (a len) (fits_hole len one) unfit)) (hole len long (or_right (a len) (fits_hole len one) unfit))

fewer_groups : (a b : ℕ → Bool) (prev : ℕ) (gs : List Group) → TakeLess a b → AreGroups prev a gs → AreGroups prev b gs
fewer_groups a b prev [] less are = tt
fewer_groups a b prev (g ∷ gs) less are =
    (fewer_group a b prev g less are.0, fewer_groups (λ n. a n || fits_hole n (size g)) (λ n. b n || fits_hole n (size g)) (g.rec.to + g.rec.len) gs (with_hole a b (size g) (size g) less (λ len long unfit. unfit)) are.1)

fewer_on : (a b : ℕ → Bool) (gs : List Group) → TakeLess a b → TakeLess (takes_on a gs) (takes_on b gs)
fewer_on a b [] less = less
fewer_on a b (g ∷ gs) less = fewer_on (λ n. a n || fits_hole n (size g)) (λ n. b n || fits_hole n (size g)) gs (with_hole a b (size g) (size g) less (λ len long unfit. unfit))

pub record Are (prev : ℕ) (takes : ℕ → Bool) (s : Split) : Type 0 where
  pub init : AreGroups prev takes s.init
  pub last : IsGroup (end_on prev s.init) (takes_on takes s.init) s.last

less_room : (r : Move) (h : Group) → 25 ≤ r.len → r.len ≤ size h → (len : ℕ) → 25 ≤ len → fits_hole len (size h) ≡ false → fits_hole len (size (put r h)) ≡ false
less_room r h some within len long unfit =
    let left : size h - r.len ≡ size (put r h) = omega arith in
    subst (λ n. fits_hole len n ≡ false) left (shrunk len (size h) r.len long some within unfit)

-- a record that goes to the lowest hole that may take it leaves groups
pub kept : (j : ℕ) (r : Move) (prev : ℕ) (takes : ℕ → Bool) (init : List Group) (g : Group) → 25 ≤ r.len → AreGroups prev takes init → IsGroup (end_on prev init) (takes_on takes init) g → Takes j r.len r.to init g → takes r.len ≡ false
    → Are prev takes (filled j r init g)
kept zero r prev takes [] g long are is t unfit = record { init = tt; last = put_group r prev takes g is t.0 long (fits_within r.len (size g) t.1) unfit }
kept (suc j) r prev takes [] g long are is t unfit = absurd t
kept zero r prev takes (h ∷ hs) g long are is t unfit =
    let within = fits_within r.len (size h) t.1 in
    let a : ℕ → Bool = λ n. takes n || fits_hole n (size h) in
    let b : ℕ → Bool = λ n. takes n || fits_hole n (size (put r h)) in
    let less : TakeLess a b = with_hole takes takes (size h) (size (put r h)) (λ len some none. none) (less_room r h long within) in
    record {
      init = (put_group r prev takes h are.0 t.0 long within unfit, fewer_groups a b (h.rec.to + h.rec.len) hs less are.1);
      last = fewer_group (takes_on a hs) (takes_on b hs) (end_on (h.rec.to + h.rec.len) hs) g (fewer_on a b hs less) is;
    }
kept (suc j) r prev takes (h ∷ hs) g long are is t unfit =
    let rest = kept j r (h.rec.to + h.rec.len) (λ n. takes n || fits_hole n (size h)) hs g long are.1 is t.1 (or_false (takes r.len) (fits_hole r.len (size h)) unfit t.0) in
    record { init = (are.0, rest.init); last = rest.last }

-- what the code keeps of groups

pub starts_of-filled : (j at : ℕ) (r : Move) (init : List Group) (g : Group) → Takes j r.len at init g
    → map (λ (g : Group). g.start) (filled j r init g).init ++ (filled j r init g).last.start ∷ []
    ≡ set (map (λ (g : Group). g.start) init ++ g.start ∷ []) j (get_or (map (λ (g : Group). g.start) init ++ g.start ∷ []) j 0 + r.len)
starts_of-filled zero at r [] g t = refl
starts_of-filled (suc j) at r [] g t = absurd t
starts_of-filled zero at r (h ∷ hs) g t = refl
starts_of-filled (suc j) at r (h ∷ hs) g t = ap (λ l. h.start ∷ l) (starts_of-filled j at r hs g t.1)

less_left : (r : Move) (g : Group) → size (put r g) ≡ size g - r.len
less_left r g = omega arith

pub sizes_of-filled : (j at : ℕ) (r : Move) (init : List Group) (g : Group) → Takes j r.len at init g
    → map size (filled j r init g).init ++ size (filled j r init g).last ∷ []
    ≡ set (map size init ++ size g ∷ []) j (get_or (map size init ++ size g ∷ []) j 0 - r.len)
sizes_of-filled zero at r [] g t = ap (λ n. n ∷ []) (less_left r g)
sizes_of-filled (suc j) at r [] g t = absurd t
sizes_of-filled zero at r (h ∷ hs) g t = ap (λ n. n ∷ (map size hs ++ size g ∷ [])) (less_left r h)
sizes_of-filled (suc j) at r (h ∷ hs) g t = ap (λ l. size h ∷ l) (sizes_of-filled j at r hs g t.1)

pub recs_of-filled : (j : ℕ) (r : Move) (init : List Group) (g : Group) → map (λ (g : Group). g.rec) (filled j r init g).init ≡ map (λ (g : Group). g.rec) init
recs_of-filled zero r [] g = refl
recs_of-filled (suc j) r [] g = refl
recs_of-filled zero r (h ∷ hs) g = refl
recs_of-filled (suc j) r (h ∷ hs) g = ap (λ l. h.rec ∷ l) (recs_of-filled j r hs g)

-- the records that were moved
abbrev pub inners_on : List Group → List Move → List Move
inners_on [] tail = tail
inners_on (g ∷ gs) tail = g.inner ++ inners_on gs tail

pub inners_of-filled : (j len at : ℕ) (r : Move) (init : List Group) (g : Group) → Takes j len at init g → IsPermutation (r ∷ inners_on init g.inner) (inners_on (filled j r init g).init (filled j r init g).last.inner)
inners_of-filled zero len at r [] g t = IsPermutation-sym (g.inner ++ r ∷ []) (r ∷ g.inner) (IsPermutation-to_front g.inner r)
inners_of-filled (suc j) len at r [] g t = absurd t
inners_of-filled zero len at r (h ∷ hs) g t =
    subst (IsPermutation (r ∷ (h.inner ++ inners_on hs g.inner))) (sym (append_assoc h.inner (r ∷ []) (inners_on hs g.inner)))
    (IsPermutation-sym (h.inner ++ r ∷ inners_on hs g.inner) (r ∷ (h.inner ++ inners_on hs g.inner)) (IsPermutation-middle h.inner r (inners_on hs g.inner)))
inners_of-filled (suc j) len at r (h ∷ hs) g t =
    IsPermutation-trans (r ∷ (h.inner ++ inners_on hs g.inner)) (h.inner ++ r ∷ inners_on hs g.inner) (h.inner ++ inners_on (filled j r hs g).init (filled j r hs g).last.inner)
    (IsPermutation-sym (h.inner ++ r ∷ inners_on hs g.inner) (r ∷ (h.inner ++ inners_on hs g.inner)) (IsPermutation-middle h.inner r (inners_on hs g.inner)))
    (IsPermutation-append_right h.inner (r ∷ inners_on hs g.inner) (inners_on (filled j r hs g).init (filled j r hs g).last.inner) (inners_of-filled j len at r hs g t.1))

-- where nothing was moved into the last hole, there is a group before it
pub some_left : (j len at : ℕ) (r : Move) (init : List Group) (g : Group) → Takes j len at init g → length (filled j r init g).last.inner ≡ 0 → 0 < length (filled j r init g).init
some_left zero len at r [] g t e = absurd (omega (arith, length-append g.inner (r ∷ []), e))
some_left (suc j) len at r [] g t e = absurd t
some_left zero len at r (h ∷ hs) g t e = omega arith
some_left (suc j) len at r (h ∷ hs) g t e = omega arith
