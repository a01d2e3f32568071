-- One move of the last record that stands, as the code makes it.
use Rattle.std.proofs.Common.{◌≡◌, ◌≢◌, ℕ, zero, suc, ◌+◌, ◌-◌, ◌≤◌, ◌<◌, ◌^◌, Bool, List, [], ◌∷◌, ◌++◌, length, reverse, get_or, set, take, Result, Ok, Err, IfOk, sym, ap, subst, ◌∙◌, arith, length-append}
use Rattle.std.proofs.lemmas.List.{take_more, length-map, length-set, get_or_default}
use Rattle.std.proofs.Math.Seq.{take-length}
use Rattle.std.specs.declared.alloc.AllocError.{AllocError}
use Rattle.cq_block.specs.declared.layout.Move.{Move}
use Rattle.cq_pack.specs.declared.Packing.{Packing}
use Rattle.cq_pack.specs.Packing.{fits_hole, end_of, IsPacking}
use Rattle.cq_pack.specs.Holes.{IsLowest, NoneTakes}
use Rattle.cq_pack.proofs.Groups.{Group, size, end_on, none, AreGroups, Takes}
use Rattle.cq_pack.proofs.Going.{Going, Open, After, rec_of, start_of, opened, stopped, after, goes_on, moved_last, takes_from, end_of-recs}

-- a list by its last element
pub last_split : {A : Type 0} (xs : List A) (d : A) → 0 < length xs → xs ≡ take (length xs - 1) xs ++ get_or xs (length xs - 1) d ∷ []
last_split xs d some =
    let n : length xs - 1 + 1 ≡ length xs = omega (arith, some) in
    sym (take-length xs) ∙ ap (λ k. take k xs) (sym n) ∙ take_more xs (length xs - 1) d (omega (arith, some))

pub front_len : {A : Type 0} (xs : List A) (d : A) → 0 < length xs → length (take (length xs - 1) xs) + 1 ≡ length xs
front_len xs d some = sym (length-append (take (length xs - 1) xs) (get_or xs (length xs - 1) d ∷ [])) ∙ sym (ap length (last_split xs d some))

-- the records that stand but the last
abbrev pub front : List Move → List Move
front standing = take (length standing - 1) standing

-- the last record that stands
abbrev pub last : List Move → Move
last standing = get_or standing (length standing - 1) (record { id = 0; from = 0; to = 0; len = 0 })

pub open_last : (records standing moved : List Move) (starts sizes : List ℕ) → Going records standing moved starts sizes → Open records (front standing) (last standing) moved starts sizes
open_last records standing moved starts sizes going = opened records standing moved (front standing) (last standing) starts sizes going (last_split standing (record { id = 0; from = 0; to = 0; len = 0 }) going.some)

-- the bounds of the numbers
pub record Bounds (standing : List Move) (starts sizes : List ℕ) : Type 0 where
  pub long : 25 ≤ (last standing).len
  pub ends : (last standing).to + (last standing).len ≤ 2 ^ 62
  pub front_ends : end_of (front standing) ≤ 2 ^ 62
  pub starts_len : length starts ≡ length standing
  pub sizes_len : length sizes ≡ length standing
  pub front_len : length (front standing) + 1 ≡ length standing

end_on-below : (prev : ℕ) (takes : ℕ → Bool) (gs : List Group) → prev ≤ 2 ^ 62 → AreGroups prev takes gs → end_on prev gs ≤ 2 ^ 62
end_on-below prev takes [] below are = below
end_on-below prev takes (g ∷ gs) below are = end_on-below (g.rec.to + g.rec.len) _ gs are.0.short are.1

pub bounds : (records standing moved : List Move) (starts sizes : List ℕ) → Going records standing moved starts sizes → Bounds standing starts sizes
bounds records standing moved starts sizes going =
    let o = open_last records standing moved starts sizes going in
    record {
      long = subst (λ (m : Move). 25 ≤ m.len) o.rec o.are.last.long;
      ends = subst (λ (m : Move). m.to + m.len ≤ 2 ^ 62) o.rec o.are.last.short;
      front_ends = subst (λ n. n ≤ 2 ^ 62) (end_of-recs o.init ∙ ap end_of o.standing_are) (end_on-below 128 none o.init (omega arith) o.are.init);
      starts_len = sym (ap length going.starts_are) ∙ length-map going.groups start_of ∙ sym (length-map going.groups rec_of) ∙ ap length going.standing_are;
      sizes_len = sym (ap length going.sizes_are) ∙ length-map going.groups size ∙ sym (length-map going.groups rec_of) ∙ ap length going.standing_are;
      front_len = front_len standing (record { id = 0; from = 0; to = 0; len = 0 }) going.some;
    }

-- the record that moves
abbrev pub moved_to : List Move → List ℕ → ℕ → Move
moved_to standing starts j = record (last standing) { to = get_or starts j 0 }

hole_below : (j : ℕ) (init : List Group) (g : Group) (prev : ℕ) (takes : ℕ → Bool) (len at : ℕ) → AreGroups prev takes init → g.start ≤ g.rec.to → g.rec.to ≤ 2 ^ 62 → Takes j len at init g → at ≤ 2 ^ 62
hole_below zero [] g prev takes len at are before below t = omega (arith, t.0)
hole_below (suc j) [] g prev takes len at are before below t = absurd t
hole_below zero (h ∷ hs) g prev takes len at are before below t = omega (arith, t.0, are.0.before, are.0.short)
hole_below (suc j) (h ∷ hs) g prev takes len at are before below t = hole_below j hs g (h.rec.to + h.rec.len) _ len at are.1 before below t.1

-- the start of a hole
pub start_below : (records standing moved : List Move) (starts sizes : List ℕ) (j : ℕ) → Going records standing moved starts sizes → IsLowest (last standing).len sizes j → get_or starts j 0 ≤ 2 ^ 62
start_below records standing moved starts sizes j going lowest =
    let o = open_last records standing moved starts sizes going in
    let x = last standing in
    let t : Takes j x.len (get_or starts j 0) o.init o.last =
    subst (λ (l : List ℕ). Takes j x.len (get_or l j 0) o.init o.last) o.starts_are
    (takes_from j x.len o.init o.last
    (omega (arith, lowest.within, ap length o.sizes_are))
    (ap (λ l. fits_hole x.len (get_or l j 0)) o.sizes_are ∙ lowest.takes)
    (λ k below. ap (λ l. fits_hole x.len (get_or l k 0)) o.sizes_are ∙ lowest.lower k below))
    in
    hole_below j o.init o.last 128 none x.len (get_or starts j 0) o.are.init o.are.last.before (omega (arith, o.are.last.short)) t

-- where no hole takes the last record
pub stops : (records standing moved : List Move) (starts sizes : List ℕ) → Going records standing moved starts sizes → NoneTakes (last standing).len sizes → IsPacking records (standing ++ reverse moved) ((last standing).to + (last standing).len)
stops records standing moved starts sizes going refused =
    subst (λ l. IsPacking records (l ++ reverse moved) ((last standing).to + (last standing).len)) (sym (last_split standing (record { id = 0; from = 0; to = 0; len = 0 }) going.some))
    (stopped records (front standing) (last standing) moved starts sizes (open_last records standing moved starts sizes going) refused)

abbrev pub starts_after : List Move → List ℕ → ℕ → List ℕ
starts_after standing starts j = set starts j (get_or starts j 0 + (last standing).len)

abbrev pub sizes_after : List Move → List ℕ → ℕ → List ℕ
sizes_after standing sizes j = set sizes j (get_or sizes j 0 - (last standing).len)

after_move : (records standing moved : List Move) (starts sizes : List ℕ) (j : ℕ) → Going records standing moved starts sizes → IsLowest (last standing).len sizes j
    → After records (front standing) (moved ++ moved_to standing starts j ∷ []) (starts_after standing starts j) (sizes_after standing sizes j)
after_move records standing moved starts sizes j going lowest = after records (front standing) (last standing) moved starts sizes j (open_last records standing moved starts sizes going) lowest

-- where a moved record is the last one now
pub stops_moved : (records standing moved : List Move) (starts sizes : List ℕ) (j end : ℕ) → Going records standing moved starts sizes → IsLowest (last standing).len sizes j
    → end ≡ get_or (starts_after standing starts j) (length (front standing)) 0 → end ≢ end_of (front standing)
    → IsPacking records (front standing ++ reverse (moved ++ moved_to standing starts j ∷ [])) end
stops_moved records standing moved starts sizes j end going lowest is apart =
    let b = bounds records standing moved starts sizes going in
    let new = starts_after standing starts j in
    let len : length new ≡ length standing = length-set starts j (get_or starts j 0 + (last standing).len) ∙ b.starts_len in
    let at : length new - 1 ≡ length (front standing) = omega (arith, len, b.front_len) in
    moved_last records (front standing) (moved ++ moved_to standing starts j ∷ []) new (sizes_after standing sizes j) (take (length new - 1) new) end (after_move records standing moved starts sizes j going lowest)
    (last_split new 0 (omega (arith, len, going.some)) ∙ ap (λ n. take (length new - 1) new ++ n ∷ []) (ap (λ k. get_or new k 0) at ∙ sym is)) apart

-- where a record that stands is the last one again
pub goes : (records standing moved : List Move) (starts sizes : List ℕ) (j end : ℕ) → Going records standing moved starts sizes → IsLowest (last standing).len sizes j
    → end ≡ get_or (starts_after standing starts j) (length (front standing)) 0 → end ≡ end_of (front standing)
    → Going records (front standing) (moved ++ moved_to standing starts j ∷ []) (take (length (starts_after standing starts j) - 1) (starts_after standing starts j)) (take (length (sizes_after standing sizes j) - 1) (sizes_after standing sizes j))
goes records standing moved starts sizes j end going lowest is here =
    let b = bounds records standing moved starts sizes going in
    let new = starts_after standing starts j in
    let left = sizes_after standing sizes j in
    let len : length new ≡ length standing = length-set starts j (get_or starts j 0 + (last standing).len) ∙ b.starts_len in
    let many : length left ≡ length standing = length-set sizes j (get_or sizes j 0 - (last standing).len) ∙ b.sizes_len in
    let at : length new - 1 ≡ length (front standing) = omega (arith, len, b.front_len) in
    goes_on records (front standing) (moved ++ moved_to standing starts j ∷ []) new left (take (length new - 1) new) (take (length left - 1) left) end (get_or left (length left - 1) 0) (after_move records standing moved starts sizes j going lowest)
    (last_split new 0 (omega (arith, len, going.some)) ∙ ap (λ n. take (length new - 1) new ++ n ∷ []) (ap (λ k. get_or new k 0) at ∙ sym is))
    (last_split left 0 (omega (arith, many, going.some))) here

-- the answer of `packing`
pub answered : (r : Result Packing AllocError) (records moves : List Move) (end : ℕ) → IfOk r (λ p. p.moves.items ≡ moves) → IfOk r (λ p. p.new_end ≡ end) → IsPacking records moves end → IfOk r (λ p. IsPacking records p.moves.items p.new_end)
answered (Ok p) records moves end same ends is = subst (λ l. IsPacking records l p.new_end) (sym same) (subst (IsPacking records moves) (sym ends) is)
answered (Err e) records moves end same ends is = tt

-- the last record that stands, as the code reads it
pub is_last : (standing : List Move) (x : Move) (n : ℕ) → 0 < length standing → n ≡ length standing → x ≡ get_or standing (n - 1) x → x ≡ last standing
is_last standing x n some e is = is ∙ ap (λ k. get_or standing (k - 1) x) e ∙ get_or_default standing (length standing - 1) x (record { id = 0; from = 0; to = 0; len = 0 }) (omega (arith, some))

pub moved_is : (standing : List Move) (starts : List ℕ) (j : ℕ) (x : Move) (t : ℕ) → x ≡ last standing → t ≡ get_or starts j 0 → record x { to = t } ≡ moved_to standing starts j
moved_is standing starts j x t is at i = record (is i) { to = at i }

-- what one turn of the loop read and found
pub record Turn (records standing moved : List Move) (starts sizes : List ℕ) (j : ℕ) (x : Move) (to end n : ℕ) : Type 0 where
  pub going : Going records standing moved starts sizes
  pub is : x ≡ last standing
  pub lowest : IsLowest x.len sizes j
  pub at : to ≡ get_or starts j to
  pub count : n ≡ length (front standing)
  pub ends : end ≡ get_or (set starts j (to + x.len)) n end

turn_lowest : (records standing moved : List Move) (starts sizes : List ℕ) (j : ℕ) (x : Move) (to end n : ℕ) → Turn records standing moved starts sizes j x to end n → IsLowest (last standing).len sizes j
turn_lowest records standing moved starts sizes j x to end n t = subst (λ (m : Move). IsLowest m.len sizes j) t.is t.lowest

turn_at : (records standing moved : List Move) (starts sizes : List ℕ) (j : ℕ) (x : Move) (to end n : ℕ) → Turn records standing moved starts sizes j x to end n → to ≡ get_or starts j 0
turn_at records standing moved starts sizes j x to end n t =
    let b = bounds records standing moved starts sizes t.going in
    t.at ∙ get_or_default starts j to 0 (omega (arith, t.lowest.within, b.starts_len, b.sizes_len))

turn_end : (records standing moved : List Move) (starts sizes : List ℕ) (j : ℕ) (x : Move) (to end n : ℕ) → Turn records standing moved starts sizes j x to end n → end ≡ get_or (starts_after standing starts j) (length (front standing)) 0
turn_end records standing moved starts sizes j x to end n t =
    let b = bounds records standing moved starts sizes t.going in
    t.ends
    ∙ get_or_default (set starts j (to + x.len)) n end 0 (omega (arith, length-set starts j (to + x.len), b.starts_len, b.front_len, t.count))
    ∙ ap (λ k. get_or (set starts j (to + x.len)) k 0) t.count
    ∙ (λ i. get_or (set starts j (turn_at records standing moved starts sizes j x to end n t i + (t.is i).len)) (length (front standing)) 0)

-- where a moved record is the last one now
pub turn_stops : (records standing moved : List Move) (starts sizes : List ℕ) (j : ℕ) (x : Move) (to end n : ℕ) → Turn records standing moved starts sizes j x to end n → end ≢ end_of (front standing)
    → IsPacking records (front standing ++ reverse (moved ++ record x { to = to } ∷ [])) end
turn_stops records standing moved starts sizes j x to end n t apart =
    subst (λ (m : Move). IsPacking records (front standing ++ reverse (moved ++ m ∷ [])) end) (sym (moved_is standing starts j x to t.is (turn_at records standing moved starts sizes j x to end n t)))
    (stops_moved records standing moved starts sizes j end t.going (turn_lowest records standing moved starts sizes j x to end n t) (turn_end records standing moved starts sizes j x to end n t) apart)

-- where a record that stands is the last one again
pub turn_goes : (records standing moved : List Move) (starts sizes : List ℕ) (j : ℕ) (x : Move) (to end n : ℕ) → Turn records standing moved starts sizes j x to end n → end ≡ end_of (front standing)
    → Going records (front standing) (moved ++ record x { to = to } ∷ []) (take (length (set starts j (to + x.len)) - 1) (set starts j (to + x.len))) (take (length (set sizes j (get_or sizes j 0 - x.len)) - 1) (set sizes j (get_or sizes j 0 - x.len)))
turn_goes records standing moved starts sizes j x to end n t here =
    let at = turn_at records standing moved starts sizes j x to end n t in
    let new : starts_after standing starts j ≡ set starts j (to + x.len) = λ i. set starts j (sym at i + (sym t.is i).len) in
    let left : sizes_after standing sizes j ≡ set sizes j (get_or sizes j 0 - x.len) = λ i. set sizes j (get_or sizes j 0 - (sym t.is i).len) in
    subst (λ (m : Move). Going records (front standing) (moved ++ m ∷ []) (take (length (set starts j (to + x.len)) - 1) (set starts j (to + x.len))) (take (length (set sizes j (get_or sizes j 0 - x.len)) - 1) (set sizes j (get_or sizes j 0 - x.len)))) (sym (moved_is standing starts j x to t.is at))
    (subst (λ (l : List ℕ). Going records (front standing) (moved ++ moved_to standing starts j ∷ []) (take (length l - 1) l) (take (length (set sizes j (get_or sizes j 0 - x.len)) - 1) (set sizes j (get_or sizes j 0 - x.len)))) new
    (subst (λ (l : List ℕ). Going records (front standing) (moved ++ moved_to standing starts j ∷ []) (take (length (starts_after standing starts j) - 1) (starts_after standing starts j)) (take (length l - 1) l)) left
    (goes records standing moved starts sizes j end t.going (turn_lowest records standing moved starts sizes j x to end n t) (turn_end records standing moved starts sizes j x to end n t) here)))
