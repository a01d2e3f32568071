-- What goes, and the segment that it goes from.
use Prim.Native.Nat.{zero, suc}
use Rattle.std.proofs.Common.{◌≡◌, ⊎_elim, ℕ, ◌+◌, ◌<◌, Bool, true, false, not, cond, List, [], ◌∷◌, length, filter, map, Option, Some, None, Result, Err, IfErr, refl, sym, ap, ◌∙◌, subst, arith}
use Rattle.std.specs.Prelude.{Contains, ◌==◌, nat_lt, slice_get, slice_index_or, if◌then◌else◌}
use Rattle.std.specs.List.{position_or_len}
use Rattle.std.proofs.lemmas.Bool.{and_parts, eq-eqb, eqb-true}
use Rattle.std.proofs.lemmas.Bool.Decides.{nat_tests}
use Rattle.std.proofs.lemmas.List.{length-map}
use Rattle.std.proofs.lemmas.List.Elements.{All-contains_itself}
use Rattle.std.proofs.lemmas.List.Quantifiers.{position-Some}
use Rattle.cq_disk.specs.declared.name.Name.{Name}
use Rattle.cq_disk.specs.File.{File}
use Rattle.cq_index.specs.Places.{index_name}
use Rattle.cq_journal.specs.Lists.{IsIn}
use Rattle.cq_folder.specs.Holding.{AreAtPlaces}
use Rattle.cq_folder.specs.Queue.{content_in, listed_in}
use Rattle.cq_folder.proofs.Sublists.{in_append}
use Rattle.cq_items.specs.Item.{Item}
use Rattle.cq_items.specs.Items.{at_of, lowest_segment, others_in, others_items, segment_of, settles, settling_ids, settling_in, settling_of, settling_places}
use Rattle.cq_items.proofs.Settled.{others-none}
use Rattle.cq_queue.specs.declared.error.QueueError.{QueueError}
use Rattle.cq_queue.specs.declared.error.QueueError.TheVariants.{Memory}
use Rattle.cq_queue.specs.declared.segment.QueueSegment.{QueueSegment}
use Rattle.cq_queue.specs.QueueSegment.{CanLose, index_in, present_of}
use Rattle.cq_queue.specs.Lists.{AreSegments, place_in}
use Rattle.cq_queue.specs.QueueCalls.{Leaves, calls_to_settle}
use Rattle.cq_queue.specs.Values.{IsUnchanged, QueueValue}
use Rattle.cq_queue.specs.Tied.{IsTied, AreInPlace, listed, standing_at}
use Rattle.cq_queue.proofs.Changes.{all_at, some_same}
use Rattle.cq_queue.proofs.Lowest.{goes, going, going_rise, in_listed, is_present, others_is, settling_is, some_go, stand_is, stay_items}
use Rattle.cq_queue.proofs.Order.{AreApart, AreInOrder, are_apart, listed_order}
use Rattle.cq_queue.proofs.Settling.{found_going, has_contains, stands_in}
use Rattle.cq_queue.proofs.Spots.{those_at_places}

none_some : {A : Type 0} (a : A) → None ≡ Some a → ⊥
none_some a e = cc

-- the place of a segment that lists something is found
found_below : (ps : List QueueSegment) (n k : ℕ) → IsIn (listed ps) (n, k) → position_or_len (λ (s : QueueSegment). s.number == n) ps < length ps
found_below [] n k there = absurd there
found_below (q ∷ ps) n k there = (elim (q.number == n) as (λ (b : Bool). (q.number == n) ≡ b → cond (not b) (1 + position_or_len (λ (s : QueueSegment). s.number == n) ps) 0 < suc (length ps)) [
  | true ↦ λ own. omega arith
  | false ↦ λ other. ⊎_elim
      (λ own. absurd (no_true (q.number == n) other (eq-eqb q.number n (in_listed q.number (present_of q) n k own).0)))
      (λ later. let lt = found_below ps n k later in omega (arith, lt))
      (in_append (listed_in q.number (present_of q)) (listed ps) (n, k) there)
]) refl
  where
    no_true : (b : Bool) → b ≡ false → b ≡ true → ⊥
    no_true true no' yes' = cc
    no_true false no' yes' = cc

-- one that was found before the end has a place
pub has_place : (ps : List QueueSegment) (n : ℕ) → position_or_len (λ (s : QueueSegment). s.number == n) ps < length ps → place_in n ps ≡ None → ⊥
has_place ps n below none = is_some_none (position_or_len (λ (s : QueueSegment). s.number == n) ps) (length ps) below none
  where
    test : (a b : ℕ) → a < b → nat_lt a b ≡ true
    test a b lt = grind (arith, nat_tests)

    clash_none : {A : Type 0} (a : A) → Some a ≡ None → ⊥
    clash_none a e = cc

    is_some_none : (a b : ℕ) → a < b → cond (nat_lt a b) (Some a) None ≡ None → ⊥
    is_some_none a b lt none = clash_none a (sym (ap (λ (c : Bool). cond c (Some a) None) (test a b lt)) ∙ none)

pub never_missing : (ps : List QueueSegment) (n k : ℕ) → IsIn (listed ps) (n, k) → place_in n ps ≡ None → ⊥
never_missing ps n k there none = has_place ps n (found_below ps n k there) none

-- one that stands there has this number
pub number_at : (ps : List QueueSegment) (n i : ℕ) (p : QueueSegment) → place_in n ps ≡ Some i → slice_get ps i ≡ Some p → p.number ≡ n
number_at ps n i p found is = eqb-true p.number n (at_get ps i p is (position-Some (λ (s : QueueSegment). s.number == n) ps i p found).1)
  where
    at_get : (qs : List QueueSegment) (j : ℕ) (q : QueueSegment) → slice_get qs j ≡ Some q → (slice_index_or qs j q).number == n ≡ true → (q.number == n) ≡ true
    at_get [] j q at yes' = absurd (none_some q at)
    at_get (r ∷ qs) zero q at yes' = subst (λ (s : QueueSegment). (s.number == n) ≡ true) (some_same r q at) yes'
    at_get (r ∷ qs) (suc j) q at yes' = at_get qs j q at yes'

pub found_within : (ps : List QueueSegment) (n i : ℕ) → place_in n ps ≡ Some i → i < length ps
found_within [] n i found = absurd (none_some i found)
found_within (q ∷ ps) n i found = (position-Some (λ (s : QueueSegment). s.number == n) (q ∷ ps) i q found).0

-- some segment stands within the list
pub within_get : (ps : List QueueSegment) (i : ℕ) → i < length ps → (p : QueueSegment) × (slice_get ps i ≡ Some p)
within_get [] i lt = absurd (omega (arith, lt))
within_get (q ∷ ps) zero lt = (q, refl)
within_get (q ∷ ps) (suc i) lt = within_get ps i (omega (arith, lt))

-- each place of one that goes is one that the segments list
going_listed : (n : ℕ) (items : List Item) (ps : List QueueSegment) → standing_at items ≡ listed ps → (k : ℕ) → Contains (going n items) k → IsIn (listed ps) (n, k)
going_listed n items ps listing k has =
    let f = found_going n items k (has_contains (going n items) k has) in
    let parts = and_parts (settles f.0) (segment_of f.0.stand == n) f.1.1.0 in
    let s = stand_is f.0 parts.0 in
    let number : s.0.segment ≡ n = ap segment_of (sym s.1) ∙ eqb-true (segment_of f.0.stand) n parts.1 in
    let place : s.0.at ≡ k = ap at_of (sym s.1) ∙ f.1.1.1 in
    subst (λ (l : List (ℕ × ℕ)). IsIn l (n, k)) listing
    (subst (λ (m : ℕ). IsIn (standing_at items) (m, k)) number (subst (λ (j : ℕ). IsIn (standing_at items) (s.0.segment, j)) place (stands_in items f.0 s.0 f.1.0 s.1)))

-- what a settling is told, of messages that are tied to segments
module _ (items : List Item) (ps : List QueueSegment) (queue n : ℕ) (tied : IsTied items ps) (are : AreSegments queue ps) (lowest : lowest_segment items ≡ Some n) where
  pub ordered : AreInOrder (standing_at items)
  ordered = subst AreInOrder (sym tied.listing) (listed_order ps are.1)

  pub apart_ones : AreApart (standing_at items)
  apart_ones = are_apart (standing_at items) ordered

  settling_go : settling_in (lowest_segment items) items ≡ filter (goes n) items
  settling_go = ap (λ (o : Option ℕ). settling_in o items) lowest ∙ settling_is n items lowest ordered

  pub places_go : settling_places items ≡ going n items
  places_go = ap (map (λ (i : Item). at_of i.stand)) settling_go

  pub ids_go : settling_ids items ≡ map (λ (i : Item). i.id) (filter (goes n) items)
  ids_go = ap (map (λ (i : Item). i.id)) settling_go

  pub others_stay : others_items items ≡ stay_items n items
  others_stay = ap (λ (o : Option ℕ). others_in o items) lowest ∙ others_is n items lowest ordered

  -- as many calls as places, and one
  pub calls_are : length (settling_places items) + 1 ≡ calls_to_settle (settling_ids items)
  calls_are = of_ids (settling_ids items) (length-map (settling_of items) (λ (i : Item). i.id) ∙ sym (length-map (settling_of items) (λ (i : Item). at_of i.stand))) (subst (λ (l : List ℕ). 0 < length l) (sym places_go) (some_go n items lowest))
    where
      of_ids : (ids : List ℕ) → length ids ≡ length (settling_places items) → 0 < length (settling_places items) → length (settling_places items) + 1 ≡ calls_to_settle ids
      of_ids [] long some = absurd (omega (arith, long, some))
      of_ids (x ∷ ids) long some = omega (arith, long)

  first_one : (k : ℕ) × IsIn (listed ps) (n, k)
  first_one = of_list (going n items) (some_go n items lowest) (λ k has. going_listed n items ps tied.listing k has)
    where
      of_list : (ks : List ℕ) → 0 < length ks → ((k : ℕ) → Contains ks k → IsIn (listed ps) (n, k)) → (k : ℕ) × IsIn (listed ps) (n, k)
      of_list [] some each = absurd (omega (arith, some))
      of_list (k ∷ ks) some each = (k, each k (0, omega arith, refl))

  pub is_found : place_in n ps ≡ None → ⊥
  is_found none = let f = first_one in never_missing ps n f.0 f.1 none

  module _ (i : ℕ) (found : place_in n ps ≡ Some i) where
    pub within : i < length ps
    within = found_within ps n i found

    pub the_segment : (p : QueueSegment) × (slice_get ps i ≡ Some p)
    the_segment = within_get ps i within

    pub can_lose : (p : QueueSegment) → slice_get ps i ≡ Some p → CanLose p (settling_places items)
    can_lose p is = subst (CanLose p) (sym places_go) (record {
      some = some_go n items lowest;
      rising = going_rise n items ordered;
      present = λ k d lt. is_present ps i p n (slice_index_or (going n items) k d) is (number_at ps n i p found is) are.1 (going_listed n items ps tied.listing (slice_index_or (going n items) k d) (All-contains_itself (going n items) k d lt));
    })

    -- the entries at those places are those of the ids that are told
    pub at_places : (files : Name → Option File) → AreInPlace queue files items → (p : QueueSegment) → slice_get ps i ≡ Some p → AreAtPlaces (index_in files p) (settling_places items) (settling_ids items)
    at_places files stand p is =
        let own : p.queue ≡ queue = all_at (λ (s : QueueSegment). s.queue ≡ queue) ps i p is are.0 in
        let number : p.number ≡ n = number_at ps n i p found is in
        both_same (going n items) (settling_places items) (map (λ (j : Item). j.id) (filter (goes n) items)) (settling_ids items) (sym places_go) (sym ids_go) (index_in files p)
        (subst (λ (q : ℕ). AreAtPlaces (content_in (files (index_name q p.number))) (going n items) (map (λ (j : Item). j.id) (filter (goes n) items))) (sym own)
        (subst (λ (m : ℕ). AreAtPlaces (content_in (files (index_name queue m))) (going n items) (map (λ (j : Item). j.id) (filter (goes n) items))) (sym number) (those_at_places queue n files items stand)))
      where
        both_same : (at at' ids ids' : List ℕ) → at ≡ at' → ids ≡ ids' → (content : List ℕ) → AreAtPlaces content at ids → AreAtPlaces content at' ids'
        both_same at at' ids ids' same_at same_ids content are = subst (λ (l : List ℕ). AreAtPlaces content l ids') same_at (subst (AreAtPlaces content at) same_ids are)

-- ---- where nothing settles

none_settling : (items : List Item) → settling_in None items ≡ []
none_settling [] = refl
none_settling (i ∷ is) = (elim (settles i) as (λ (b : Bool). (if b then [] else settling_in None is) ≡ []) [
  | true ↦ refl
  | false ↦ none_settling is
])

pub none_ids : (items : List Item) → lowest_segment items ≡ None → settling_ids items ≡ []
none_ids items none = ap (map (λ (i : Item). i.id)) (ap (λ (o : Option ℕ). settling_in o items) none ∙ none_settling items)

pub none_others : (items : List Item) → lowest_segment items ≡ None → others_items items ≡ items
none_others items none = ap (λ (o : Option ℕ). others_in o items) none ∙ others-none items

-- without memory nothing has changed
pub err_memory : {T : Type 0} (r : Result T QueueError) (old new : QueueValue) (P : Type 0) → r ≡ Err Memory → IsUnchanged old new → P → IfErr r (Leaves old new P)
err_memory r old new P is same p = subst (λ (x : Result _ QueueError). IfErr x (Leaves old new P)) (sym is) (same, p)
