-- A plan of a commit, message by message.
use Prim.Native.Nat.{zero, suc}
use Rattle.std.proofs.Common.{◌≡◌, ℕ, ◌+◌, ◌*◌, ◌-◌, ◌<◌, ◌≤◌, ⊎_elim, cond, get_or, Bool, true, false, List, [], ◌∷◌, ◌++◌, length, drop, Some, None, refl, sym, ap, ◌∙◌, subst, arith, append_assoc, length-append}
use Rattle.std.specs.Prelude.{nat_lt, if◌then◌else◌, slice_get}
use Rattle.std.specs.List.{AllByRecursion}
use Rattle.std.proofs.lemmas.Bool.{cases_Bool, cases_lt}
use Rattle.cq_bytes.specs.Numbers.{contains}
use Rattle.cq_entry.specs.declared.entry.EntryKind.{EntryKind}
use Rattle.cq_entry.specs.declared.entry.EntryKind.TheVariants.{Small, Shared as SharedEntry}
use Rattle.cq_items.specs.Item.{Item}
use Rattle.cq_items.specs.declared.item.Passed.{Passed}
use Rattle.cq_items.specs.Items.{skips}
use Rattle.cq_queue.specs.declared.queue.planning.Plan.{Plan}
use Rattle.cq_queue.specs.Laid.{next_of, place_of}
use Rattle.cq_queue.specs.Passing.{IsReady, kept_items, passed_of}
use Rattle.cq_queue.specs.Planning.{IsReadBack, IsEmptyPlan, IsPlan, HasKept, HasPlanned, HasSkipped, entries_in, item_entry, item_record, records_in}
use Rattle.cq_queue.specs.Planning.HasPlanned.{Skips, Keeps, Stops}
use Rattle.cq_queue.proofs.Changes.{all_append, some_same, ge_of, lt_of}

-- what passed_of and kept_items say of one message
abbrev passed_by : Bool → Bool → ℕ → List Passed → List Passed → List Passed
passed_by skip room id skipped kept = if skip then record { id = id; kept = false } ∷ skipped else if room then record { id = id; kept = true } ∷ kept else []

abbrev kept_by : {A : Type 0} → Bool → Bool → A → List A → List A → List A
kept_by skip room x skipped kept = if skip then skipped else if room then x ∷ kept else []

pub lt_true : (a b : ℕ) → a < b → nat_lt a b ≡ true
lt_true a b less = ⊎_elim (λ (yes' : nat_lt a b ≡ true). yes') (λ (no' : nat_lt a b ≡ false). (let l = ge_of a b no' in absurd (omega (arith, l, less)))) (cases_Bool (nat_lt a b))

pub lt_false : (a b : ℕ) → b ≤ a → nat_lt a b ≡ false
lt_false a b most = ⊎_elim (λ (yes' : nat_lt a b ≡ true). (let l = lt_of a b yes' in absurd (omega (arith, l, most)))) (λ (no' : nat_lt a b ≡ false). no') (cases_Bool (nat_lt a b))

pub place_most : (kind : EntryKind) (base : ℕ) → place_of kind base ≤ base
place_most Small base = omega arith
place_most SharedEntry base = omega arith

pub room_true : (r : ℕ) → 0 < r → nat_lt 0 r ≡ true
room_true r some = lt_true 0 r some

pub next_most : (kind : EntryKind) (base len : ℕ) → next_of kind base len ≤ base + len + 5
next_most Small base len = omega arith
next_most SharedEntry base len = omega arith

nil_right : {A : Type 0} (xs : List A) → xs ++ [] ≡ xs
nil_right [] = refl
nil_right (x ∷ xs) = ap (λ ys. x ∷ ys) (nil_right xs)

join : {A : Type 0} (xs more ys rest all : List A) → ys ≡ xs ++ more → xs ++ (more ++ rest) ≡ all → ys ++ rest ≡ all
join xs more ys rest all e h = ap (λ l. l ++ rest) e ∙ append_assoc xs more rest ∙ h

module _ (skip : List ℕ) (i : Item) (is : List Item) where
  pub skip_passed : (r : ℕ) → skips (contains skip i.id) i ≡ true → passed_of skip r (i ∷ is) ≡ record { id = i.id; kept = false } ∷ passed_of skip r is
  skip_passed r yes' = ap (λ (b : Bool). passed_by b (nat_lt 0 r) i.id (passed_of skip r is) (passed_of skip (r - 1) is)) yes'

  pub skip_kept : (r : ℕ) → skips (contains skip i.id) i ≡ true → kept_items skip r (i ∷ is) ≡ kept_items skip r is
  skip_kept r yes' = ap (λ (b : Bool). kept_by b (nat_lt 0 r) i (kept_items skip r is) (kept_items skip (r - 1) is)) yes'

  pub keep_passed : (r : ℕ) → skips (contains skip i.id) i ≡ false → nat_lt 0 r ≡ true → passed_of skip r (i ∷ is) ≡ record { id = i.id; kept = true } ∷ passed_of skip (r - 1) is
  keep_passed r no' some =
      ap (λ (b : Bool). passed_by b (nat_lt 0 r) i.id (passed_of skip r is) (passed_of skip (r - 1) is)) no'
      ∙ ap (λ (b : Bool). passed_by false b i.id (passed_of skip r is) (passed_of skip (r - 1) is)) some

  pub keep_kept : (r : ℕ) → skips (contains skip i.id) i ≡ false → nat_lt 0 r ≡ true → kept_items skip r (i ∷ is) ≡ i ∷ kept_items skip (r - 1) is
  keep_kept r no' some =
      ap (λ (b : Bool). kept_by b (nat_lt 0 r) i (kept_items skip r is) (kept_items skip (r - 1) is)) no'
      ∙ ap (λ (b : Bool). kept_by false b i (kept_items skip r is) (kept_items skip (r - 1) is)) some

  pub stop_passed : (r : ℕ) → skips (contains skip i.id) i ≡ false → nat_lt 0 r ≡ false → passed_of skip r (i ∷ is) ≡ []
  stop_passed r no' none =
      ap (λ (b : Bool). passed_by b (nat_lt 0 r) i.id (passed_of skip r is) (passed_of skip (r - 1) is)) no'
      ∙ ap (λ (b : Bool). passed_by false b i.id (passed_of skip r is) (passed_of skip (r - 1) is)) none

  pub stop_kept : (r : ℕ) → skips (contains skip i.id) i ≡ false → nat_lt 0 r ≡ false → kept_items skip r (i ∷ is) ≡ []
  stop_kept r no' none =
      ap (λ (b : Bool). kept_by b (nat_lt 0 r) i (kept_items skip r is) (kept_items skip (r - 1) is)) no'
      ∙ ap (λ (b : Bool). kept_by false b i (kept_items skip r is) (kept_items skip (r - 1) is)) none

-- these messages are left to plan, and the whole plan is what is planned and what the rest makes
pub record Goes (skip : List ℕ) (room base : ℕ) (all rest : List Item) (plan : Plan) : Type 0 where
  pub passed : plan.passed.items ++ passed_of skip plan.room rest ≡ passed_of skip room all
  pub entries : plan.entries.items ++ entries_in plan.end (kept_items skip plan.room rest) ≡ entries_in base (kept_items skip room all)
  pub records : plan.records ++ records_in (kept_items skip plan.room rest) ≡ records_in (kept_items skip room all)
  pub present : AllByRecursion IsReadBack plan.entries.items
  pub low : plan.end + plan.room * 1048581 ≤ base + room * 1048581

module _ (skip : List ℕ) (room base : ℕ) (all : List Item) where
  pub goes_start : (plan : Plan) → IsEmptyPlan room base plan → Goes skip room base all all plan
  goes_start plan e = record {
    passed = ap (λ xs. xs ++ passed_of skip plan.room all) e.passed ∙ ap (λ (r : ℕ). passed_of skip r all) e.room_is;
    entries =
        ap (λ xs. xs ++ entries_in plan.end (kept_items skip plan.room all)) e.entries
        ∙ ap (λ (p : ℕ). entries_in p (kept_items skip plan.room all)) e.end_is
        ∙ ap (λ (r : ℕ). entries_in base (kept_items skip r all)) e.room_is;
    records = ap (λ xs. xs ++ records_in (kept_items skip plan.room all)) e.records ∙ ap (λ (r : ℕ). records_in (kept_items skip r all)) e.room_is;
    present = subst (AllByRecursion IsReadBack) (sym e.entries) tt;
    low = (let r = e.room_is in let p = e.end_is in omega (arith, r, p));
  }

  module _ (i : Item) (rest : List Item) (old new : Plan) (goes : Goes skip room base all (i ∷ rest) old) where
    goes_skip : skips (contains skip i.id) i ≡ true → HasSkipped i old new → Goes skip room base all rest new
    goes_skip yes' has = record {
      passed = join old.passed.items (record { id = i.id; kept = false } ∷ []) new.passed.items (passed_of skip new.room rest) (passed_of skip room all) has.passed
          (ap (λ (r : ℕ). old.passed.items ++ record { id = i.id; kept = false } ∷ passed_of skip r rest) has.room ∙ ap (λ l. old.passed.items ++ l) (sym (skip_passed skip i rest old.room yes')) ∙ goes.passed);
      entries =
          ap (λ l. l ++ entries_in new.end (kept_items skip new.room rest)) has.entries
          ∙ ap (λ (p : ℕ). old.entries.items ++ entries_in p (kept_items skip new.room rest)) has.end
          ∙ ap (λ (r : ℕ). old.entries.items ++ entries_in old.end (kept_items skip r rest)) has.room
          ∙ ap (λ ks. old.entries.items ++ entries_in old.end ks) (sym (skip_kept skip i rest old.room yes'))
          ∙ goes.entries;
      records =
          ap (λ l. l ++ records_in (kept_items skip new.room rest)) has.records
          ∙ ap (λ (r : ℕ). old.records ++ records_in (kept_items skip r rest)) has.room
          ∙ ap (λ ks. old.records ++ records_in ks) (sym (skip_kept skip i rest old.room yes'))
          ∙ goes.records;
      present = subst (AllByRecursion IsReadBack) (sym has.entries) goes.present;
      low = (let r = has.room in let p = has.end in let l = goes.low in omega (arith, r, p, l));
    }

    goes_keep : IsReady i → skips (contains skip i.id) i ≡ false → HasKept i old new → Goes skip room base all rest new
    goes_keep ready no' has =
        let less : new.room ≡ old.room - 1 = (let r = has.room in omega (arith, r)) in
        let some : nat_lt 0 old.room ≡ true = room_true old.room (let r = has.room in omega (arith, r)) in
        let most : next_of i.kind old.end i.len ≤ old.end + i.len + 5 = next_most i.kind old.end i.len in
        record {
          passed = join old.passed.items (record { id = i.id; kept = true } ∷ []) new.passed.items (passed_of skip new.room rest) (passed_of skip room all) has.passed
              (ap (λ (r : ℕ). old.passed.items ++ record { id = i.id; kept = true } ∷ passed_of skip r rest) less ∙ ap (λ l. old.passed.items ++ l) (sym (keep_passed skip i rest old.room no' some)) ∙ goes.passed);
          entries = join old.entries.items (item_entry old.end i ∷ []) new.entries.items (entries_in new.end (kept_items skip new.room rest)) (entries_in base (kept_items skip room all)) has.entries
              (ap (λ (p : ℕ). old.entries.items ++ item_entry old.end i ∷ entries_in p (kept_items skip new.room rest)) has.end
              ∙ ap (λ (r : ℕ). old.entries.items ++ item_entry old.end i ∷ entries_in (next_of i.kind old.end i.len) (kept_items skip r rest)) less
              ∙ ap (λ ks. old.entries.items ++ entries_in old.end ks) (sym (keep_kept skip i rest old.room no' some))
              ∙ goes.entries);
          records = join old.records (item_record i) new.records (records_in (kept_items skip new.room rest)) (records_in (kept_items skip room all)) has.records
              (ap (λ (r : ℕ). old.records ++ (item_record i ++ records_in (kept_items skip r rest))) less
              ∙ ap (λ ks. old.records ++ records_in ks) (sym (keep_kept skip i rest old.room no' some))
              ∙ goes.records);
          present = subst (AllByRecursion IsReadBack) (sym has.entries) (all_append IsReadBack old.entries.items (item_entry old.end i ∷ []) goes.present (has.present, tt));
          low = (let r = has.room in let p = has.end in let l = goes.low in let s = ready.short in omega (arith, r, p, l, s, most));
        }

    goes_stop : skips (contains skip i.id) i ≡ false → old.room ≡ 0 → IsPlan skip room base all old
    goes_stop no' full =
        let none : nat_lt 0 old.room ≡ false = ap (nat_lt 0) full in
        record {
          passed = sym (nil_right old.passed.items) ∙ ap (λ l. old.passed.items ++ l) (sym (stop_passed skip i rest old.room no' none)) ∙ goes.passed;
          entries = sym (nil_right old.entries.items) ∙ ap (λ ks. old.entries.items ++ entries_in old.end ks) (sym (stop_kept skip i rest old.room no' none)) ∙ goes.entries;
          records = sym (nil_right old.records) ∙ ap (λ ks. old.records ++ records_in ks) (sym (stop_kept skip i rest old.room no' none)) ∙ goes.records;
          present = goes.present;
        }

    pub on_more : (more : Bool) → HasPlanned skip i old new more → IsReady i → more ≡ true → Goes skip room base all rest new
    on_more true (Skips yes' has) ready is = goes_skip yes' has
    on_more true (Keeps no' has) ready is = goes_keep ready no' has
    on_more false (Stops no' full same) ready is = absurd (subst (λ (b : Bool). cond b ⊥ (Unit {0})) is tt)

    pub on_end : (more : Bool) → HasPlanned skip i old new more → more ≡ false → IsPlan skip room base all new
    on_end true has is = absurd (subst (λ (b : Bool). cond b (Unit {0}) ⊥) is tt)
    on_end false (Stops no' full same) is = subst (IsPlan skip room base all) (sym same) (goes_stop no' full)

  pub goes_end : (plan : Plan) → Goes skip room base all [] plan → IsPlan skip room base all plan
  goes_end plan goes = record {
    passed = sym (nil_right plan.passed.items) ∙ goes.passed;
    entries = sym (nil_right plan.entries.items) ∙ goes.entries;
    records = sym (nil_right plan.records) ∙ goes.records;
    present = goes.present;
  }

-- ---- a place in a list

nil_cons : {A : Type 0} (y : A) (ys : List A) → [] ≡ y ∷ ys → ⊥
nil_cons y ys e = cc

none_some : {A : Type 0} (a : A) → None ≡ Some a → ⊥
none_some a e = cc

pub drop_some : {A : Type 0} (xs : List A) (k : ℕ) (x : A) → slice_get xs k ≡ Some x → drop k xs ≡ x ∷ drop (suc k) xs
drop_some [] k x is = absurd (none_some x is)
drop_some (y ∷ xs) zero x is = ap (λ z. z ∷ xs) (some_same y x is)
drop_some (y ∷ xs) (suc k) x is = drop_some xs k x is

pub drop_none : {A : Type 0} (xs : List A) (k : ℕ) → None ≡ slice_get xs k → drop k xs ≡ []
drop_none [] zero is = refl
drop_none [] (suc k) is = refl
drop_none (y ∷ xs) zero is = absurd (none_some y is)
drop_none (y ∷ xs) (suc k) is = drop_none xs k is

pub get_below : {A : Type 0} (xs : List A) (k : ℕ) (x : A) → slice_get xs k ≡ Some x → k < length xs
get_below [] k x is = absurd (none_some x is)
get_below (y ∷ xs) zero x is = omega arith
get_below (y ∷ xs) (suc k) x is = let below = get_below xs k x is in omega (arith, below)

drop_suc : {A : Type 0} (xs : List A) (k : ℕ) (d : A) → k < length xs → drop k xs ≡ get_or xs k d ∷ drop (suc k) xs
drop_suc [] k d below = absurd (omega (arith, below))
drop_suc (x ∷ xs) zero d below = refl
drop_suc (x ∷ xs) (suc k) d below = drop_suc xs k d (omega (arith, below))

pub drop_more : {A : Type 0} (xs : List A) (k : ℕ) (d : A) → k < length xs → drop k xs ≡ get_or xs k d ∷ drop (k + 1) xs
drop_more xs k d below = let next : suc k ≡ k + 1 = omega arith in drop_suc xs k d below ∙ ap (λ (n : ℕ). get_or xs k d ∷ drop n xs) next

pub drop_past : {A : Type 0} (xs : List A) (k : ℕ) → length xs ≤ k → drop k xs ≡ []
drop_past [] zero past = refl
drop_past [] (suc k) past = refl
drop_past (x ∷ xs) zero past = absurd (omega (arith, past))
drop_past (x ∷ xs) (suc k) past = drop_past xs k (omega (arith, past))

pub drop_below : {A : Type 0} (xs : List A) (k : ℕ) (y : A) (ys : List A) → drop k xs ≡ y ∷ ys → k < length xs
drop_below xs k y ys is = ⊎_elim (λ (below : k < length xs). below) (λ (past : length xs ≤ k). absurd (nil_cons y ys (sym (drop_past xs k past) ∙ is))) (cases_lt k (length xs))

planned_length : (skip : List ℕ) (i : Item) (old new : Plan) (more : Bool) → HasPlanned skip i old new more → more ≡ true → length new.passed.items ≡ length old.passed.items + 1
planned_length skip i old new true (Skips yes' has) is = ap length has.passed ∙ length-append old.passed.items (record { id = i.id; kept = false } ∷ [])
planned_length skip i old new true (Keeps no' has) is = ap length has.passed ∙ length-append old.passed.items (record { id = i.id; kept = true } ∷ [])
planned_length skip i old new false (Stops no' full same) is = absurd (subst (λ (b : Bool). cond b ⊥ (Unit {0})) is tt)

module _ (skip : List ℕ) (room base : ℕ) (all : List Item) (i : Item) (old new : Plan) (is : slice_get all (length old.passed.items) ≡ Some i) (goes : Goes skip room base all (drop (length old.passed.items) all) old) where
  here : Goes skip room base all (i ∷ drop (suc (length old.passed.items)) all) old
  here = subst (λ (l : List Item). Goes skip room base all l old) (drop_some all (length old.passed.items) i is) goes

  pub planned_more : (more : Bool) → HasPlanned skip i old new more → IsReady i → more ≡ true → Goes skip room base all (drop (suc (length old.passed.items)) all) new
  planned_more more has ready yes' = on_more skip room base all i (drop (suc (length old.passed.items)) all) old new here more has ready yes'

  pub planned_end : (more : Bool) → HasPlanned skip i old new more → more ≡ false → IsPlan skip room base all new
  planned_end more has no' = on_end skip room base all i (drop (suc (length old.passed.items)) all) old new here more has no'

  pub planned_longer : (more : Bool) → HasPlanned skip i old new more → more ≡ true → length new.passed.items ≡ length old.passed.items + 1
  planned_longer more has yes' = planned_length skip i old new more has yes'

  pub planned_next : (more : Bool) → HasPlanned skip i old new more → IsReady i → more ≡ true → Goes skip room base all (drop (length new.passed.items) all) new
  planned_next more has ready yes' =
      let longer = planned_length skip i old new more has yes' in
      let same : suc (length old.passed.items) ≡ length new.passed.items = omega (arith, longer) in
      subst (λ (n : ℕ). Goes skip room base all (drop n all) new) same (planned_more more has ready yes')
