-- A plan's messages, passed one by one.
use Rattle.std.proofs.Common.{◌≡◌, ⊎_elim, ℕ, ◌+◌, ◌-◌, Bool, true, false, not, cond, List, [], ◌∷◌, ◌<◌, length, drop, get_or, refl, sym, ap, ◌∙◌, subst, arith}
use Rattle.std.specs.Prelude.{is_some, nat_lt, if◌then◌else◌, ◌||◌}
use Rattle.std.specs.List.{AllByRecursion}
use Rattle.std.proofs.lemmas.Bool.{cases_Bool}
use Rattle.cq_bytes.specs.Numbers.{contains}
use Rattle.cq_entry.specs.declared.entry.Entry.{Entry as IndexEntry}
use Rattle.cq_items.specs.Item.{Item}
use Rattle.cq_items.specs.declared.item.Stand.{Stand}
use Rattle.cq_items.specs.declared.item.Passed.{Passed}
use Rattle.cq_items.specs.declared.item.Holder.{Holder}
use Rattle.cq_items.specs.declared.item.Holder.TheVariants.{Waiting, Out, Gone}
use Rattle.cq_items.specs.Items.{MayPass, decide, is_free, is_gone, pass_first, skips, undecided_items, waits}
use Rattle.cq_queue.specs.Laid.{place_of, next_of}
use Rattle.cq_queue.specs.Passing.{MaySkip, commit_items, kept_items, passed_of}
use Rattle.cq_queue.specs.Planning.{IsPlan, entries_in, item_entry}
use Rattle.cq_queue.specs.declared.queue.planning.Plan.{Plan}
use Rattle.cq_queue.proofs.Planned.{drop_below, drop_more, skip_passed, skip_kept, keep_passed, keep_kept, stop_passed}

false_true : {A : Type 0} → false ≡ true → A
false_true e = absurd (subst (λ (b : Bool). cond b ⊥ (Unit {0})) e tt)

or_right : (a b : Bool) → (a || b) ≡ false → b ≡ false
or_right true b e = false_true (sym e)
or_right false b e = e

gone_taken : (h : Holder) → is_gone h ≡ true → is_free h ≡ false
gone_taken Waiting e = false_true e
gone_taken (Out c d) e = refl
gone_taken Gone e = refl

gone_waits : (i : Item) → is_gone i.holder ≡ true → waits i ≡ false
gone_waits i gone = gone_taken i.holder gone

-- the first of a list has this, and what is behind it
abbrev OnFirst : (Item → Type 0) → List Item → Type 0
OnFirst P [] = ⊥
OnFirst P (i ∷ is) = P i

abbrev behind : {A : Type 0} → List A → List A
behind [] = []
behind (x ∷ xs) = xs

module _ (i : Item) (is : List Item) where
  pub und_yes : is_some i.stand ≡ true → undecided_items (i ∷ is) ≡ undecided_items is
  und_yes e = ap (λ (b : Bool). cond (not b) (i ∷ undecided_items is) (undecided_items is)) e

  pub und_no : is_some i.stand ≡ false → undecided_items (i ∷ is) ≡ i ∷ undecided_items is
  und_no e = ap (λ (b : Bool). cond (not b) (i ∷ undecided_items is) (undecided_items is)) e

  first_yes : (b : Bool) (s : Stand) → is_some i.stand ≡ true → pass_first b s (i ∷ is) ≡ i ∷ pass_first b s is
  first_yes b s e = ap (λ (c : Bool). if c then i ∷ pass_first b s is else (if skips b i then is else decide s i ∷ is)) e

  first_no : (b : Bool) (s : Stand) → is_some i.stand ≡ false → pass_first b s (i ∷ is) ≡ (if skips b i then is else decide s i ∷ is)
  first_no b s e = ap (λ (c : Bool). if c then i ∷ pass_first b s is else (if skips b i then is else decide s i ∷ is)) e

  module _ (skip : List ℕ) (room segment at place : ℕ) where
    pub commit_yes : is_some i.stand ≡ true → commit_items skip room segment at place (i ∷ is) ≡ i ∷ commit_items skip room segment at place is
    commit_yes e = ap (λ (b : Bool). if b then i ∷ commit_items skip room segment at place is else (if skips (contains skip i.id) i then commit_items skip room segment at place is else (if nat_lt 0 room then decide (record { segment = segment; at = at; place = place_of i.kind place }) i ∷ commit_items skip (room - 1) segment (at + 1) (next_of i.kind place i.len) is else i ∷ is))) e

    pub commit_no : is_some i.stand ≡ false → commit_items skip room segment at place (i ∷ is) ≡ (if skips (contains skip i.id) i then commit_items skip room segment at place is else (if nat_lt 0 room then decide (record { segment = segment; at = at; place = place_of i.kind place }) i ∷ commit_items skip (room - 1) segment (at + 1) (next_of i.kind place i.len) is else i ∷ is))
    commit_no e = ap (λ (b : Bool). if b then i ∷ commit_items skip room segment at place is else (if skips (contains skip i.id) i then commit_items skip room segment at place is else (if nat_lt 0 room then decide (record { segment = segment; at = at; place = place_of i.kind place }) i ∷ commit_items skip (room - 1) segment (at + 1) (next_of i.kind place i.len) is else i ∷ is))) e

    pub commit_skip : is_some i.stand ≡ false → skips (contains skip i.id) i ≡ true → commit_items skip room segment at place (i ∷ is) ≡ commit_items skip room segment at place is
    commit_skip e yes' = commit_no e ∙ ap (λ (b : Bool). if b then commit_items skip room segment at place is else (if nat_lt 0 room then decide (record { segment = segment; at = at; place = place_of i.kind place }) i ∷ commit_items skip (room - 1) segment (at + 1) (next_of i.kind place i.len) is else i ∷ is)) yes'

    pub commit_keep : is_some i.stand ≡ false → skips (contains skip i.id) i ≡ false → nat_lt 0 room ≡ true → commit_items skip room segment at place (i ∷ is) ≡ decide (record { segment = segment; at = at; place = place_of i.kind place }) i ∷ commit_items skip (room - 1) segment (at + 1) (next_of i.kind place i.len) is
    commit_keep e no' some =
        commit_no e
        ∙ ap (λ (b : Bool). if b then commit_items skip room segment at place is else (if nat_lt 0 room then decide (record { segment = segment; at = at; place = place_of i.kind place }) i ∷ commit_items skip (room - 1) segment (at + 1) (next_of i.kind place i.len) is else i ∷ is)) no'
        ∙ ap (λ (b : Bool). if b then decide (record { segment = segment; at = at; place = place_of i.kind place }) i ∷ commit_items skip (room - 1) segment (at + 1) (next_of i.kind place i.len) is else i ∷ is) some

    pub commit_stop : is_some i.stand ≡ false → skips (contains skip i.id) i ≡ false → nat_lt 0 room ≡ false → commit_items skip room segment at place (i ∷ is) ≡ i ∷ is
    commit_stop e no' none =
        commit_no e
        ∙ ap (λ (b : Bool). if b then commit_items skip room segment at place is else (if nat_lt 0 room then decide (record { segment = segment; at = at; place = place_of i.kind place }) i ∷ commit_items skip (room - 1) segment (at + 1) (next_of i.kind place i.len) is else i ∷ is)) no'
        ∙ ap (λ (b : Bool). if b then decide (record { segment = segment; at = at; place = place_of i.kind place }) i ∷ commit_items skip (room - 1) segment (at + 1) (next_of i.kind place i.len) is else i ∷ is) none

-- the first undecided one is decided or has left
pass_und : (b : Bool) (s : Stand) (items : List Item) → undecided_items (pass_first b s items) ≡ behind (undecided_items items)
pass_und b s [] = refl
pass_und b s (i ∷ is) = ⊎_elim
    (λ (yes' : is_some i.stand ≡ true). ap undecided_items (first_yes i is b s yes') ∙ und_yes i (pass_first b s is) yes' ∙ pass_und b s is ∙ ap behind (sym (und_yes i is yes')))
    (λ (no' : is_some i.stand ≡ false). ap undecided_items (first_no i is b s no') ∙ either (skips b i) ∙ ap behind (sym (und_no i is no')))
    (cases_Bool (is_some i.stand))
  where
    either : (c : Bool) → undecided_items (if c then is else decide s i ∷ is) ≡ undecided_items is
    either true = refl
    either false = refl

module _ (skip : List ℕ) (room segment at place : ℕ) where
  skip_goal : (s : Stand) (items : List Item) → OnFirst (λ i. skips (contains skip i.id) i ≡ true) (undecided_items items)
      → commit_items skip room segment at place (pass_first true s items) ≡ commit_items skip room segment at place items
  skip_goal s [] none = absurd none
  skip_goal s (i ∷ is) first = ⊎_elim
      (λ (yes' : is_some i.stand ≡ true).
      ap (commit_items skip room segment at place) (first_yes i is true s yes')
      ∙ commit_yes i (pass_first true s is) skip room segment at place yes'
      ∙ ap (λ l. i ∷ l) (skip_goal s is (subst (OnFirst (λ j. skips (contains skip j.id) j ≡ true)) (und_yes i is yes') first))
      ∙ sym (commit_yes i is skip room segment at place yes'))
      (λ (no' : is_some i.stand ≡ false).
      ap (commit_items skip room segment at place) (first_no i is true s no')
      ∙ sym (commit_skip i is skip room segment at place no' (subst (OnFirst (λ j. skips (contains skip j.id) j ≡ true)) (und_no i is no') first)))
      (cases_Bool (is_some i.stand))

  -- what is kept next, where it stands, and where the next record does
  abbrev IsNext : Stand → ℕ → Item → Type 0
  IsNext s after i = (skips (contains skip i.id) i ≡ false) × ((s ≡ record { segment = segment; at = at; place = place_of i.kind place }) × (after ≡ next_of i.kind place i.len))

  keep_goal : (s : Stand) (after : ℕ) (items : List Item) → nat_lt 0 room ≡ true → OnFirst (IsNext s after) (undecided_items items)
      → commit_items skip (room - 1) segment (at + 1) after (pass_first false s items) ≡ commit_items skip room segment at place items
  keep_goal s after [] some none = absurd none
  keep_goal s after (i ∷ is) some first = ⊎_elim
      (λ (yes' : is_some i.stand ≡ true).
      ap (commit_items skip (room - 1) segment (at + 1) after) (first_yes i is false s yes')
      ∙ commit_yes i (pass_first false s is) skip (room - 1) segment (at + 1) after yes'
      ∙ ap (λ l. i ∷ l) (keep_goal s after is some (subst (OnFirst (IsNext s after)) (und_yes i is yes') first))
      ∙ sym (commit_yes i is skip room segment at place yes'))
      (λ (no' : is_some i.stand ≡ false).
      let next : IsNext s after i = subst (OnFirst (IsNext s after)) (und_no i is no') first in
      ap (commit_items skip (room - 1) segment (at + 1) after) (first_no i is false s no' ∙ ap (λ (b : Bool). if b then is else decide s i ∷ is) (or_right (contains skip i.id) (is_gone i.holder) next.0))
      ∙ ap (λ (t : Stand). decide t i ∷ commit_items skip (room - 1) segment (at + 1) after is) next.1.0
      ∙ ap (λ (p : ℕ). decide (record { segment = segment; at = at; place = place_of i.kind place }) i ∷ commit_items skip (room - 1) segment (at + 1) p is) next.1.1
      ∙ sym (commit_keep i is skip room segment at place no' next.0 some))
      (cases_Bool (is_some i.stand))

-- ---- what is passed next

head_same : {A : Type 0} (a b : A) (xs ys : List A) → a ∷ xs ≡ b ∷ ys → a ≡ b
head_same a b xs ys e = cc

none_first : {A : Type 0} (a : A) (xs : List A) → [] ≡ a ∷ xs → ⊥
none_first a xs e = cc

-- the first of the undecided ones is skipped
pub record IsSkipped (skip : List ℕ) (room : ℕ) (is : List Item) (ps : List Passed) : Type 0 where
  pub item : Item
  pub rest : List Item
  pub whole : is ≡ item ∷ rest
  pub skipped : skips (contains skip item.id) item ≡ true
  pub passed : passed_of skip room rest ≡ ps
  pub kept : kept_items skip room is ≡ kept_items skip room rest

-- the first of the undecided ones is kept
pub record IsKept (skip : List ℕ) (room : ℕ) (is : List Item) (ps : List Passed) : Type 0 where
  pub item : Item
  pub rest : List Item
  pub whole : is ≡ item ∷ rest
  pub not_skipped : skips (contains skip item.id) item ≡ false
  pub some : nat_lt 0 room ≡ true
  pub passed : passed_of skip (room - 1) rest ≡ ps
  pub kept : kept_items skip room is ≡ item ∷ kept_items skip (room - 1) rest

module _ (skip : List ℕ) (room : ℕ) (p : Passed) (ps : List Passed) where
  pub skipped_first : (is : List Item) → passed_of skip room is ≡ p ∷ ps → p.kept ≡ false → IsSkipped skip room is ps
  skipped_first [] e no' = absurd (none_first p ps e)
  skipped_first (i ∷ is) e not_kept = ⊎_elim
      (λ (yes' : skips (contains skip i.id) i ≡ true). record { item = i; rest = is; whole = refl; skipped = yes'; passed = ap behind (sym (skip_passed skip i is room yes') ∙ e); kept = skip_kept skip i is room yes' })
      (λ (no' : skips (contains skip i.id) i ≡ false). ⊎_elim
      (λ (some : nat_lt 0 room ≡ true). false_true (sym not_kept ∙ ap (λ (q : Passed). q.kept) (sym (head_same (record { id = i.id; kept = true }) p (passed_of skip (room - 1) is) ps (sym (keep_passed skip i is room no' some) ∙ e)))))
      (λ (none : nat_lt 0 room ≡ false). absurd (none_first p ps (sym (stop_passed skip i is room no' none) ∙ e)))
      (cases_Bool (nat_lt 0 room)))
      (cases_Bool (skips (contains skip i.id) i))

  pub kept_first : (is : List Item) → passed_of skip room is ≡ p ∷ ps → p.kept ≡ true → IsKept skip room is ps
  kept_first [] e yes' = absurd (none_first p ps e)
  kept_first (i ∷ is) e is_kept = ⊎_elim
      (λ (yes' : skips (contains skip i.id) i ≡ true). false_true (ap (λ (q : Passed). q.kept) (head_same (record { id = i.id; kept = false }) p (passed_of skip room is) ps (sym (skip_passed skip i is room yes') ∙ e)) ∙ is_kept))
      (λ (no' : skips (contains skip i.id) i ≡ false). ⊎_elim
      (λ (some : nat_lt 0 room ≡ true). record { item = i; rest = is; whole = refl; not_skipped = no'; some = some; passed = ap behind (sym (keep_passed skip i is room no' some) ∙ e); kept = keep_kept skip i is room no' some })
      (λ (none : nat_lt 0 room ≡ false). absurd (none_first p ps (sym (stop_passed skip i is room no' none) ∙ e)))
      (cases_Bool (nat_lt 0 room)))
      (cases_Bool (skips (contains skip i.id) i))

-- ---- the state while a plan is passed

-- these are left to pass, with these entries, and passing them gives this queue
pub record Passing (skip : List ℕ) (segment at : ℕ) (goal items : List Item) (ps : List Passed) (es : List IndexEntry) : Type 0 where
  pub room : ℕ
  pub place : ℕ
  pub passed : passed_of skip room (undecided_items items) ≡ ps
  pub entries : entries_in place (kept_items skip room (undecided_items items)) ≡ es
  pub goal_is : commit_items skip room segment at place items ≡ goal
  pub may : MaySkip skip items

module _ (skip : List ℕ) (segment at : ℕ) (goal items : List Item) (p : Passed) (ps : List Passed) (es : List IndexEntry) (now : Passing skip segment at goal items (p ∷ ps) es) where
  abbrev May : Item → Type 0
  May i = contains skip i.id ≡ true → waits i ≡ false

  may_of : (i : Item) → May i → skips (contains skip i.id) i ≡ true → waits i ≡ false
  may_of i may yes' = ⊎_elim
      (λ (asked : contains skip i.id ≡ true). may asked)
      (λ (not' : contains skip i.id ≡ false). gone_waits i (sym (ap (λ (b : Bool). b || is_gone i.holder) not') ∙ yes'))
      (cases_Bool (contains skip i.id))

  module _ (not_kept : p.kept ≡ false) where
    pub first_skipped : IsSkipped skip now.room (undecided_items items) ps
    first_skipped = skipped_first skip now.room p ps (undecided_items items) now.passed not_kept

    pub skip_may : MayPass true (undecided_items items)
    skip_may =
        let f = first_skipped in
        subst (MayPass true) (sym f.whole) (λ same. may_of f.item (subst (AllByRecursion May) f.whole now.may).0 f.skipped)

    pub skip_next : (s : Stand) → Passing skip segment at goal (pass_first true s items) ps es
    skip_next s =
        let f = first_skipped in
        let rest : undecided_items (pass_first true s items) ≡ f.rest = pass_und true s items ∙ ap behind f.whole in
        record {
          room = now.room;
          place = now.place;
          passed = ap (passed_of skip now.room) rest ∙ f.passed;
          entries = ap (λ is. entries_in now.place (kept_items skip now.room is)) rest ∙ ap (entries_in now.place) (sym f.kept) ∙ now.entries;
          goal_is = skip_goal skip now.room segment at now.place s items (subst (OnFirst (λ i. skips (contains skip i.id) i ≡ true)) (sym f.whole) f.skipped) ∙ now.goal_is;
          may = subst (AllByRecursion May) (sym rest) (subst (AllByRecursion May) f.whole now.may).1;
        }

  module _ (is_kept : p.kept ≡ true) where
    pub first_kept : IsKept skip now.room (undecided_items items) ps
    first_kept = kept_first skip now.room p ps (undecided_items items) now.passed is_kept

    pub keep_may : MayPass false (undecided_items items)
    keep_may = let f = first_kept in subst (MayPass false) (sym f.whole) (λ same. false_true same)

    pub keep_entries : item_entry now.place first_kept.item ∷ entries_in (next_of first_kept.item.kind now.place first_kept.item.len) (kept_items skip (now.room - 1) first_kept.rest) ≡ es
    keep_entries = ap (entries_in now.place) (sym first_kept.kept) ∙ now.entries

    pub keep_next : (e : IndexEntry) (more : List IndexEntry) → es ≡ e ∷ more → Passing skip segment (at + 1) goal (pass_first false (record { segment = segment; at = at; place = e.place }) items) ps more
    keep_next e more first =
        let f = first_kept in
        let s : Stand = record { segment = segment; at = at; place = e.place } in
        let after : ℕ = next_of f.item.kind now.place f.item.len in
        let rest : undecided_items (pass_first false s items) ≡ f.rest = pass_und false s items ∙ ap behind f.whole in
        let one : item_entry now.place f.item ≡ e = head_same (item_entry now.place f.item) e (entries_in after (kept_items skip (now.room - 1) f.rest)) more (keep_entries ∙ first) in
        record {
          room = now.room - 1;
          place = after;
          passed = ap (passed_of skip (now.room - 1)) rest ∙ f.passed;
          entries = ap (λ is. entries_in after (kept_items skip (now.room - 1) is)) rest ∙ ap behind (keep_entries ∙ first);
          goal_is = keep_goal skip now.room segment at now.place s after items f.some
              (subst (OnFirst (IsNext skip now.room segment at now.place s after)) (sym f.whole) (f.not_skipped, (ap (λ (x : IndexEntry). record { segment = segment; at = at; place = x.place }) (sym one), refl))) ∙ now.goal_is;
          may = subst (AllByRecursion May) (sym rest) (subst (AllByRecursion May) f.whole now.may).1;
        }

-- the first of them is to be kept, and there is no room
abbrev IsStopped : List ℕ → ℕ → List Item → Type 0
IsStopped skip room [] = Unit {0}
IsStopped skip room (i ∷ is) = (skips (contains skip i.id) i ≡ false) × (nat_lt 0 room ≡ false)

undecided_none : (skip : List ℕ) (room : ℕ) (is : List Item) → passed_of skip room is ≡ [] → IsStopped skip room is
undecided_none skip room [] e = tt
undecided_none skip room (i ∷ is) e = ⊎_elim
    (λ (yes' : skips (contains skip i.id) i ≡ true). absurd (none_first (record { id = i.id; kept = false }) (passed_of skip room is) (sym e ∙ skip_passed skip i is room yes')))
    (λ (no' : skips (contains skip i.id) i ≡ false). ⊎_elim
    (λ (some : nat_lt 0 room ≡ true). absurd (none_first (record { id = i.id; kept = true }) (passed_of skip (room - 1) is) (sym e ∙ keep_passed skip i is room no' some)))
    (λ (none : nat_lt 0 room ≡ false). (no', none))
    (cases_Bool (nat_lt 0 room)))
    (cases_Bool (skips (contains skip i.id) i))

stays : (skip : List ℕ) (room segment at place : ℕ) (is : List Item) → IsStopped skip room (undecided_items is) → is ≡ commit_items skip room segment at place is
stays skip room segment at place [] stopped = refl
stays skip room segment at place (i ∷ is) stopped = ⊎_elim
    (λ (yes' : is_some i.stand ≡ true). ap (λ l. i ∷ l) (stays skip room segment at place is (subst (IsStopped skip room) (und_yes i is yes') stopped)) ∙ sym (commit_yes i is skip room segment at place yes'))
    (λ (no' : is_some i.stand ≡ false). let s : IsStopped skip room (i ∷ undecided_items is) = subst (IsStopped skip room) (und_no i is no') stopped in sym (commit_stop i is skip room segment at place no' s.0 s.1))
    (cases_Bool (is_some i.stand))

-- nothing is left to pass
pub pass_end : (skip : List ℕ) (segment at : ℕ) (goal items : List Item) (es : List IndexEntry) → Passing skip segment at goal items [] es → items ≡ goal
pass_end skip segment at goal items es now = stays skip now.room segment at now.place items (undecided_none skip now.room (undecided_items items) now.passed) ∙ now.goal_is

pub pass_start : (skip : List ℕ) (room base segment at : ℕ) (items : List Item) (plan : Plan) → MaySkip skip items → IsPlan skip room base (undecided_items items) plan
    → Passing skip segment at (commit_items skip room segment at base items) items plan.passed.items plan.entries.items
pass_start skip room base segment at items plan may is = record { room = room; place = base; passed = sym is.passed; entries = sym is.entries; goal_is = refl; may = may }

-- ---- one turn of the loop

-- one that is skipped
pub skip_turn : (skip : List ℕ) (segment at : ℕ) (goal items : List Item) (ps : List Passed) (k : ℕ) (p : Passed) (es : List IndexEntry) → k < length ps → p ≡ get_or ps k p → p.kept ≡ false
    → Passing skip segment at goal items (drop k ps) es → MayPass true (undecided_items items) × ((s : Stand) → Passing skip segment at goal (pass_first true s items) (drop (k + 1) ps) es)
skip_turn skip segment at goal items ps k p es below is not_kept now =
    let here : drop k ps ≡ p ∷ drop (k + 1) ps = drop_more ps k p below ∙ ap (λ (q : Passed). q ∷ drop (k + 1) ps) (sym is) in
    let at_it : Passing skip segment at goal items (p ∷ drop (k + 1) ps) es = subst (λ (l : List Passed). Passing skip segment at goal items l es) here now in
    (skip_may skip segment at goal items p (drop (k + 1) ps) es at_it not_kept, skip_next skip segment at goal items p (drop (k + 1) ps) es at_it not_kept)

-- one that is kept
module _ (skip : List ℕ) (segment count : ℕ) (goal items : List Item) (ps : List Passed) (k : ℕ) (p : Passed) (es : List IndexEntry) (j : ℕ) (below : k < length ps) (is : p ≡ get_or ps k p) (is_kept : p.kept ≡ true)
    (now : Passing skip segment (count + j) goal items (drop k ps) (drop j es)) where
  at_kept : Passing skip segment (count + j) goal items (p ∷ drop (k + 1) ps) (drop j es)
  at_kept = subst (λ (l : List Passed). Passing skip segment (count + j) goal items l (drop j es)) (drop_more ps k p below ∙ ap (λ (q : Passed). q ∷ drop (k + 1) ps) (sym is)) now

  pub keep_within : j < length es
  keep_within = drop_below es j _ _ (sym (keep_entries skip segment (count + j) goal items p (drop (k + 1) ps) (drop j es) at_kept is_kept))

  pub keep_may_pass : MayPass false (undecided_items items)
  keep_may_pass = keep_may skip segment (count + j) goal items p (drop (k + 1) ps) (drop j es) at_kept is_kept

  pub keep_turn : (e : IndexEntry) → e ≡ get_or es j e → Passing skip segment (count + (j + 1)) goal (pass_first false (record { segment = segment; at = count + j; place = e.place }) items) (drop (k + 1) ps) (drop (j + 1) es)
  keep_turn e is_entry =
      let next : count + j + 1 ≡ count + (j + 1) = omega arith in
      subst (λ (n : ℕ). Passing skip segment n goal (pass_first false (record { segment = segment; at = count + j; place = e.place }) items) (drop (k + 1) ps) (drop (j + 1) es)) next
      (keep_next skip segment (count + j) goal items p (drop (k + 1) ps) (drop j es) at_kept is_kept e (drop (j + 1) es) (drop_more es j e keep_within ∙ ap (λ (x : IndexEntry). x ∷ drop (j + 1) es) (sym is_entry)))
