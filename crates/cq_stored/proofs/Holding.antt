-- What is stored, from call to call.
use Rattle.std.proofs.Common.{◌≡◌, inl, inr, ⊎_elim, ℕ, ◌+◌, ◌-◌, Bool, true, false, not, cond, List, [], ◌∷◌, ◌++◌, filter, map, Option, refl, sym, ap, ◌∙◌, subst, append-nil}
use Rattle.std.specs.Prelude.{is_some, ◌==◌, ◌&&◌, ◌||◌, nat_lt, if◌then◌else◌}
use Rattle.std.specs.List.{list_any, AllByRecursion, AllZip}
use Rattle.std.proofs.lemmas.Bool.{false≢true, eqb-true, and_parts, or_parts, or_from, cases_Bool}
use Rattle.cq_bytes.specs.Numbers.{contains}
use Rattle.cq_journal.specs.declared.event.Entry.{Entry}
use Rattle.cq_journal.specs.declared.event.Message.{Message}
use Rattle.cq_journal.specs.History.{Delivery, has_id, line, acked, settled, open_deliveries}
use Rattle.cq_journal.specs.Legal.{Legal, has}
use Rattle.cq_journal.specs.Lists.{HasDistinctIds, IsIn, IsSublist}
use Rattle.cq_journal.proofs.Laws.{distinct-line}
use Rattle.cq_entry.specs.declared.entry.EntryKind.{EntryKind}
use Rattle.cq_queue.specs.Laid.{place_of, next_of}
use Rattle.cq_folder.specs.Survives.{SurvivesIn}
use Rattle.cq_folder.proofs.Sublists.{sublist_any, sublist_append, sublist_distinct, in_has, clash}
use Rattle.cq_folder.proofs.Splits.{sublist_trans, later_sublist}
use Rattle.cq_items.specs.Item.{Item}
use Rattle.cq_items.specs.declared.item.Holder.TheVariants.{Out, Gone}
use Rattle.cq_items.specs.Items.{is_gone, skips, settles, decide, has_item, undecided_items, is_in, lowest_segment, settling_in, settling_ids}
use Rattle.cq_folder.specs.Holding.{left_out}
use Rattle.cq_queue_laws.specs.Follows.{outside, standing, Whereabouts, bare, stands, is_unsettled}
use Rattle.cq_queue.specs.Passing.{Suits, kept_of, commit_items}
use Rattle.cq_queue.specs.Tied.{AreSplit}
use Rattle.cq_queue_laws.proofs.Settles.{settling-filters}
use Rattle.cq_stored.specs.Stored.{is_stored, unsettled_line, undecided_of, coming, AreStored, HasBodies, AreBodies, AreSure, StoredLaws}
use Rattle.cq_stored.proofs.Sublists.{of_filter, sublist_filter, sublist_first, filter_sublist}

-- ---- what is settled isn't in memory

unsettled_all : (past : List Entry) (q x : ℕ) (ms : List Message) → ((m : Message) → IsIn ms m → is_unsettled past q m ≡ true) → contains (settled past q) x ≡ true → has_id ms x ≡ false
unsettled_all past q x [] all gone = refl
unsettled_all past q x (m ∷ ms) all gone = (elim (m.id == x) as (λ (b : Bool). (m.id == x) ≡ b → (b || has_id ms x) ≡ false) [
  | true ↦ λ same. clash (not (contains (settled past q) m.id)) (ap not (ap (contains (settled past q)) (eqb-true m.id x same) ∙ gone)) (all m (inl refl))
  | false ↦ λ other. unsettled_all past q x ms (λ k there. all k (inr there)) gone
]) refl

-- ---- memory and line, side by side

-- an id of the items is one of the messages, and the other way round
pub same_ids : (kinds : Message → EntryKind) (items : List Item) (ms : List Message) (x : ℕ) → AllZip (HasBodies kinds) items ms → has_item items x ≡ has_id ms x
same_ids kinds [] [] x z = refl
same_ids kinds [] (m ∷ ms) x z = absurd z
same_ids kinds (i ∷ is) [] x z = absurd z
same_ids kinds (i ∷ is) (m ∷ ms) x z = λ j. (z.0.id j == x) || same_ids kinds is ms x z.1 j

stored_is_there : (items : List Item) (x : ℕ) → is_stored items x ≡ true → has_item items x ≡ true
stored_is_there [] x stored = stored
stored_is_there (i ∷ is) x stored = (elim (i.id == x) as (λ (b : Bool). ((b && (is_some i.stand)) || is_stored is x) ≡ true → (b || has_item is x) ≡ true) [
  | true ↦ λ any. refl
  | false ↦ λ later. stored_is_there is x later
]) stored

none_stored : (items : List Item) (x : ℕ) → AllByRecursion (λ (j : Item). (is_some j.stand) ≡ false) items → is_stored items x ≡ false
none_stored [] x all = refl
none_stored (i ∷ is) x all = or_from (i.id == x && (is_some i.stand)) (is_stored is x) (ap (λ (b : Bool). i.id == x && b) all.0 ∙ and_false (i.id == x)) (none_stored is x all.1)
  where
    and_false : (b : Bool) → (b && false) ≡ false
    and_false true = refl
    and_false false = refl

-- the messages of the committed ones, and of the others
pub record Parted (items : List Item) (ms : List Message) : Type 0 where
  pub front : List Message
  pub are : ms ≡ front ++ undecided_of items ms
  pub none_behind : (x : ℕ) → is_stored items x ≡ true → HasDistinctIds ms → has_id (undecided_of items ms) x ≡ false

-- where none is committed, all are undecided
none_of : (items : List Item) (ms : List Message) (kinds : Message → EntryKind) → AllZip (HasBodies kinds) items ms → AllByRecursion (λ (j : Item). (is_some j.stand) ≡ false) items → undecided_of items ms ≡ ms
none_of [] [] kinds z all = refl
none_of [] (m ∷ ms) kinds z all = absurd z
none_of (i ∷ is) [] kinds z all = absurd z
none_of (i ∷ is) (m ∷ ms) kinds z all = ap (λ (b : Bool). if b then undecided_of is ms else m ∷ undecided_of is ms) all.0 ∙ ap (λ (l : List Message). m ∷ l) (none_of is ms kinds z.1 all.1)

-- each of them is the message of its item
suit : (kinds : Message → EntryKind) (items : List Item) (ms : List Message) → AllZip (HasBodies kinds) items ms → AllZip (Suits kinds) (undecided_items items) (undecided_of items ms)
suit kinds [] [] z = tt
suit kinds [] (m ∷ ms) z = absurd z
suit kinds (i ∷ is) [] z = absurd z
suit kinds (i ∷ is) (m ∷ ms) z = (elim (is_some i.stand) as (λ (b : Bool). is_some i.stand ≡ b → AllZip (Suits kinds) (cond (not b) (i ∷ undecided_items is) (undecided_items is)) (if b then undecided_of is ms else m ∷ undecided_of is ms)) [
  | true ↦ λ stands. suit kinds is ms z.1
  | false ↦ λ open'. (record { id = z.0.id; len = z.0.len; kind = z.0.kind; body = λ small. z.0.body small open' }, suit kinds is ms z.1)
]) refl

distinct_back : (a b : List Message) → HasDistinctIds (a ++ b) → HasDistinctIds b
distinct_back [] b d = d
distinct_back (m ∷ a) b d = distinct_back a b d.1

part : (kinds : Message → EntryKind) (items : List Item) (ms : List Message) → AreSplit items → AllZip (HasBodies kinds) items ms → Parted items ms
part kinds [] [] split z = record { front = []; are = refl; none_behind = λ x stored d. refl }
part kinds [] (m ∷ ms) split z = absurd z
part kinds (i ∷ is) [] split z = absurd z
part kinds (i ∷ is) (m ∷ ms) split z = ⊎_elim
    (λ (yes' : (is_some i.stand) ≡ true).
    let r = part kinds is ms split.1 z.1 in
    let same : undecided_of (i ∷ is) (m ∷ ms) ≡ undecided_of is ms = ap (λ (b : Bool). if b then undecided_of is ms else m ∷ undecided_of is ms) yes' in
    record {
      front = m ∷ r.front;
      are = ap (λ (l : List Message). m ∷ l) r.are ∙ ap (λ (l : List Message). m ∷ r.front ++ l) (sym same);
      none_behind = λ x stored d. subst (λ (l : List Message). has_id l x ≡ false) (sym same) ((elim (i.id == x) as (λ (b : Bool). (i.id == x) ≡ b → ((b && (is_some i.stand)) || is_stored is x) ≡ true → has_id (undecided_of is ms) x ≡ false) [
        | true ↦ λ here any. (
            let own : m.id ≡ x = sym z.0.id ∙ eqb-true i.id x here in
            let none : has_id (r.front ++ undecided_of is ms) x ≡ false = subst (λ (l : List Message). has_id l x ≡ false) r.are (subst (λ (y : ℕ). has_id ms y ≡ false) own d.0) in
            back_none r.front (undecided_of is ms) x none)
        | false ↦ λ other later. r.none_behind x later d.1
      ]) refl stored);
    })
    (λ (no' : (is_some i.stand) ≡ false).
    let all : AllByRecursion (λ (j : Item). (is_some j.stand) ≡ false) (i ∷ is) = (no', split.0 no') in
    record {
      front = [];
      are = sym (none_of (i ∷ is) (m ∷ ms) kinds z all);
      none_behind = λ x stored d. absurd (false≢true (sym (none_stored (i ∷ is) x all) ∙ stored));
    })
    (cases_Bool (is_some i.stand))
  where
    back_none : (a b : List Message) (x : ℕ) → has_id (a ++ b) x ≡ false → has_id b x ≡ false
    back_none [] b x none = none
    back_none (m ∷ a) b x none = back_none a b x (or_parts (m.id == x) (has_id (a ++ b) x) none).1

-- what is kept is some of the messages
kept_sublist : (skip : List ℕ) (room : ℕ) (items : List Item) (ms : List Message) → IsSublist (kept_of skip room items ms) ms
kept_sublist skip room [] [] = tt
kept_sublist skip room [] (m ∷ ms) = tt
kept_sublist skip room (i ∷ is) [] = tt
kept_sublist skip room (i ∷ is) (m ∷ ms) = (elim (skips (contains skip i.id) i) as (λ (b : Bool). IsSublist (if b then kept_of skip room is ms else (if nat_lt 0 room then m ∷ kept_of skip (room - 1) is ms else [])) (m ∷ ms)) [
  | true ↦ later_sublist (kept_of skip room is ms) ms m (kept_sublist skip room is ms)
  | false ↦ (elim (nat_lt 0 room) as (λ (b : Bool). IsSublist (if b then m ∷ kept_of skip (room - 1) is ms else []) (m ∷ ms)) [
    | true ↦ inl (refl, kept_sublist skip (room - 1) is ms)
    | false ↦ tt
  ])
])

-- so are the undecided ones
undecided_sublist : (items : List Item) (ms : List Message) → IsSublist (undecided_of items ms) ms
undecided_sublist [] [] = tt
undecided_sublist [] (m ∷ ms) = tt
undecided_sublist (i ∷ is) [] = tt
undecided_sublist (i ∷ is) (m ∷ ms) = (elim (is_some i.stand) as (λ (b : Bool). IsSublist (if b then undecided_of is ms else m ∷ undecided_of is ms) (m ∷ ms)) [
  | true ↦ later_sublist (undecided_of is ms) ms m (undecided_sublist is ms)
  | false ↦ inl (refl, undecided_sublist is ms)
])

coming_sublist : (skip : List ℕ) (room : ℕ) (items : List Item) (rest : List Message) → IsSublist (kept_of skip room (undecided_items items) (undecided_of items rest)) rest
coming_sublist skip room items rest = sublist_trans (kept_of skip room (undecided_items items) (undecided_of items rest)) (undecided_of items rest) rest (kept_sublist skip room (undecided_items items) (undecided_of items rest)) (undecided_sublist items rest)

module _ (kinds : Message → EntryKind) (items : List Item) (past : List Entry) (q : ℕ) where
  abbrev rest : List Message
  rest = filter (is_unsettled past q) (line past q)

  rest_distinct : Legal past → HasDistinctIds rest
  rest_distinct legal = sublist_distinct rest (line past q) (filter_sublist (is_unsettled past q) (line past q)) (distinct-line past q legal)

  -- what is stored isn't settled
  pub stored_unsettled : (x : ℕ) → AreBodies kinds items past q → is_stored items x ≡ true → contains (settled past q) x ≡ false
  stored_unsettled x bodies stored = ⊎_elim
      (λ gone. clash (has_id rest x) (unsettled_all past q x rest (of_filter (is_unsettled past q) (line past q)) gone) (sym (same_ids kinds items rest x bodies) ∙ stored_is_there items x stored))
      (λ none. none) (cases_Bool (contains (settled past q) x))

  module _ (held : List Message) (are : AreStored items past q held) (bodies : AreBodies kinds items past q) where
    held_stored : (m : Message) → IsIn held m → is_stored items m.id ≡ true
    held_stored m there = sym (are.ids m.id) ∙ in_has held m there

    held_rest : IsSublist held rest
    held_rest = sublist_filter (is_unsettled past q) held (line past q) are.sublist (λ m there. ap not (stored_unsettled m.id bodies (held_stored m there)))

    stored_survives : Legal past → AreSure items past q → SurvivesIn past q held
    stored_survives legal sure = record {
      sublist = are.sublist;
      once = sublist_distinct held (line past q) are.sublist (distinct-line past q legal);
      kept = λ x there is_sure waiting. are.ids x ∙ sure x there is_sure waiting;
      gone = λ x gone. are.ids x ∙ not_true (is_stored items x) (λ stored. clash (contains (settled past q) x) (stored_unsettled x bodies stored) gone);
    }
      where
        not_true : (b : Bool) → (b ≡ true → ⊥) → b ≡ false
        not_true true no_way = absurd (no_way refl)
        not_true false no_way = refl

    commit_comes : (skip : List ℕ) (room : ℕ) → Legal past → AreSplit items → IsSublist (held ++ coming skip room items past q) (line past q)
    commit_comes skip room legal split =
        let p = part kinds items rest split bodies in
        let back : List Message = undecided_of items rest in
        let front : IsSublist held p.front = sublist_first held p.front back (subst (IsSublist held) p.are held_rest)
        (λ m there behind. clash (has_id back m.id) (p.none_behind m.id (held_stored m there) (rest_distinct legal)) (in_has back m behind)) in
        let both : IsSublist (held ++ coming skip room items past q) (p.front ++ back) = sublist_append held p.front (coming skip room items past q) back front (kept_sublist skip room (undecided_items items) back) in
        sublist_trans (held ++ coming skip room items past q) rest (line past q) (subst (IsSublist (held ++ coming skip room items past q)) (sym p.are) both) (filter_sublist (is_unsettled past q) (line past q))

-- ---- a commit

kept_unsettled : (kinds : Message → EntryKind) (items : List Item) (past : List Entry) (q : ℕ) (skip : List ℕ) (room x : ℕ) → AreBodies kinds items past q → contains (settled past q) x ≡ true → has_id (coming skip room items past q) x ≡ false
kept_unsettled kinds items past q skip room x bodies gone =
    let rest = unsettled_line past q in
    sublist_any (λ m. m.id == x) (coming skip room items past q) rest
    (sublist_trans (coming skip room items past q) (undecided_of items rest) rest (kept_sublist skip room (undecided_items items) (undecided_of items rest)) (undecided_sublist items rest))
    (unsettled_all past q x rest (of_filter (is_unsettled past q) (line past q)) gone)

-- ---- a settling

-- what nobody needs was removed
pub gone_acked : (past : List Entry) (q id : ℕ) → is_gone (standing past q id) ≡ true → contains (acked past q) id ≡ true
gone_acked past q id gone = (elim (contains (acked past q) id) as (λ (b : Bool). is_gone (if b then Gone else outside (open_deliveries past) q id) ≡ true → b ≡ true) [
  | true ↦ λ any. refl
  | false ↦ λ out. absurd (false≢true (sym (out_stays (open_deliveries past)) ∙ out))
]) gone
  where
    out_stays : (ds : List Delivery) → is_gone (outside ds q id) ≡ false
    out_stays [] = refl
    out_stays (d ∷ ds) = (elim (d.queue == q && d.id == id) as (λ (b : Bool). is_gone (if b then Out d.client d.number else outside ds q id) ≡ false) [
      | true ↦ refl
      | false ↦ out_stays ds
    ])

settling_removed : (past : List Entry) (q x : ℕ) (n : Option ℕ) (items : List Item) (ms : List Message) → map bare items ≡ map (stands past q) ms → contains (map (λ (i : Item). i.id) (settling_in n items)) x ≡ true → contains (acked past q) x ≡ true
settling_removed past q x n [] ms follows has = absurd (false≢true has)
settling_removed past q x n (i ∷ is) [] follows has = cc
settling_removed past q x n (i ∷ is) (m ∷ ms) follows has =
    let head : bare i ≡ stands past q m = cc in
    let tail : map bare is ≡ map (stands past q) ms = cc in
    (elim (settles i) as (λ (b : Bool). settles i ≡ b → contains (map (λ (j : Item). j.id) (cond b (cond (is_in n i) (i ∷ settling_in n is) []) (settling_in n is))) x ≡ true → contains (acked past q) x ≡ true) [
      | true ↦ λ settles'. (elim (is_in n i) as (λ (b : Bool). contains (map (λ (j : Item). j.id) (cond b (i ∷ settling_in n is) [])) x ≡ true → contains (acked past q) x ≡ true) [
        | true ↦ (elim (i.id == x) as (λ (b : Bool). (i.id == x) ≡ b → (b || contains (map (λ (j : Item). j.id) (settling_in n is)) x) ≡ true → contains (acked past q) x ≡ true) [
          | true ↦ λ same found. (
              let own : m.id ≡ x = sym (ap (λ (w : Whereabouts). w.id) head) ∙ eqb-true i.id x same in
              let gone : is_gone (standing past q m.id) ≡ true = ap is_gone (sym (ap (λ (w : Whereabouts). w.holder) head)) ∙ (and_parts (is_some i.stand) (is_gone i.holder) settles').1 in
              subst (λ (y : ℕ). contains (acked past q) y ≡ true) own (gone_acked past q m.id gone))
          | false ↦ λ other later. settling_removed past q x n is ms tail later
        ]) refl
        | false ↦ λ none. absurd (false≢true none)
      ])
      | false ↦ λ stays later. settling_removed past q x n is ms tail later
    ]) refl has

-- ---- what is stored afterwards

or_swap : (a s k : Bool) → (a || (s || k)) ≡ (s || (a || k))
or_swap true true k = refl
or_swap true false k = refl
or_swap false s k = refl

or_false : (b : Bool) → b ≡ (b || false)
or_false true = refl
or_false false = refl

and_true : (b : Bool) → (b && true) ≡ b
and_true true = refl
and_true false = refl

and_no : (b : Bool) → (b && false) ≡ false
and_no true = refl
and_no false = refl

or_assoc' : (a b c : Bool) → (a || (b || c)) ≡ ((a || b) || c)
or_assoc' true b c = refl
or_assoc' false b c = refl

commit_stored : (kinds : Message → EntryKind) (skip : List ℕ) (x : ℕ) (items : List Item) (ms : List Message) (room segment at place : ℕ) → AllZip (HasBodies kinds) items ms
    → is_stored (commit_items skip room segment at place items) x ≡ (is_stored items x || has_id (kept_of skip room (undecided_items items) (undecided_of items ms)) x)
commit_stored kinds skip x [] [] room segment at place z = refl
commit_stored kinds skip x [] (m ∷ ms) room segment at place z = absurd z
commit_stored kinds skip x (i ∷ is) [] room segment at place z = absurd z
commit_stored kinds skip x (i ∷ is) (m ∷ ms) room segment at place z = (elim (is_some i.stand) as (λ (c : Bool). (is_some i.stand) ≡ c
    → is_stored (if c then i ∷ commit_items skip room segment at place is else (if skips (contains skip i.id) i then commit_items skip room segment at place is else (if nat_lt 0 room then decide (record { segment = segment; at = at; place = place_of i.kind place }) i ∷ commit_items skip (room - 1) segment (at + 1) (next_of i.kind place i.len) is else i ∷ is))) x
    ≡ (((i.id == x && c) || is_stored is x) || has_id (kept_of skip room (cond (not c) (i ∷ undecided_items is) (undecided_items is)) (if c then undecided_of is ms else m ∷ undecided_of is ms)) x)) [
      | true ↦ λ yes'. ap (λ (b : Bool). (i.id == x && b) || is_stored (commit_items skip room segment at place is) x) yes'
          ∙ ap (λ (b : Bool). (i.id == x && true) || b) (commit_stored kinds skip x is ms room segment at place z.1)
          ∙ or_assoc' (i.id == x && true) (is_stored is x) (has_id (kept_of skip room (undecided_items is) (undecided_of is ms)) x)
      | false ↦ λ no'. (elim (skips (contains skip i.id) i) as (λ (b : Bool).
          is_stored (if b then commit_items skip room segment at place is else (if nat_lt 0 room then decide (record { segment = segment; at = at; place = place_of i.kind place }) i ∷ commit_items skip (room - 1) segment (at + 1) (next_of i.kind place i.len) is else i ∷ is)) x
          ≡ (((i.id == x && false) || is_stored is x) || has_id (if b then kept_of skip room (undecided_items is) (undecided_of is ms) else (if nat_lt 0 room then m ∷ kept_of skip (room - 1) (undecided_items is) (undecided_of is ms) else [])) x)) [
            | true ↦ commit_stored kinds skip x is ms room segment at place z.1 ∙ ap (λ (b : Bool). (b || is_stored is x) || has_id (kept_of skip room (undecided_items is) (undecided_of is ms)) x) (sym (and_no (i.id == x)))
            | false ↦ (elim (nat_lt 0 room) as (λ (b : Bool).
                is_stored (if b then decide (record { segment = segment; at = at; place = place_of i.kind place }) i ∷ commit_items skip (room - 1) segment (at + 1) (next_of i.kind place i.len) is else i ∷ is) x
                ≡ (((i.id == x && false) || is_stored is x) || has_id (if b then m ∷ kept_of skip (room - 1) (undecided_items is) (undecided_of is ms) else []) x)) [
                  | true ↦ ap (λ (b : Bool). (i.id == x && true) || b) (commit_stored kinds skip x is ms (room - 1) segment (at + 1) (next_of i.kind place i.len) z.1)
                      ∙ ap (λ (b : Bool). b || (is_stored is x || has_id (kept_of skip (room - 1) (undecided_items is) (undecided_of is ms)) x)) (and_true (i.id == x))
                      ∙ or_swap (i.id == x) (is_stored is x) (has_id (kept_of skip (room - 1) (undecided_items is) (undecided_of is ms)) x)
                      ∙ ap (λ (b : Bool). (b || is_stored is x) || (i.id == x || has_id (kept_of skip (room - 1) (undecided_items is) (undecided_of is ms)) x)) (sym (and_no (i.id == x)))
                      ∙ ap (λ (n : ℕ). ((i.id == x && false) || is_stored is x) || (n == x || has_id (kept_of skip (room - 1) (undecided_items is) (undecided_of is ms)) x)) z.0.id
                  | false ↦ ap (λ (b : Bool). (i.id == x && b) || is_stored is x) no' ∙ or_false ((i.id == x && false) || is_stored is x)
                ])
          ])
    ]) refl

has_append : (a b : List Message) (x : ℕ) → has_id (a ++ b) x ≡ (has_id a x || has_id b x)
has_append [] b x = refl
has_append (m ∷ a) b x = ap (λ (c : Bool). (m.id == x) || c) (has_append a b x) ∙ or_assoc' (m.id == x) (has_id a x) (has_id b x)

-- a test of ids, once what has some ids is left out
any_without : {A : Type 0} (key : A → ℕ) (t : A → ℕ → Bool) → ((a : A) (x : ℕ) → t a x ≡ true → key a ≡ x) → (ids : List ℕ) (xs : List A) (x : ℕ)
    → list_any (λ a. t a x) (filter (λ a. not (contains ids (key a))) xs) ≡ (list_any (λ a. t a x) xs && not (contains ids x))
any_without key t only ids [] x = refl
any_without {A} key t only ids (a ∷ xs) x =
    let later : Bool = list_any (λ (b : A). t b x) xs in
    (elim (contains ids (key a)) as (λ (b : Bool). contains ids (key a) ≡ b → list_any (λ (b : A). t b x) (cond (not b) (a ∷ filter (λ (b : A). not (contains ids (key b))) xs) (filter (λ (b : A). not (contains ids (key b))) xs)) ≡ ((t a x || later) && not (contains ids x))) [
      | true ↦ λ gone. any_without key t only ids xs x ∙ (elim (t a x) as (λ (b : Bool). t a x ≡ b → (later && not (contains ids x)) ≡ ((b || later) && not (contains ids x))) [
        | true ↦ λ here. (let none : not (contains ids x) ≡ false = ap not (subst (λ (y : ℕ). contains ids y ≡ true) (only a x here) gone) in
            ap (λ (b : Bool). later && b) none ∙ and_no later ∙ sym none)
        | false ↦ λ other. refl
      ]) refl
      | false ↦ λ stays. ap (λ (b : Bool). t a x || b) (any_without key t only ids xs x) ∙ (elim (t a x) as (λ (b : Bool). t a x ≡ b → (b || (later && not (contains ids x))) ≡ ((b || later) && not (contains ids x))) [
        | true ↦ λ here. sym (ap not (subst (λ (y : ℕ). contains ids y ≡ false) (only a x here) stays))
        | false ↦ λ other. refl
      ]) refl
    ]) refl

pub left_has : (ids : List ℕ) (ms : List Message) (x : ℕ) → has_id (left_out ids ms) x ≡ (has_id ms x && not (contains ids x))
left_has ids ms x = any_without (λ (m : Message). m.id) (λ (m : Message) (y : ℕ). m.id == y) (λ m y here. eqb-true m.id y here) ids ms x

pub others_stored : (ids : List ℕ) (items : List Item) (x : ℕ) → is_stored (filter (λ (i : Item). not (contains ids i.id)) items) x ≡ (is_stored items x && not (contains ids x))
others_stored ids items x = any_without (λ (i : Item). i.id) (λ (i : Item) (y : ℕ). i.id == y && is_some i.stand) (λ i y here. eqb-true i.id y (and_parts (i.id == y) (is_some i.stand) here).0) ids items x

pub left_out_sublist : (ids : List ℕ) (ms : List Message) → IsSublist (left_out ids ms) ms
left_out_sublist ids ms = filter_sublist (λ m. not (contains ids m.id)) ms

pub stored_laws : StoredLaws
stored_laws = record {
  survives = λ kinds items past q held legal bodies sure are. stored_survives kinds items past q held are bodies legal sure;
  comes = λ kinds items past q held skip room legal split bodies are. commit_comes kinds items past q held are bodies skip room legal split;
  unsettled = kept_unsettled;
  suits = λ kinds items past q bodies. suit kinds items (unsettled_line past q) bodies;
  committed = λ kinds items past q held skip room segment at place legal split bodies are. record {
    sublist = commit_comes kinds items past q held are bodies skip room legal split;
    ids = λ x. has_append held (coming skip room items past q) x ∙ ap (λ (b : Bool). b || has_id (coming skip room items past q) x) (are.ids x) ∙ sym (commit_stored kinds skip x items (unsettled_line past q) room segment at place bodies);
  };
  settled = λ items past q held once are. record {
    sublist = sublist_trans (left_out (settling_ids items) held) held (line past q) (left_out_sublist (settling_ids items) held) are.sublist;
    ids = λ x. left_has (settling_ids items) held x ∙ ap (λ (b : Bool). b && not (contains (settling_ids items) x)) (are.ids x) ∙ sym (ap (λ (is : List Item). is_stored is x) (settling-filters items once) ∙ others_stored (settling_ids items) items x);
  };
  quiet = λ items past e q held none are. record { sublist = subst (IsSublist held) (sym (ap (λ (l : List Message). line past q ++ l) none ∙ append-nil (line past q))) are.sublist; ids = are.ids };
  removed = λ items past q x follows has. settling_removed past q x (lowest_segment items) items (filter (is_unsettled past q) (line past q)) follows has;
}
