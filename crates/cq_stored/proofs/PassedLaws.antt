-- What is true of the entries that a commit passes.
use Rattle.std.proofs.Common.{◌≡◌, ⊎_elim, ℕ, ◌+◌, ◌-◌, zero, suc, Bool, true, false, not, cond, List, [], ◌∷◌, length, drop, filter, map, refl, sym, ap, ◌∙◌, subst}
use Rattle.std.specs.Prelude.{is_some, ◌==◌, ◌&&◌, nat_lt}
use Rattle.std.proofs.lemmas.Bool.{or_parts, or_cases, or_left, or_right, and_from, eq-eqb}
use Rattle.cq_bytes.specs.Numbers.{contains}
use Rattle.cq_journal.specs.declared.event.Entry.{Entry}
use Rattle.cq_journal.specs.declared.event.Message.{Message}
use Rattle.cq_journal.specs.Lists.{IsIn}
use Rattle.cq_journal.specs.History.{acked}
use Rattle.cq_journal.proofs.Lists.{any-filter}
use Rattle.cq_folder.proofs.Sublists.{clash}
use Rattle.cq_items.specs.Item.{Item}
use Rattle.cq_items.specs.declared.item.Stand.{Stand}
use Rattle.cq_items.specs.declared.item.Passed.{Passed}
use Rattle.cq_items.specs.Items.{is_gone, skips, decide, has_item, undecided, undecided_items}
use Rattle.cq_queue_laws.specs.Follows.{Whereabouts, bare, stands}
use Rattle.cq_queue_laws.specs.Laws.{AreOnce}
use Rattle.cq_queue.specs.Laid.{place_of, next_of}
use Rattle.cq_queue.specs.Passing.{commit_items, passed_of}
use Rattle.cq_stored.specs.Stored.{is_stored, unsettled_line}
use Rattle.cq_stored.specs.Passed.{PassedLaws}
use Rattle.cq_stored.proofs.Holding.{gone_acked}

abbrev skipped : Item → Passed
skipped i = record { id = i.id; kept = false }

abbrev kept : Item → Passed
kept i = record { id = i.id; kept = true }

rest_undecided : (items : List Item) (skip : List ℕ) (room segment at place : ℕ) → undecided_items (commit_items skip room segment at place items) ≡ drop (length (passed_of skip room (undecided_items items))) (undecided_items items)
rest_undecided [] skip room segment at place = refl
rest_undecided (i ∷ is) skip room segment at place =
    let s : Stand = record { segment = segment; at = at; place = place_of i.kind place } in
    let front : List Item = commit_items skip room segment at place is in
    let more : List Item = commit_items skip (room - 1) segment (at + 1) (next_of i.kind place i.len) is in
    let us : List Item = undecided_items is in
    (elim (is_some i.stand) as (λ (b : Bool). is_some i.stand ≡ b → undecided_items (cond b (i ∷ front) (cond (skips (contains skip i.id) i) front (cond (nat_lt 0 room) (decide s i ∷ more) (i ∷ is))))
    ≡ drop (length (passed_of skip room (cond (not b) (i ∷ us) us))) (cond (not b) (i ∷ us) us)) [
      | true ↦ λ e. ap (λ (b : Bool). cond (not b) (i ∷ undecided_items front) (undecided_items front)) e ∙ rest_undecided is skip room segment at place
      | false ↦ λ e. (elim (skips (contains skip i.id) i) as (λ (b : Bool). undecided_items (cond b front (cond (nat_lt 0 room) (decide s i ∷ more) (i ∷ is)))
          ≡ drop (length (cond b (skipped i ∷ passed_of skip room us) (cond (nat_lt 0 room) (kept i ∷ passed_of skip (room - 1) us) []))) (i ∷ us)) [
            | true ↦ rest_undecided is skip room segment at place
            | false ↦ (elim (nat_lt 0 room) as (λ (b : Bool). undecided_items (cond b (decide s i ∷ more) (i ∷ is)) ≡ drop (length (cond b (kept i ∷ passed_of skip (room - 1) us) [])) (i ∷ us)) [
              | true ↦ rest_undecided is skip (room - 1) segment (at + 1) (next_of i.kind place i.len)
              | false ↦ ap (λ (b : Bool). cond (not b) (i ∷ us) us) e
            ])
          ])
    ]) refl

none_dropped : (n : ℕ) (is : List Item) (x : ℕ) → has_item is x ≡ false → has_item (drop n is) x ≡ false
none_dropped zero is x none = none
none_dropped (suc n) [] x none = none
none_dropped (suc n) (i ∷ is) x none = none_dropped n is x (or_parts (i.id == x) (has_item is x) none).1

passed_left : (skip : List ℕ) (room : ℕ) (us : List Item) (p : Passed) → AreOnce us → IsIn (passed_of skip room us) p → has_item (drop (length (passed_of skip room us)) us) p.id ≡ false
passed_left skip room [] p once there = absurd there
passed_left skip room (i ∷ is) p once there =
    (elim (skips (contains skip i.id) i) as (λ (b : Bool). IsIn (cond b (skipped i ∷ passed_of skip room is) (cond (nat_lt 0 room) (kept i ∷ passed_of skip (room - 1) is) [])) p
    → has_item (drop (length (cond b (skipped i ∷ passed_of skip room is) (cond (nat_lt 0 room) (kept i ∷ passed_of skip (room - 1) is) []))) (i ∷ is)) p.id ≡ false) [
      | true ↦ ⊎_elim
          (λ here. subst (λ (k : ℕ). has_item (drop (length (passed_of skip room is)) is) k ≡ false) (ap (λ (r : Passed). r.id) here) (none_dropped (length (passed_of skip room is)) is i.id once.0))
          (λ later. passed_left skip room is p once.1 later)
      | false ↦ (elim (nat_lt 0 room) as (λ (b : Bool). IsIn (cond b (kept i ∷ passed_of skip (room - 1) is) []) p → has_item (drop (length (cond b (kept i ∷ passed_of skip (room - 1) is) [])) (i ∷ is)) p.id ≡ false) [
        | true ↦ ⊎_elim
            (λ here. subst (λ (k : ℕ). has_item (drop (length (passed_of skip (room - 1) is)) is) k ≡ false) (ap (λ (r : Passed). r.id) here) (none_dropped (length (passed_of skip (room - 1) is)) is i.id once.0))
            (λ later. passed_left skip (room - 1) is p once.1 later)
        | false ↦ λ none. absurd none
      ])
    ]) there

pub once_filter : (t : Item → Bool) (is : List Item) → AreOnce is → AreOnce (filter t is)
once_filter t [] once = tt
once_filter t (i ∷ is) once = elim (t i) as (λ (b : Bool). AreOnce (cond b (i ∷ filter t is) (filter t is))) [
  | true ↦ (any-filter (λ (j : Item). j.id == i.id) t is once.0, once_filter t is once.1)
  | false ↦ once_filter t is once.1
]

kept_stored : (items : List Item) (skip : List ℕ) (room segment at place : ℕ) (p : Passed) → IsIn (passed_of skip room (undecided_items items)) p → p.kept ≡ true → is_stored (commit_items skip room segment at place items) p.id ≡ true
kept_stored [] skip room segment at place p there is_kept = absurd there
kept_stored (i ∷ is) skip room segment at place p there is_kept =
    let s : Stand = record { segment = segment; at = at; place = place_of i.kind place } in
    let front : List Item = commit_items skip room segment at place is in
    let more : List Item = commit_items skip (room - 1) segment (at + 1) (next_of i.kind place i.len) is in
    let us : List Item = undecided_items is in
    (elim (is_some i.stand) as (λ (b : Bool). IsIn (passed_of skip room (cond (not b) (i ∷ us) us)) p
    → is_stored (cond b (i ∷ front) (cond (skips (contains skip i.id) i) front (cond (nat_lt 0 room) (decide s i ∷ more) (i ∷ is)))) p.id ≡ true) [
      | true ↦ λ there. or_right (i.id == p.id && is_some i.stand) (is_stored front p.id) (kept_stored is skip room segment at place p there is_kept)
      | false ↦ (elim (skips (contains skip i.id) i) as (λ (b : Bool). IsIn (cond b (skipped i ∷ passed_of skip room us) (cond (nat_lt 0 room) (kept i ∷ passed_of skip (room - 1) us) [])) p
          → is_stored (cond b front (cond (nat_lt 0 room) (decide s i ∷ more) (i ∷ is))) p.id ≡ true) [
            | true ↦ ⊎_elim
                (λ here. clash p.kept (ap (λ (r : Passed). r.kept) (sym here)) is_kept)
                (λ later. kept_stored is skip room segment at place p later is_kept)
            | false ↦ (elim (nat_lt 0 room) as (λ (b : Bool). IsIn (cond b (kept i ∷ passed_of skip (room - 1) us) []) p → is_stored (cond b (decide s i ∷ more) (i ∷ is)) p.id ≡ true) [
              | true ↦ ⊎_elim
                  (λ here. or_left (i.id == p.id && true) (is_stored more p.id) (and_from (i.id == p.id) true (eq-eqb i.id p.id (ap (λ (r : Passed). r.id) here)) refl))
                  (λ later. or_right (i.id == p.id && true) (is_stored more p.id) (kept_stored is skip (room - 1) segment (at + 1) (next_of i.kind place i.len) p later is_kept))
              | false ↦ λ none. absurd none
            ])
          ])
    ]) there

skipped_gone : (past : List Entry) (q : ℕ) (items : List Item) (ms : List Message) (skip : List ℕ) (room : ℕ) (p : Passed) → map bare items ≡ map (stands past q) ms → IsIn (passed_of skip room (undecided_items items)) p
    → p.kept ≡ false → contains skip p.id ≡ false → contains (acked past q) p.id ≡ true
skipped_gone past q [] ms skip room p follows there left asked = absurd there
skipped_gone past q (i ∷ is) [] skip room p follows there left asked = cc
skipped_gone past q (i ∷ is) (m ∷ ms) skip room p follows there left asked =
    let head : bare i ≡ stands past q m = cc in
    let tail : map bare is ≡ map (stands past q) ms = cc in
    let us : List Item = undecided_items is in
    (elim (is_some i.stand) as (λ (b : Bool). IsIn (passed_of skip room (cond (not b) (i ∷ us) us)) p → contains (acked past q) p.id ≡ true) [
      | true ↦ λ there. skipped_gone past q is ms skip room p tail there left asked
      | false ↦ (elim (skips (contains skip i.id) i) as (λ (b : Bool). skips (contains skip i.id) i ≡ b → IsIn (cond b (skipped i ∷ passed_of skip room us) (cond (nat_lt 0 room) (kept i ∷ passed_of skip (room - 1) us) [])) p → contains (acked past q) p.id ≡ true) [
        | true ↦ λ skips_it. ⊎_elim
            (λ here.
            let own : i.id ≡ p.id = ap (λ (r : Passed). r.id) here in
            let gone : is_gone i.holder ≡ true = ⊎_elim (λ named. clash (contains skip p.id) asked (subst (λ (k : ℕ). contains skip k ≡ true) own named)) (λ gone. gone) (or_cases (contains skip i.id) (is_gone i.holder) skips_it) in
            subst (λ (k : ℕ). contains (acked past q) k ≡ true) (sym (ap (λ (w : Whereabouts). w.id) head) ∙ own) (gone_acked past q m.id (ap is_gone (sym (ap (λ (w : Whereabouts). w.holder) head)) ∙ gone)))
            (λ later. skipped_gone past q is ms skip room p tail later left asked)
        | false ↦ λ stays. (elim (nat_lt 0 room) as (λ (b : Bool). IsIn (cond b (kept i ∷ passed_of skip (room - 1) us) []) p → contains (acked past q) p.id ≡ true) [
          | true ↦ ⊎_elim
              (λ here. clash p.kept left (ap (λ (r : Passed). r.kept) (sym here)))
              (λ later. skipped_gone past q is ms skip (room - 1) p tail later left asked)
          | false ↦ λ none. absurd none
        ])
      ]) refl
    ]) there

pub passed_laws : PassedLaws
passed_laws = record {
  rest = rest_undecided;
  decided = λ items skip room segment at place p once there. ap (λ (is : List Item). has_item is p.id) (rest_undecided items skip room segment at place)
      ∙ passed_left skip room (undecided_items items) p (once_filter undecided items once) there;
  kept = kept_stored;
  gone = λ items past q skip room p follows there left asked. skipped_gone past q items (unsettled_line past q) skip room p follows there left asked;
}
