-- What a commit makes of the messages in memory: those that it skips are gone, and of the others some stand.
use Rattle.std.proofs.Common.{◌≡◌, ⊎_elim, ℕ, ◌+◌, ◌-◌, Bool, true, false, not, cond, List, [], ◌∷◌, filter, map, refl, sym, ap, ◌∙◌, subst}
use Rattle.std.specs.Prelude.{is_some, ◌==◌, ◌||◌, nat_lt}
use Rattle.std.specs.List.{AllZip}
use Rattle.std.proofs.lemmas.Bool.{false≢true, or_cases, or_left, or_right, eq-eqb, ne_eqb, both_ways, false_from_ne_true}
use Rattle.cq_bytes.specs.Numbers.{contains}
use Rattle.cq_items.specs.Item.{Item}
use Rattle.cq_items.specs.declared.item.Stand.{Stand}
use Rattle.cq_items.specs.declared.item.Passed.{Passed}
use Rattle.cq_items.specs.Items.{skips, decide, has_item, undecided_items}
use Rattle.cq_queue_laws.specs.Follows.{Whereabouts, bare}
use Rattle.cq_queue_laws.specs.Laws.{AreOnce}
use Rattle.cq_queue.specs.Laid.{place_of, next_of}
use Rattle.cq_queue.specs.Passing.{commit_items, passed_of}
use Rattle.cq_queue.specs.Tied.{AreSplit}
use Rattle.cq_stored.specs.InStep.{skipped_of}
use Rattle.cq_stored.proofs.Alike.{Becomes}

-- the ids of those that are skipped, read off the messages
abbrev skipped_in : List ℕ → ℕ → List Item → List ℕ
skipped_in skip room [] = []
skipped_in skip room (i ∷ is) = cond (skips (contains skip i.id) i) (i.id ∷ skipped_in skip room is) (cond (nat_lt 0 room) (skipped_in skip (room - 1) is) [])

abbrev told : List Passed → List ℕ
told ps = map (λ (p : Passed). p.id) (filter (λ (p : Passed). not p.kept) ps)

pub skipped_same : (skip : List ℕ) (room : ℕ) (is : List Item) → skipped_of skip room is ≡ skipped_in skip room is
skipped_same skip room [] = refl
skipped_same skip room (i ∷ is) = elim (skips (contains skip i.id) i) as (λ (b : Bool). told (cond b (record { id = i.id; kept = false } ∷ passed_of skip room is) (cond (nat_lt 0 room) (record { id = i.id; kept = true } ∷ passed_of skip (room - 1) is) []))
    ≡ cond b (i.id ∷ skipped_in skip room is) (cond (nat_lt 0 room) (skipped_in skip (room - 1) is) [])) [
      | true ↦ ap (λ (l : List ℕ). i.id ∷ l) (skipped_same skip room is)
      | false ↦ elim (nat_lt 0 room) as (λ (b : Bool). told (cond b (record { id = i.id; kept = true } ∷ passed_of skip (room - 1) is) []) ≡ cond b (skipped_in skip (room - 1) is) []) [
        | true ↦ skipped_same skip (room - 1) is
        | false ↦ refl
      ]
    ]

-- they are ids of the messages
skipped_has : (skip : List ℕ) (room : ℕ) (is : List Item) (x : ℕ) → contains (skipped_in skip room (undecided_items is)) x ≡ true → has_item is x ≡ true
skipped_has skip room [] x has = has
skipped_has skip room (i ∷ is) x has =
    (elim (is_some i.stand) as (λ (b : Bool). contains (skipped_in skip room (cond (not b) (i ∷ undecided_items is) (undecided_items is))) x ≡ true → (i.id == x || has_item is x) ≡ true) [
      | true ↦ λ has. or_right (i.id == x) (has_item is x) (skipped_has skip room is x has)
      | false ↦ (elim (skips (contains skip i.id) i) as (λ (b : Bool). contains (cond b (i.id ∷ skipped_in skip room (undecided_items is)) (cond (nat_lt 0 room) (skipped_in skip (room - 1) (undecided_items is)) [])) x ≡ true → (i.id == x || has_item is x) ≡ true) [
        | true ↦ λ has. ⊎_elim (λ here. or_left (i.id == x) (has_item is x) here) (λ later. or_right (i.id == x) (has_item is x) (skipped_has skip room is x later)) (or_cases (i.id == x) (contains (skipped_in skip room (undecided_items is)) x) has)
        | false ↦ (elim (nat_lt 0 room) as (λ (b : Bool). contains (cond b (skipped_in skip (room - 1) (undecided_items is)) []) x ≡ true → (i.id == x || has_item is x) ≡ true) [
          | true ↦ λ has. or_right (i.id == x) (has_item is x) (skipped_has skip (room - 1) is x has)
          | false ↦ λ none. absurd (false≢true none)
        ])
      ])
    ]) has

-- a message of which at most where it stands has changed
pub record Decides (i j : Item) : Type 0 where
  pub becomes : Becomes i j
  pub same : bare j ≡ bare i

as_it_was : (i : Item) → Decides i i
as_it_was i = record { becomes = record { id = refl; len = refl; kind = refl; body = λ open_. (open_, refl) }; same = refl }

decided : (s : Stand) (i : Item) → Decides i (decide s i)
decided s i = record { becomes = record { id = refl; len = refl; kind = refl; body = λ open_. absurd (false≢true (sym open_)) }; same = refl }

-- where a test drops nobody
none_drops : (t : ℕ → Bool) (is : List Item) → ((x : ℕ) → has_item is x ≡ true → t x ≡ false) → AllZip Decides (filter (λ (i : Item). not (t i.id)) is) is
none_drops t [] stay = tt
none_drops t (i ∷ is) stay =
    subst (λ (b : Bool). AllZip Decides (cond (not b) (i ∷ filter (λ (i : Item). not (t i.id)) is) (filter (λ (i : Item). not (t i.id)) is)) (i ∷ is)) (sym (stay i.id (or_left _ _ (eq-eqb i.id i.id refl))))
    (as_it_was i, none_drops t is (λ x has. stay x (or_right _ _ has)))

-- a test of ids that drops those that are skipped
commit_by : (t : ℕ → Bool) (skip : List ℕ) (room segment at place : ℕ) (is : List Item) → AreOnce is → ((x : ℕ) → has_item is x ≡ true → t x ≡ contains (skipped_in skip room (undecided_items is)) x)
    → AllZip Decides (filter (λ (i : Item). not (t i.id)) is) (commit_items skip room segment at place is)
commit_by t skip room segment at place [] once tells = tt
commit_by t skip room segment at place (i ∷ is) once tells =
    let stays : Item = decide (record { segment = segment; at = at; place = place_of i.kind place }) i in
    let more : List Item = commit_items skip (room - 1) segment (at + 1) (next_of i.kind place i.len) is in
    let left : List Item = filter (λ (j : Item). not (t j.id)) is in
    let here : (i.id == i.id || has_item is i.id) ≡ true = or_left _ _ (eq-eqb i.id i.id refl) in
    let other : (x : ℕ) → has_item is x ≡ true → (i.id == x) ≡ false = λ x has. ne_eqb i.id x (λ e. both_ways _ once.0 (subst (λ k. has_item is k ≡ true) (sym e) has)) in
    let not_skipped : (n : ℕ) → contains (skipped_in skip n (undecided_items is)) i.id ≡ false = λ n. false_from_ne_true _ (λ has. both_ways _ once.0 (skipped_has skip n is i.id has)) in
    let keep : (j : Item) (js : List Item) → Decides i j → t i.id ≡ false → AllZip Decides left js → AllZip Decides (cond (not (t i.id)) (i ∷ left) left) (j ∷ js)
    = λ j js d stays z. subst (λ (b : Bool). AllZip Decides (cond (not b) (i ∷ left) left) (j ∷ js)) (sym stays) (d, z) in
    let drop_one : (js : List Item) → t i.id ≡ true → AllZip Decides left js → AllZip Decides (cond (not (t i.id)) (i ∷ left) left) js
    = λ js gone z. subst (λ (b : Bool). AllZip Decides (cond (not b) (i ∷ left) left) js) (sym gone) z in
    (elim (is_some i.stand) as (λ (b : Bool). ((x : ℕ) → (i.id == x || has_item is x) ≡ true → t x ≡ contains (skipped_in skip room (cond (not b) (i ∷ undecided_items is) (undecided_items is))) x)
    → AllZip Decides (cond (not (t i.id)) (i ∷ left) left) (cond b (i ∷ commit_items skip room segment at place is) (cond (skips (contains skip i.id) i) (commit_items skip room segment at place is) (cond (nat_lt 0 room) (stays ∷ more) (i ∷ is))))) [
      | true ↦ λ tells. keep i (commit_items skip room segment at place is) (as_it_was i) (tells i.id here ∙ not_skipped room) (commit_by t skip room segment at place is once.1 (λ x has. tells x (or_right _ _ has)))
      | false ↦ (elim (skips (contains skip i.id) i) as (λ (b : Bool). ((x : ℕ) → (i.id == x || has_item is x) ≡ true → t x ≡ contains (cond b (i.id ∷ skipped_in skip room (undecided_items is)) (cond (nat_lt 0 room) (skipped_in skip (room - 1) (undecided_items is)) [])) x)
          → AllZip Decides (cond (not (t i.id)) (i ∷ left) left) (cond b (commit_items skip room segment at place is) (cond (nat_lt 0 room) (stays ∷ more) (i ∷ is)))) [
            | true ↦ λ tells. drop_one (commit_items skip room segment at place is) (tells i.id here ∙ or_left _ _ (eq-eqb i.id i.id refl))
                (commit_by t skip room segment at place is once.1 (λ x has. tells x (or_right _ _ has) ∙ ap (λ (b : Bool). b || contains (skipped_in skip room (undecided_items is)) x) (other x has)))
            | false ↦ (elim (nat_lt 0 room) as (λ (b : Bool). ((x : ℕ) → (i.id == x || has_item is x) ≡ true → t x ≡ contains (cond b (skipped_in skip (room - 1) (undecided_items is)) []) x)
                → AllZip Decides (cond (not (t i.id)) (i ∷ left) left) (cond b (stays ∷ more) (i ∷ is))) [
                  | true ↦ λ tells. keep stays more (decided (record { segment = segment; at = at; place = place_of i.kind place }) i) (tells i.id here ∙ not_skipped (room - 1))
                      (commit_by t skip (room - 1) segment (at + 1) (next_of i.kind place i.len) is once.1 (λ x has. tells x (or_right _ _ has)))
                  | false ↦ λ tells. none_drops t (i ∷ is) tells
                ])
          ])
    ]) tells

pub commit_decides : (skip : List ℕ) (room segment at place : ℕ) (is : List Item) → AreOnce is
    → AllZip Decides (filter (λ (i : Item). not (contains (skipped_of skip room (undecided_items is)) i.id)) is) (commit_items skip room segment at place is)
commit_decides skip room segment at place is once = commit_by (contains (skipped_of skip room (undecided_items is))) skip room segment at place is once (λ x has. ap (λ (l : List ℕ). contains l x) (skipped_same skip room (undecided_items is)))

pub decides_become : (is js : List Item) → AllZip Decides is js → AllZip Becomes is js
decides_become [] [] z = tt
decides_become [] (j ∷ js) z = absurd z
decides_become (i ∷ is) [] z = absurd z
decides_become (i ∷ is) (j ∷ js) z = (z.0.becomes, decides_become is js z.1)

pub decides_bare : (is js : List Item) → AllZip Decides is js → map bare js ≡ map bare is
decides_bare [] [] z = refl
decides_bare [] (j ∷ js) z = absurd z
decides_bare (i ∷ is) [] z = absurd z
decides_bare (i ∷ is) (j ∷ js) z = ap (λ (w : Whereabouts). w ∷ map bare js) z.0.same ∙ ap (λ (l : List Whereabouts). bare i ∷ l) (decides_bare is js z.1)

pub commit_split : (skip : List ℕ) (room segment at place : ℕ) (is : List Item) → AreSplit is → AreSplit (commit_items skip room segment at place is)
commit_split skip room segment at place [] split = tt
commit_split skip room segment at place (i ∷ is) split =
    let s : Stand = record { segment = segment; at = at; place = place_of i.kind place } in
    let more : List Item = commit_items skip (room - 1) segment (at + 1) (next_of i.kind place i.len) is in
    (elim (is_some i.stand) as (λ (b : Bool). is_some i.stand ≡ b → AreSplit (cond b (i ∷ commit_items skip room segment at place is) (cond (skips (contains skip i.id) i) (commit_items skip room segment at place is) (cond (nat_lt 0 room) (decide s i ∷ more) (i ∷ is))))) [
      | true ↦ λ stands. ((λ open_. absurd (false≢true (sym open_ ∙ stands))), commit_split skip room segment at place is split.1)
      | false ↦ λ open_. (elim (skips (contains skip i.id) i) as (λ (b : Bool). AreSplit (cond b (commit_items skip room segment at place is) (cond (nat_lt 0 room) (decide s i ∷ more) (i ∷ is)))) [
        | true ↦ commit_split skip room segment at place is split.1
        | false ↦ (elim (nat_lt 0 room) as (λ (b : Bool). AreSplit (cond b (decide s i ∷ more) (i ∷ is))) [
          | true ↦ ((λ none. absurd (false≢true (sym none))), commit_split skip (room - 1) segment (at + 1) (next_of i.kind place i.len) is split.1)
          | false ↦ split
        ])
      ])
    ]) refl
