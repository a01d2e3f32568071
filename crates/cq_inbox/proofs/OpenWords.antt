-- What a client's words say after one joins, is dropped or leaves.
use Rattle.std.proofs.Common.{◌≡◌, ◌≢◌, ◌↔◌, ◌⊎◌, inl, inr, ℕ, suc, ◌<◌, true, false, List, [], ◌∷◌, ◌++◌, length, get_or, set, take, drop, remove, Contains, AllPairs, HoldsAt, sym, ap, ◌∙◌, subst, ⊎_elim, arith, get_or-set_same, get_or-set_other, length-set}
use Rattle.std.specs.List.{AllWithin, take-map, drop-map}
use Rattle.std.proofs.lemmas.Bool.{cases_eq, false≢true}
use Rattle.std.proofs.lemmas.List.{get_or_default, get_or-map, map-append}
use Rattle.std.proofs.lemmas.List.Elements.{Contains-append_left, Contains-push_cases}
use Rattle.std.proofs.lemmas.List.Quantifiers.{all_pairs_push, all_pairs_remove}
use Rattle.std.proofs.Math.Seq.{map-set_same}
use lib.ListN.{length-map}
use Rattle.cq_inbox.specs.declared.words.Word.{Word}
use Rattle.cq_inbox.specs.Flags.{Joins, Leaves, deliveries, words_of, IsDropped, IsDroppedOf}
use Rattle.cq_inbox.proofs.Members.{remove_gives, remove_keeps, same_place, push_joins, remove_leaves}

abbrev named : Word → ℕ
named w = w.delivery

-- the word of a delivery that is dropped
abbrev pub down : ℕ → Word
down d = record { delivery = d; dropped = true }

abbrev pub Distinct : List Word → Type 0
Distinct ws = AllPairs (λ d e. d ≢ e) (deliveries ws)

-- the word at this place is of the delivery
abbrev pub Stands : List Word → ℕ → ℕ → Type 0
Stands ws i d = HoldsAt (λ (w : Word). w.delivery ≡ d) ws i

within : (ws : List Word) (i : ℕ) → i < length ws → i < length (deliveries ws)
within ws i near = subst (λ (n : ℕ). i < n) (sym (length-map ws named)) near

at_delivery : (ws : List Word) (i d : ℕ) → i < length ws → Stands ws i d → get_or (deliveries ws) i d ≡ d
at_delivery ws i d near here = get_or-map named ws i (down d) d near ∙ here (down d)

-- a dropped word is a word
pub dropped_opened : (ws : List Word) (d : ℕ) → IsDropped ws d → Contains (deliveries ws) d
dropped_opened ws d h = (h.0, within ws h.0 h.1, get_or-map named ws h.0 (down d) d h.1 ∙ ap named h.2)

pub opened_here : (ws : List Word) (i d : ℕ) → i < length ws → Stands ws i d → Contains (deliveries ws) d
opened_here ws i d near here = (i, within ws i near, at_delivery ws i d near here)

pub not_opened : (ws : List Word) (d : ℕ) → AllWithin (λ (w : Word). w.delivery ≢ d) ws 0 (length ws) → Contains (deliveries ws) d → ⊥
not_opened ws d none h =
    let near : h.0 < length ws = subst (λ (n : ℕ). h.0 < n) (length-map ws named) h.1 in
    none h.0 (down d) (omega arith) near (sym (get_or-map named ws h.0 (down d) d near) ∙ h.2)

-- a dropped word of the delivery stands where its word does
pub here_dropped : (ws : List Word) (i d : ℕ) → Distinct ws → i < length ws → Stands ws i d → IsDropped ws d → (get_or ws i (down d)).dropped ≡ true
here_dropped ws i d distinct near here h =
    let is : get_or (deliveries ws) h.0 d ≡ d = get_or-map named ws h.0 (down d) d h.1 ∙ ap named h.2 in
    let place : h.0 ≡ i = same_place (deliveries ws) h.0 i d distinct (within ws h.0 h.1) (within ws i near) (is ∙ sym (at_delivery ws i d near here)) in
    ap (λ (n : ℕ). (get_or ws n (down d)).dropped) (sym place) ∙ ap (λ (w : Word). w.dropped) h.2

pub dropped_here : (ws : List Word) (i d : ℕ) → i < length ws → Stands ws i d → (get_or ws i (down d)).dropped ≡ true → IsDropped ws d
dropped_here ws i d near here off = (i, near, λ k. record { delivery = here (down d) k; dropped = off k })

-- ---- one joins
pub open_distinct : (ws : List Word) (w : Word) → Distinct ws → ¬ Contains (deliveries ws) w.delivery → Distinct (ws ++ w ∷ [])
open_distinct ws w distinct fresh =
    subst (AllPairs (λ (d e : ℕ). d ≢ e)) (sym (map-append named ws (w ∷ [])))
    (all_pairs_push (λ d e. d ≢ e) (deliveries ws) w.delivery distinct (λ k d near same. fresh (k, near, get_or_default (deliveries ws) k w.delivery d near ∙ same)))

pub open_joins : (ws : List Word) (w : Word) → Joins w.delivery (deliveries ws) (deliveries (ws ++ w ∷ []))
open_joins ws w = subst (Joins w.delivery (deliveries ws)) (sym (map-append named ws (w ∷ []))) (push_joins (deliveries ws) w.delivery)

pub open_dropped : (ws : List Word) (w : Word) → w.dropped ≡ false → (d : ℕ) → IsDropped (ws ++ w ∷ []) d ↔ IsDropped ws d
open_dropped ws w off d = (
  (λ h. ⊎_elim (λ old. old) (λ (e : w ≡ down d). absurd (false≢true (sym off ∙ ap (λ (x : Word). x.dropped) e))) (Contains-push_cases ws w (down d) h)),
  (λ h. Contains-append_left ws (w ∷ []) (down d) h),
)

-- ---- one leaves
deliveries_remove : (ws : List Word) (i : ℕ) → deliveries (remove ws i) ≡ remove (deliveries ws) i
deliveries_remove ws i = map-append named (take i ws) (drop (suc i) ws) ∙ (λ k. sym (take-map named i ws) k ++ sym (drop-map named (suc i) ws) k)

pub close_distinct : (ws : List Word) (i : ℕ) → Distinct ws → i < length ws → Distinct (remove ws i)
close_distinct ws i distinct near = subst (AllPairs (λ (d e : ℕ). d ≢ e)) (sym (deliveries_remove ws i)) (all_pairs_remove (λ d e. d ≢ e) (deliveries ws) i (within ws i near) distinct)

pub close_leaves : (ws : List Word) (i d : ℕ) → Distinct ws → i < length ws → Stands ws i d → Leaves d (deliveries ws) (deliveries (remove ws i))
close_leaves ws i d distinct near here = subst (Leaves d (deliveries ws)) (sym (deliveries_remove ws i)) (remove_leaves (deliveries ws) i d (within ws i near) (at_delivery ws i d near here) distinct)

pub close_dropped : (ws : List Word) (i d : ℕ) → Distinct ws → i < length ws → Stands ws i d → (x : ℕ) → IsDropped (remove ws i) x ↔ (IsDropped ws x × (x ≢ d))
close_dropped ws i d distinct near here x =
    let gone : get_or (deliveries ws) i x ≡ d = get_or-map named ws i (down d) x near ∙ here (down d) in (
      (λ h.
          let g = remove_gives ws i (down x) near h in
          let is : get_or (deliveries ws) g.0 x ≡ x = get_or-map named ws g.0 (down x) x g.1 ∙ ap named g.3 in (
            (g.0, g.1, g.3),
            λ (e : x ≡ d). g.2 (same_place (deliveries ws) g.0 i x distinct (within ws g.0 g.1) (within ws i near) (is ∙ (e ∙ sym gone))),
          )),
      (λ h. remove_keeps ws i h.0.0 (down x) near h.0.1 (λ (e : h.0.0 ≡ i). h.1 (sym (ap named h.0.2) ∙ (ap (λ (n : ℕ). (get_or ws n (down x)).delivery) e ∙ here (down x)))) h.0.2),
    )

-- ---- one is dropped
pub drop_deliveries : (ws : List Word) (i d : ℕ) (w : Word) → Stands ws i d → w.delivery ≡ d → deliveries (set ws i w) ≡ deliveries ws
drop_deliveries ws i d w here is = map-set_same named ws i w (down d) (is ∙ sym (here (down d)))

pub drop_dropped : (ws : List Word) (i d : ℕ) → i < length ws → Stands ws i d → (x : ℕ) → IsDropped (set ws i (down d)) x ↔ (IsDropped ws x ⊎ (x ≡ d))
drop_dropped ws i d near here x =
    let long : length (set ws i (down d)) ≡ length ws = length-set ws i (down d) in
    let set_here : get_or (set ws i (down d)) i (down x) ≡ down d = get_or-set_same ws i (down d) (down x) near in
    let now : x ≡ d → IsDropped (set ws i (down d)) x = λ e. (i, subst (λ (n : ℕ). i < n) (sym long) near, set_here ∙ ap down (sym e)) in (
      (λ h. ⊎_elim
          (λ (e : h.0 ≡ i). inr (ap named (sym h.2 ∙ (ap (λ (n : ℕ). get_or (set ws i (down d)) n (down x)) e ∙ set_here))))
          (λ (ne : h.0 ≢ i). inl (h.0, subst (λ (n : ℕ). h.0 < n) long h.1, sym (get_or-set_other ws i h.0 (down d) (down x) ne) ∙ h.2))
          (cases_eq h.0 i)),
      (λ h. ⊎_elim
          (λ (old : IsDropped ws x). ⊎_elim
          (λ (e : old.0 ≡ i). now (sym (ap named old.2) ∙ (ap (λ (n : ℕ). (get_or ws n (down x)).delivery) e ∙ here (down x))))
          (λ (ne : old.0 ≢ i). (old.0, subst (λ (n : ℕ). old.0 < n) (sym long) old.1, get_or-set_other ws i old.0 (down d) (down x) ne ∙ old.2))
          (cases_eq old.0 i))
          now
          h),
    )

-- ---- the words of all clients
pub read_client : (all : List (List Word)) (c : ℕ) (ws : List Word) → c < length all → ws ≡ get_or all c ws → ws ≡ words_of all c
read_client all c ws near read = read ∙ get_or_default all c ws [] near

-- what holds of a client's words and of its new ones holds so of all
pub of_client : (R : List Word → List Word → Type 0) (all : List (List Word)) (c : ℕ) (ws new : List Word) → c < length all → ws ≡ get_or all c ws → R ws new → R (words_of all c) (words_of (set all c new) c)
of_client R all c ws new near read h = subst (λ (y : List Word × List Word). R y.0 y.1) (λ i. (read_client all c ws near read i, sym (get_or-set_same all c new [] near) i)) h

pub of_other : (all : List (List Word)) (c other : ℕ) (new : List Word) (d : ℕ) → other ≢ c → IsDroppedOf (set all c new) other d ↔ IsDroppedOf all other d
of_other all c other new d ne =
    let same : words_of (set all c new) other ≡ words_of all other = get_or-set_other all c other new [] ne in
    ((λ h. subst (λ (ws : List Word). IsDropped ws d) same h), (λ h. subst (λ (ws : List Word). IsDropped ws d) (sym same) h))
