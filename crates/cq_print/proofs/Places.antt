-- The lines of a client by recursion alone, without the place that is left out.
use Rattle.std.proofs.Common.{◌≡◌, ◌≢◌, ℕ, ◌≤◌, ◌<◌, true, false, cond, List, [], ◌∷◌, ◌++◌, length, refl, sym, ap, ◌∙◌, append-nil, arith}
use Rattle.std.specs.Prelude.{Option}
use Rattle.std.proofs.lemmas.Bool.{eq-eqb, ne_eqb}
use Rattle.cq_bytes.specs.Numbers.{contains}
use Rattle.cq_journal.specs.declared.event.Entry.{Entry}
use Rattle.cq_print.specs.Text.{confirmed_lines, is_delivery_to}
use Rattle.cq_print.specs.Lines.{own_line, reply_lines, last_place, client_lines}

module _ (bodies : ℕ → Option (List ℕ)) (c : ℕ) where
  -- the lines of all replies to the client
  abbrev pub all_replies : List Entry → List (List ℕ)
  all_replies [] = []
  all_replies (e ∷ past) = all_replies past ++ own_line bodies c e.event

  -- and without its last delivery
  abbrev pub but_last : List Entry → List (List ℕ)
  but_last [] = []
  but_last (e ∷ past) = cond (is_delivery_to c e.event) (all_replies past) (but_last past ++ own_line bodies c e.event)

  -- with no place left out
  all-put : (past : List Entry) (place : ℕ) → length past ≤ place → reply_lines bodies c place past ≡ all_replies past
  all-put [] place n = refl
  all-put (e ∷ past) place n =
      let other : length past ≢ place = λ s. omega (arith, s) in
      let shorter : length past ≤ place = omega arith in
      ap (λ b. reply_lines bodies c place past ++ cond b [] (own_line bodies c e.event)) (ne_eqb (length past) place other)
      ∙ ap (λ xs. xs ++ own_line bodies c e.event) (all-put past place shorter)

  place-apart : (past : List Entry) (none place : ℕ) → length past ≤ place → place < none → last_place none c past ≢ place
  place-apart [] none place n m = λ s. omega (arith, s)
  place-apart (e ∷ past) none place n m =
      elim (is_delivery_to c e.event) as (λ t. cond t (length past) (last_place none c past) ≢ place)
      [ true ↦ λ s. omega (arith, s) | false ↦ place-apart past none place (omega arith) m ]

  -- with that of the last delivery left out
  last-cut : (past : List Entry) (none : ℕ) → length past ≤ none → reply_lines bodies c (last_place none c past) past ≡ but_last past
  last-cut [] none n = refl
  last-cut (e ∷ past) none n =
      let shorter : length past ≤ none = omega arith in
      let apart : length past ≢ last_place none c past = λ s. place-apart past none (length past) (omega arith) (omega arith) (sym s) in
      elim (is_delivery_to c e.event) as (λ t. reply_lines bodies c (cond t (length past) (last_place none c past)) (e ∷ past)
      ≡ cond t (all_replies past) (but_last past ++ own_line bodies c e.event)) [
        | true ↦ ap (λ b. reply_lines bodies c (length past) past ++ cond b [] (own_line bodies c e.event)) (eq-eqb (length past) (length past) refl)
            ∙ append-nil (reply_lines bodies c (length past) past)
            ∙ all-put past (length past) (omega arith)
        | false ↦ ap (λ b. reply_lines bodies c (last_place none c past) past ++ cond b [] (own_line bodies c e.event)) (ne_eqb (length past) (last_place none c past) apart)
            ∙ ap (λ xs. xs ++ own_line bodies c e.event) (last-cut past none shorter)
      ]

  pub placeless : (past : List Entry) (cut : List ℕ) → client_lines bodies past cut c ≡ cond (contains cut c) (but_last past) (all_replies past) ++ confirmed_lines past c
  placeless past cut =
      ap (λ xs. xs ++ confirmed_lines past c)
      (elim (contains cut c) as (λ t. reply_lines bodies c (cond t (last_place (length past) c past) (length past)) past ≡ cond t (but_last past) (all_replies past))
      [ true ↦ last-cut past (length past) (omega arith) | false ↦ all-put past (length past) (omega arith) ])
