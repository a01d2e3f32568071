-- The lines of a client are those of the entries that concern it.
use Rattle.std.proofs.Common.{◌≡◌, ℕ, ◌≤◌, true, false, cond, List, [], ◌∷◌, ◌++◌, refl, sym, ap, ◌∙◌, append-nil, arith}
use Rattle.std.specs.Prelude.{Option, None, Some, unwrap_or, Vec}
use Rattle.std.specs.Borrow.{Bor}
use Rattle.std.specs.Option.{option_map}
use Rattle.std.specs.Ordering.{nat_cmp}
use Rattle.std.specs.List.{flat_map}
use Rattle.std.specs.BTreeMap.{BTreeMap, get, IsOrdered}
use Rattle.std.specs.declared.alloc.Global.{Global}
use Rattle.std.proofs.lemmas.Bool.{ne_eqb}
use Rattle.cq_bytes.specs.Numbers.{contains}
use Rattle.cq_journal.specs.declared.event.Event.{Event}
use Rattle.cq_journal.specs.declared.event.Event.TheVariants as event
use Rattle.cq_journal.specs.declared.event.Entry.{Entry}
use Rattle.cq_print.specs.Text.{confirmed_line, confirm_of, confirmed_lines, is_delivery_to, client_end, clients_end}
use Rattle.cq_print.specs.Lines.{answers, line_of, own_line, client_lines, clients_lines}
use Rattle.cq_print.specs.Clients.{concerns, own_entries, behind, HasEntries, lines_of}
use Rattle.cq_print.proofs.Places.{all_replies, but_last, placeless}
use Rattle.cq_print.proofs.Rising.{found, given, told-rising}

-- ---- an entry that doesn't concern a client gives it no line

no-answer : (c : ℕ) (e : Event) → concerns c e ≡ false → answers c e ≡ false
no-answer c (event.Confirmed client number id) h = refl
no-answer c _ h = h

no-delivery : (c : ℕ) (e : Event) → concerns c e ≡ false → is_delivery_to c e ≡ false
no-delivery c (event.Delivered client number queue id) h = h
no-delivery c _ h = refl

no-confirm : (c : ℕ) (e : Event) → concerns c e ≡ false → confirm_of c e ≡ []
no-confirm c (event.Confirmed client number id) h = ap (λ b. cond b (confirmed_line c number ∷ []) []) h
no-confirm c _ h = refl

module _ (bodies : ℕ → Option (List ℕ)) (c : ℕ) where
  no-line : (e : Event) → concerns c e ≡ false → own_line bodies c e ≡ []
  no-line e h = ap (λ b. cond b (line_of bodies e ∷ []) []) (no-answer c e h)

  own-replies : (past : List Entry) → all_replies bodies c (own_entries c past) ≡ all_replies bodies c past
  own-replies [] = refl
  own-replies (e ∷ past) =
      (elim (concerns c e.event) as (λ b. concerns c e.event ≡ b → all_replies bodies c (cond b (e ∷ own_entries c past) (own_entries c past)) ≡ all_replies bodies c past ++ own_line bodies c e.event) [
        | true ↦ λ t. ap (λ xs. xs ++ own_line bodies c e.event) (own-replies past)
        | false ↦ λ t. own-replies past ∙ sym (append-nil (all_replies bodies c past)) ∙ ap (λ xs. all_replies bodies c past ++ xs) (sym (no-line e.event t))
      ]) refl

  own-but-last : (past : List Entry) → but_last bodies c (own_entries c past) ≡ but_last bodies c past
  own-but-last [] = refl
  own-but-last (e ∷ past) =
      let line = own_line bodies c e.event in
      (elim (concerns c e.event) as (λ b. concerns c e.event ≡ b → but_last bodies c (cond b (e ∷ own_entries c past) (own_entries c past))
      ≡ cond (is_delivery_to c e.event) (all_replies bodies c past) (but_last bodies c past ++ line)) [
        | true ↦ λ t. ap (λ xs. cond (is_delivery_to c e.event) xs (but_last bodies c (own_entries c past) ++ line)) (own-replies past)
            ∙ ap (λ xs. cond (is_delivery_to c e.event) (all_replies bodies c past) (xs ++ line)) (own-but-last past)
        | false ↦ λ t. own-but-last past
            ∙ sym (append-nil (but_last bodies c past))
            ∙ ap (λ xs. but_last bodies c past ++ xs) (sym (no-line e.event t))
            ∙ ap (λ b. cond b (all_replies bodies c past) (but_last bodies c past ++ line)) (sym (no-delivery c e.event t))
      ]) refl

  own-confirms : (past : List Entry) → confirmed_lines (own_entries c past) c ≡ confirmed_lines past c
  own-confirms [] = refl
  own-confirms (e ∷ past) =
      (elim (concerns c e.event) as (λ b. concerns c e.event ≡ b → confirmed_lines (cond b (e ∷ own_entries c past) (own_entries c past)) c ≡ confirmed_lines past c ++ confirm_of c e.event) [
        | true ↦ λ t. ap (λ xs. xs ++ confirm_of c e.event) (own-confirms past)
        | false ↦ λ t. own-confirms past ∙ sym (append-nil (confirmed_lines past c)) ∙ ap (λ xs. confirmed_lines past c ++ xs) (sym (no-confirm c e.event t))
      ]) refl

  pub own-lines : (past : List Entry) (cut : List ℕ) → client_lines bodies (own_entries c past) cut c ≡ client_lines bodies past cut c
  own-lines past cut =
      placeless bodies c (own_entries c past) cut
      ∙ ap (λ xs. cond (contains cut c) xs (all_replies bodies c (own_entries c past)) ++ confirmed_lines (own_entries c past) c) (own-but-last past)
      ∙ ap (λ xs. cond (contains cut c) (but_last bodies c past) xs ++ confirmed_lines (own_entries c past) c) (own-replies past)
      ∙ ap (λ xs. cond (contains cut c) (but_last bodies c past) (all_replies bodies c past) ++ xs) (own-confirms past)
      ∙ sym (placeless bodies c past cut)

-- ---- the lines of a map of clients

-- no client from the end on has entries
unconcerned : (c : ℕ) (e : Event) → client_end e ≤ c → concerns c e ≡ false
unconcerned c (event.Published client number id queues body) h = ne_eqb client c (λ s. omega (arith, s, h))
unconcerned c (event.Delivered client number queue id) h = ne_eqb client c (λ s. omega (arith, s, h))
unconcerned c (event.Empty client queue) h = ne_eqb client c (λ s. omega (arith, s, h))
unconcerned c (event.Busy client queue) h = ne_eqb client c (λ s. omega (arith, s, h))
unconcerned c (event.Acked client number) h = ne_eqb client c (λ s. omega (arith, s, h))
unconcerned c (event.Unknown client number) h = ne_eqb client c (λ s. omega (arith, s, h))
unconcerned c (event.Ended client) h = ne_eqb client c (λ s. omega (arith, s, h))
unconcerned c (event.Confirmed client number id) h = ne_eqb client c (λ s. omega (arith, s, h))
unconcerned c _ h = refl

none-own : (past : List Entry) (c : ℕ) → clients_end past ≤ c → own_entries c past ≡ []
none-own [] c h = refl
none-own (e ∷ past) c h =
    ap (λ b. cond b (e ∷ own_entries c past) (own_entries c past)) (unconcerned c e.event (omega (arith, h)))
    ∙ none-own past c (omega (arith, h))

pub clients-own : (bodies : ℕ → Option (List ℕ)) (past : List Entry) (cut : List ℕ) (clients : BTreeMap ℕ (Vec (Bor Entry) Global)) → IsOrdered nat_cmp clients → HasEntries clients past
    → lines_of bodies cut clients.entries ≡ clients_lines bodies past cut (clients_end past)
clients-own bodies past cut clients s h =
    told-rising f (clients_lines bodies past cut) clients.entries (clients_end past) s refl
    (λ c. ap (λ xs. clients_lines bodies past cut c ++ xs) (sym (own-lines bodies c past cut) ∙ sym (one c)))
    (λ c l. one c ∙ ap (λ es. client_lines bodies es cut c) (none-own past c l))
  where
    f : ℕ × Vec (Bor Entry) Global → List (List ℕ)
    f e = client_lines bodies (behind e.1.items) cut e.0

    looked-up : (c : ℕ) (o : Option (Vec (Bor Entry) Global))
        → flat_map f (found c o) ≡ client_lines bodies (behind (unwrap_or (option_map (λ (entries : Vec (Bor Entry) Global). entries.items) o) [])) cut c
    looked-up c None = refl
    looked-up c (Some entries) = append-nil (f (c, entries))

    one : (c : ℕ) → given f clients.entries c ≡ client_lines bodies (own_entries c past) cut c
    one c = looked-up c (get nat_cmp clients c) ∙ ap (λ es. client_lines bodies es cut c) (h c)
