-- The lines with the bodies that are found by their ids are the text of a legal session.
use Rattle.std.proofs.Common.{◌≡◌, ℕ, zero, suc, true, false, cond, List, [], ◌∷◌, ◌++◌, map, refl, sym, ap, ◌∙◌, subst}
use Rattle.std.specs.Prelude.{◌==◌, ◌||◌, Option, unwrap_or, Result, OnOk}
use Rattle.cq_io.specs.Streams.{Adds}
use Rattle.std.proofs.lemmas.Bool.{eqb-true}
use Rattle.std.proofs.lemmas.List.{map-append}
use Rattle.cq_bytes.specs.Numbers.{contains}
use Rattle.cq_journal.specs.declared.reply.Reply.{Reply}
use Rattle.cq_journal.specs.declared.reply.Reply.TheVariants as reply
use Rattle.cq_journal.specs.declared.event.Event.{Event}
use Rattle.cq_journal.specs.declared.event.Event.TheVariants as event
use Rattle.cq_journal.specs.declared.event.Entry.{Entry}
use Rattle.cq_journal.specs.History.{line}
use Rattle.cq_journal.specs.Legal.{has, brings, Allowed, Legal}
use Rattle.cq_journal.specs.Asks.{own, body_of, reply_of, replies}
use Rattle.cq_print.specs.Text.{reply_line, confirmed_lines, is_delivery_to, cut_replies, client_text, clients_text}
use Rattle.cq_print.specs.Bodies.{or_else, find_body}
use Rattle.cq_print.specs.Lines.{own_line, client_lines, clients_lines}
use Rattle.cq_print.proofs.Found.{or-true, brought, first-brought, found, unbrought-body}
use Rattle.cq_print.proofs.Places.{all_replies, but_last, placeless}

-- each id that was brought has its body
abbrev pub Agrees : (ℕ → Option (List ℕ)) → List Entry → Type 0
Agrees bodies past = (x : ℕ) → has (brings x) past ≡ true → bodies x ≡ find_body x past

agrees-before : (bodies : ℕ → Option (List ℕ)) (e : Entry) (past : List Entry) → Legal (e ∷ past) → Agrees bodies (e ∷ past) → Agrees bodies past
agrees-before bodies e past l a x h =
    a x (ap (λ b. brings x e.event || b) h ∙ or-true (brings x e.event))
    ∙ ap (λ o. or_else o (find_body x past)) (unbrought-body e.event past x l.0 h)

-- the lines of a reply of the client's own
own-lines : (c client : ℕ) (r : Reply) → map (reply_line c) (own client c r) ≡ cond (client == c) (reply_line client r ∷ []) []
own-lines c client r =
    (elim (client == c) as (λ t. (client == c) ≡ t → map (reply_line c) (cond t (r ∷ []) []) ≡ cond t (reply_line client r ∷ []) []) [
      | true ↦ λ t. ap (λ n. reply_line n r ∷ []) (sym (eqb-true client c t))
      | false ↦ λ t. refl
    ]) refl

event-lines : (e : Event) (past : List Entry) (c : ℕ) (bodies : ℕ → Option (List ℕ)) → Allowed past e → Legal past → Agrees bodies past
    → own_line bodies c e ≡ map (reply_line c) (reply_of past c e)
event-lines (event.Published client number id queues body) past c bodies a l f = sym (own-lines c client (reply.Published number))
event-lines (event.Delivered client number q id) past c bodies a l f =
    let stands = first-brought past q id a.1 in
    ap (λ o. cond (client == c) (reply_line client (reply.Got number q (unwrap_or o [])) ∷ []) []) (f id (brought past q id stands) ∙ found past q id l stands)
    ∙ sym (own-lines c client (reply.Got number q (body_of id (line past q))))
event-lines (event.Empty client q) past c bodies a l f = sym (own-lines c client (reply.Empty q))
event-lines (event.Busy client q) past c bodies a l f = sym (own-lines c client (reply.Busy q))
event-lines (event.Acked client number) past c bodies a l f = sym (own-lines c client (reply.Acked number))
event-lines (event.Unknown client number) past c bodies a l f = sym (own-lines c client (reply.Unknown number))
event-lines (event.Ended client) past c bodies a l f = sym (own-lines c client reply.Ended)
event-lines _ past c bodies a l f = refl

all-told : (past : List Entry) (c : ℕ) (bodies : ℕ → Option (List ℕ)) → Legal past → Agrees bodies past → all_replies bodies c past ≡ map (reply_line c) (replies past c)
all-told [] c bodies l f = refl
all-told (e ∷ past) c bodies l f =
    let before = agrees-before bodies e past l f in
    ap (λ xs. xs ++ own_line bodies c e.event) (all-told past c bodies l.3 before)
    ∙ ap (λ xs. map (reply_line c) (replies past c) ++ xs) (event-lines e.event past c bodies l.0 l.3 before)
    ∙ sym (map-append (reply_line c) (replies past c) (reply_of past c e.event))

cut-told : (past : List Entry) (c : ℕ) (bodies : ℕ → Option (List ℕ)) → Legal past → Agrees bodies past → but_last bodies c past ≡ map (reply_line c) (cut_replies past c)
cut-told [] c bodies l f = refl
cut-told (e ∷ past) c bodies l f =
    let before = agrees-before bodies e past l f in
    elim (is_delivery_to c e.event) as (λ t. cond t (all_replies bodies c past) (but_last bodies c past ++ own_line bodies c e.event)
    ≡ map (reply_line c) (cond t (replies past c) (cut_replies past c ++ reply_of past c e.event))) [
      | true ↦ all-told past c bodies l.3 before
      | false ↦ ap (λ xs. xs ++ own_line bodies c e.event) (cut-told past c bodies l.3 before)
          ∙ ap (λ xs. map (reply_line c) (cut_replies past c) ++ xs) (event-lines e.event past c bodies l.0 l.3 before)
          ∙ sym (map-append (reply_line c) (cut_replies past c) (reply_of past c e.event))
    ]

client-told : (past : List Entry) (cut : List ℕ) (c : ℕ) (bodies : ℕ → Option (List ℕ)) → Legal past → Agrees bodies past
    → client_lines bodies past cut c ≡ client_text past cut c
client-told past cut c bodies l f =
    placeless bodies c past cut
    ∙ ap (λ xs. xs ++ confirmed_lines past c)
    (elim (contains cut c) as (λ t. cond t (but_last bodies c past) (all_replies bodies c past) ≡ map (reply_line c) (cond t (cut_replies past c) (replies past c)))
    [ true ↦ cut-told past c bodies l f | false ↦ all-told past c bodies l f ])

pub clients-told : (past : List Entry) (cut : List ℕ) (n : ℕ) (bodies : ℕ → Option (List ℕ)) → Legal past → ((x : ℕ) → bodies x ≡ find_body x past)
    → clients_lines bodies past cut n ≡ clients_text past cut n
clients-told past cut zero bodies l f = refl
clients-told past cut (suc n) bodies l f =
    ap (λ xs. xs ++ client_lines bodies past cut n) (clients-told past cut n bodies l f)
    ∙ ap (λ xs. clients_text past cut n ++ xs) (client-told past cut n bodies l (λ x h. f x))

-- what was put, under another name
pub retold : {T E : Type 0} (result : Result T E) (old new : Option (List (List ℕ))) (lines text : List (List ℕ)) → lines ≡ text → OnOk result (Adds old new lines) → OnOk result (Adds old new text)
retold result old new lines text same put = subst (λ (t : List (List ℕ)). OnOk result (Adds old new t)) same put
