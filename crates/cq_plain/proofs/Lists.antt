-- Lists that grow by one, and ids of messages.
use Rattle.std.proofs.Common.{◌≡◌, ℕ, ◌+◌, ◌<◌, Bool, true, false, cond, List, [], ◌∷◌, ◌++◌, length, get_or, take, map, refl, sym, ap, ◌∙◌, add-one, filter, eqb, append_assoc, append-nil}
use Rattle.std.specs.Prelude.{slice_get, Some}
use Rattle.std.proofs.Math.Seq.{take-suc}
use Rattle.std.proofs.lemmas.List.{map-append}
use Rattle.std.proofs.lemmas.Option.{slice_get_within, get_or_from_slice_get}
use Rattle.cq_journal.specs.declared.lines.Line.{Line}
use Rattle.cq_journal.specs.declared.event.Message.{Message}
use Rattle.cq_journal.specs.History.{opened_in}

-- a front with the element after it
pub taken-more : {A : Type 0} (xs : List A) (i : ℕ) (x : A) → slice_get xs i ≡ Some x → take (i + 1) xs ≡ take i xs ++ x ∷ []
taken-more xs i x h = rw (add-one, take-suc xs i x (slice_get_within xs i x h)) (ap (λ k. take i xs ++ k ∷ []) (get_or_from_slice_get xs i x x h))

opened-append : (q : ℕ) (xs ys : List Line) → opened_in q (xs ++ ys) ≡ opened_in q xs ++ opened_in q ys
opened-append q [] ys = refl
opened-append q (x ∷ xs) ys =
    elim (eqb x.queue q) as (λ b. cond b (record { id = x.id; body = x.body } ∷ opened_in q (xs ++ ys)) (opened_in q (xs ++ ys)) ≡ cond b (record { id = x.id; body = x.body } ∷ opened_in q xs) (opened_in q xs) ++ opened_in q ys) [
      | true ↦ ap (λ ms. record { id = x.id; body = x.body } ∷ ms) (opened-append q xs ys)
      | false ↦ opened-append q xs ys
    ]

-- one more line of an opening
opened-more : (q : ℕ) (lines : List Line) (i : ℕ) (l : Line) → i < length lines → l ≡ get_or lines i l
    → map (λ m. m.id) (opened_in q (take (i + 1) lines)) ≡ map (λ m. m.id) (opened_in q (take i lines)) ++ map (λ m. m.id) (opened_in q (l ∷ []))
opened-more q lines i l h e =
    let front : List Message = opened_in q (take i lines) in
    rw (add-one, take-suc lines i l h) (
    ap (map (λ m. m.id)) (opened-append q (take i lines) (get_or lines i l ∷ []))
    ∙ ap (λ k. map (λ m. m.id) (front ++ opened_in q (k ∷ []))) (sym e)
    ∙ map-append (λ m. m.id) front (opened_in q (l ∷ [])))

-- the ids of the lines of a queue, with one more line that stands there
pub ids-added : (q : ℕ) (lines : List Line) (i : ℕ) (l : Line) (old now : List ℕ) → i < length lines → l ≡ get_or lines i l
    → now ≡ old ++ map (λ m. m.id) (opened_in q (take i lines)) → eqb l.queue q ≡ true → now ++ l.id ∷ [] ≡ old ++ map (λ m. m.id) (opened_in q (take (i + 1) lines))
ids-added q lines i l old now h e same here =
    let front : List Message = opened_in q (take i lines) in
    ap (λ xs. xs ++ l.id ∷ []) same
    ∙ append_assoc old (map (λ m. m.id) front) (l.id ∷ [])
    ∙ ap (λ b. old ++ (map (λ m. m.id) front ++ map (λ (m : Message). m.id) (cond b (record { id = l.id; body = l.body } ∷ []) []))) (sym here)
    ∙ ap (λ xs. old ++ xs) (sym (opened-more q lines i l h e))

-- or that doesn't
pub ids-passed : (q : ℕ) (lines : List Line) (i : ℕ) (l : Line) (old now : List ℕ) → i < length lines → l ≡ get_or lines i l
    → now ≡ old ++ map (λ m. m.id) (opened_in q (take i lines)) → eqb l.queue q ≡ false → now ≡ old ++ map (λ m. m.id) (opened_in q (take (i + 1) lines))
ids-passed q lines i l old now h e same there =
    let front : List Message = opened_in q (take i lines) in
    same
    ∙ ap (λ xs. old ++ xs) (sym (append-nil (map (λ m. m.id) front)))
    ∙ ap (λ b. old ++ (map (λ m. m.id) front ++ map (λ (m : Message). m.id) (cond b (record { id = l.id; body = l.body } ∷ []) []))) (sym there)
    ∙ ap (λ xs. old ++ xs) (sym (opened-more q lines i l h e))

-- a test of ids keeps the same messages
pub ids-kept : (test : ℕ → Bool) (ms : List Message) → map (λ m. m.id) (filter (λ m. test m.id) ms) ≡ filter test (map (λ m. m.id) ms)
ids-kept test [] = refl
ids-kept test (m ∷ ms) =
    elim (test m.id) as (λ b. map (λ k. k.id) (cond b (m ∷ filter (λ k. test k.id) ms) (filter (λ k. test k.id) ms)) ≡ cond b (m.id ∷ filter test (map (λ k. k.id) ms)) (filter test (map (λ k. k.id) ms))) [
      | true ↦ ap (λ ids. m.id ∷ ids) (ids-kept test ms)
      | false ↦ ids-kept test ms
    ]
