-- In a legal journal the body that is found by an id is that of the message.
use Rattle.std.proofs.Common.{◌≡◌, ◌≢◌, ℕ, Bool, true, false, cond, List, [], ◌∷◌, ◌++◌, refl, sym, ap, ◌∙◌, subst, append-nil}
use Rattle.std.specs.Prelude.{◌==◌, ◌||◌, Option, None, Some, filter}
use Rattle.std.specs.List.{AllByRecursion}
use Rattle.std.proofs.lemmas.Bool.{eqb-true, eq-eqb}
use Rattle.std.proofs.lemmas.List.Folds.{list_any-append}
use Rattle.cq_bytes.specs.Numbers.{contains}
use Rattle.cq_journal.specs.declared.event.Event.{Event}
use Rattle.cq_journal.specs.declared.event.Event.TheVariants.{Opened, Published}
use Rattle.cq_journal.specs.declared.event.Entry.{Entry}
use Rattle.cq_journal.specs.declared.event.Message.{Message}
use Rattle.cq_journal.specs.declared.lines.Line.{Line}
use Rattle.cq_journal.specs.History.{has_id, opened_in, adds, line, waiting, is_waiting}
use Rattle.cq_journal.specs.Legal.{has, brings, IsFirst, AreLines, Allowed, Legal}
use Rattle.cq_journal.specs.Asks.{body_of}
use Rattle.cq_journal.proofs.Laws.{line-unbrought}
use Rattle.cq_print.specs.Bodies.{or_else, line_body, body_in, find_body}

pub or-true : (b : Bool) → (b || true) ≡ true
or-true true = refl
or-true false = refl

or-left : (a b : Bool) → b ≡ false → (a || b) ≡ true → a ≡ true
or-left true b n h = refl
or-left false b n h = cc

or-right : (a b : Bool) → a ≡ false → (a || b) ≡ true → b ≡ true
or-right true b n h = cc
or-right false b n h = h

-- ---- the first that waits stands in the line

first-kept : (p : Message → Bool) (ms : List Message) (id : ℕ) → IsFirst id (filter p ms) → has_id ms id ≡ true
first-kept p [] id f = absurd f
first-kept p (m ∷ ms) id f =
    (elim (p m) as (λ b. IsFirst id (cond b (m ∷ filter p ms) (filter p ms)) → has_id (m ∷ ms) id ≡ true) [
      | true ↦ λ e. ap (λ b. b || has_id ms id) (eq-eqb m.id id e)
      | false ↦ λ e. ap (λ b. (m.id == id) || b) (first-kept p ms id e) ∙ or-true (m.id == id)
    ]) f

-- what stands in a line was brought
pub brought : (past : List Entry) (q x : ℕ) → has_id (line past q) x ≡ true → has (brings x) past ≡ true
brought past q x h =
    (elim (has (brings x) past) as (λ b. has (brings x) past ≡ b → b ≡ true) [
      | true ↦ λ e. refl
      | false ↦ λ e. (let clash : false ≡ true = sym (line-unbrought past q x e) ∙ h in cc)
    ]) refl

pub first-brought : (past : List Entry) (q id : ℕ) → IsFirst id (waiting past q) → has_id (line past q) id ≡ true
first-brought past q id f = first-kept (is_waiting past q) (line past q) id f

-- ---- bodies of two lists

body_of-second : (ms ns : List Message) (x : ℕ) → has_id ms x ≡ false → body_of x (ms ++ ns) ≡ body_of x ns
body_of-second [] ns x h = refl
body_of-second (m ∷ ms) ns x h =
    (elim (m.id == x) as (λ b. (b || has_id ms x) ≡ false → cond b m.body (body_of x (ms ++ ns)) ≡ body_of x ns) [
      | true ↦ λ e. cc
      | false ↦ λ e. body_of-second ms ns x e
    ]) h

body_of-first-list : (ms ns : List Message) (x : ℕ) → has_id ms x ≡ true → body_of x (ms ++ ns) ≡ body_of x ms
body_of-first-list [] ns x h = cc
body_of-first-list (m ∷ ms) ns x h =
    (elim (m.id == x) as (λ b. (b || has_id ms x) ≡ true → cond b m.body (body_of x (ms ++ ns)) ≡ cond b m.body (body_of x ms)) [
      | true ↦ λ e. refl
      | false ↦ λ e. body_of-first-list ms ns x e
    ]) h

-- ---- opened lines

-- later lines with the id of a line have its body
same-body : (l : Line) (ls : List Line) (x : ℕ) (b : List ℕ) → AllByRecursion (λ k. l.id ≡ k.id → (l.queue ≢ k.queue) × (l.body ≡ k.body)) ls → l.id ≡ x → line_body x ls ≡ Some b → b ≡ l.body
same-body l [] x b a i h = cc
same-body l (k ∷ ks) x b a i h =
    (elim (line_body x ks) as (λ o. line_body x ks ≡ o → or_else o (cond (k.id == x) (Some k.body) None) ≡ Some b → b ≡ l.body) [
      | Some d ↦ λ e s. (let same : d ≡ b = cc in sym same ∙ same-body l ks x d a.1 i e)
      | None ↦ λ e s. (elim (k.id == x) as (λ t. (k.id == x) ≡ t → cond t (Some k.body) None ≡ Some b → b ≡ l.body) [
        | true ↦ λ t s. (let same : k.body ≡ b = cc in sym same ∙ sym (a.0 (i ∙ sym (eqb-true k.id x t))).1)
        | false ↦ λ t s. cc
      ]) refl s
    ]) refl h

lines-found : (ls : List Line) (q x : ℕ) → AreLines ls → has_id (opened_in q ls) x ≡ true → line_body x ls ≡ Some (body_of x (opened_in q ls))
lines-found [] q x a h = cc
lines-found (l ∷ ls) q x a h =
    (elim (l.queue == q) as (λ t. has_id (cond t (record { id = l.id; body = l.body } ∷ opened_in q ls) (opened_in q ls)) x ≡ true
    → line_body x (l ∷ ls) ≡ Some (body_of x (cond t (record { id = l.id; body = l.body } ∷ opened_in q ls) (opened_in q ls)))) [
      | true ↦ λ h. (elim (l.id == x) as (λ t. (l.id == x) ≡ t → (t || has_id (opened_in q ls) x) ≡ true
          → or_else (line_body x ls) (cond t (Some l.body) None) ≡ Some (cond t l.body (body_of x (opened_in q ls)))) [
            | true ↦ λ t h. last l ls x a.0 (eqb-true l.id x t) (line_body x ls) refl
            | false ↦ λ t h. ap (λ o. or_else o None) (lines-found ls q x a.1 h)
          ]) refl h
      | false ↦ λ h. ap (λ o. or_else o (cond (l.id == x) (Some l.body) None)) (lines-found ls q x a.1 h)
    ]) h
  where
    last : (l : Line) (ls : List Line) (x : ℕ) → AllByRecursion (λ k. l.id ≡ k.id → (l.queue ≢ k.queue) × (l.body ≡ k.body)) ls → l.id ≡ x
        → (o : Option (List ℕ)) → line_body x ls ≡ o → or_else o (Some l.body) ≡ Some l.body
    last l ls x a i None e = refl
    last l ls x a i (Some b) e = ap Some (same-body l ls x b a i e)

-- ---- the body of a message is found by its id

found-event : (e : Event) (past : List Entry) (q x : ℕ) → Allowed past e → (has_id (line past q) x ≡ true → find_body x past ≡ Some (body_of x (line past q)))
    → has_id (line past q ++ adds q e) x ≡ true → or_else (body_in x e) (find_body x past) ≡ Some (body_of x (line past q ++ adds q e))
found-event (Opened lines) past q x a f h =
    let none : line past q ≡ [] = ap (λ (p : List Entry). line p q) a.0 in
    ap (λ o. or_else o (find_body x past)) (lines-found lines q x a.1 (subst (λ (ms : List Message). has_id (ms ++ opened_in q lines) x ≡ true) none h))
    ∙ ap (λ (ms : List Message). Some (body_of x (ms ++ opened_in q lines))) (sym none)
found-event (Published c n id queues body) past q x a f h =
    (elim (id == x) as (λ t. (id == x) ≡ t → or_else (cond t (Some body) None) (find_body x past) ≡ Some (body_of x (line past q ++ adds q (Published c n id queues body)))) [
      | true ↦ λ t. (
          let unbrought : has_id (line past q) x ≡ false = line-unbrought past q x (subst (λ i. has (brings i) past ≡ false) (eqb-true id x t) a.1) in
          ap Some (sym (body_of-second (line past q) (adds q (Published c n id queues body)) x unbrought
          ∙ added (contains queues q) id body x t (or-right _ _ unbrought (sym (list_any-append (λ m. m.id == x) (line past q) (adds q (Published c n id queues body))) ∙ h)))))
      | false ↦ λ t. (
          let there : has_id (line past q) x ≡ true = or-left _ _ (not-added (contains queues q) id body x t) (sym (list_any-append (λ m. m.id == x) (line past q) (adds q (Published c n id queues body))) ∙ h) in
          f there ∙ ap Some (sym (body_of-first-list (line past q) (adds q (Published c n id queues body)) x there)))
    ]) refl
  where
    added : (t : Bool) (id : ℕ) (body : List ℕ) (x : ℕ) → (id == x) ≡ true → has_id (cond t (record { id = id; body = body } ∷ []) []) x ≡ true → body_of x (cond t (record { id = id; body = body } ∷ []) []) ≡ body
    added true id body x e h = ap (λ b. cond b body []) e
    added false id body x e h = cc

    not-added : (t : Bool) (id : ℕ) (body : List ℕ) (x : ℕ) → (id == x) ≡ false → has_id (cond t (record { id = id; body = body } ∷ []) []) x ≡ false
    not-added true id body x e = ap (λ b. b || false) e
    not-added false id body x e = refl
found-event _ past q x a f h =
    f (subst (λ (ms : List Message). has_id ms x ≡ true) (append-nil (line past q)) h) ∙ ap (λ (ms : List Message). Some (body_of x ms)) (sym (append-nil (line past q)))

pub found : (past : List Entry) (q x : ℕ) → Legal past → has_id (line past q) x ≡ true → find_body x past ≡ Some (body_of x (line past q))
found [] q x l h = cc
found (e ∷ past) q x l h = found-event e.event past q x l.0 (found past q x l.3) h

-- no entry brings a body for an id that was brought before
pub unbrought-body : (e : Event) (past : List Entry) (x : ℕ) → Allowed past e → has (brings x) past ≡ true → body_in x e ≡ None
unbrought-body (Opened lines) past x a h = let clash : false ≡ true = sym (ap (λ (p : List Entry). has (brings x) p) a.0) ∙ h in cc
unbrought-body (Published c n id queues body) past x a h =
    (elim (id == x) as (λ t. (id == x) ≡ t → cond t (Some body) None ≡ None) [
      | true ↦ λ t. (let clash : false ≡ true = sym (subst (λ i. has (brings i) past ≡ false) (eqb-true id x t) a.1) ∙ h in cc)
      | false ↦ λ t. refl
    ]) refl
unbrought-body _ past x a h = refl
